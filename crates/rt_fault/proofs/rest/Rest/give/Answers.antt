use Rattle.std.proofs.Common.{◌≡◌, ℕ, List, ◌+◌, ◌-◌, ◌++◌, take, drop, length, refl, ap, sym, ◌∙◌, length-take, arith}
use Rattle.std.proofs.lemmas.List.{take-append-drop, drop-drop}
use Rattle.std.proofs.Math.Seq.{take-append_seam}
use Rattle.rt_fault.proofs.rest.Rest.give.Goals as goal

-- what was left is what was copied to the front of the buffer, and what is left then
given_front :
    (n at to : ℕ) (bytes part buf left : List ℕ) → part ≡ take (to - at) (drop at bytes) → to ≡ at + n → length part ≡ n
    → drop at bytes ≡ left → left ≡ take n (part ++ drop n buf) ++ drop (at + n) bytes
given_front n at to bytes part buf left part_is to_is length_is left_is =
    let front : take n (part ++ drop n buf) ≡ part = rw (← length_is) (take-append_seam part (drop (length part) buf)) in
    let size : to - at ≡ n = omega arith in
    rw (front, part_is, size, ← drop-drop n at bytes, take-append-drop) (sym left_is)

pub returns-clause-given : goal.returns-clause-given
returns-clause-given c =
    given_front c.min-count.result c.self.inside.at (c.self.inside.at + c.min-count.result) c.self.inside.bytes.items
    c.copy_from_slice.new.self c.args.buf.now c.args.self.now
    (c.copy_from_slice.ensures.after ∙ ap (λ s. take (c.self.inside.at + c.min-count.result - c.self.inside.at) (drop c.self.inside.at s)) c.as_slice.ensures.value)
    refl (c.copy_from_slice.ensures.len ∙ simp length-take (omega (arith, c.min-count.ensures, c.min.ensures))) c.self.view_is
