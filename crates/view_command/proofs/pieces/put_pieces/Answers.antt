use Rattle.std.proofs.Common.{rules, ◌≡◌, ◌∙◌, ℕ, zero, suc, ◌<◌, List, [], ◌∷◌, ◌++◌, length, get_or, take, drop, refl, ap, arith, append_assoc, subst}
use Rattle.std.specs.Prelude.{Vec}
use Rattle.std.specs.declared.alloc.Global.{Global}
use Rattle.rt_fault.specs.Held.{ExtendsByPrefix}
use Rattle.rt_fault.proofs.HeldLaws.{ExtendsByPrefix-append, ExtendsByPrefix-more}
use Rattle.event_lines.specs.WholeText.{whole_text}
use Rattle.view_command.proofs.pieces.put_pieces.Goals as goal

-- the pieces before one, it, and those behind it
split_at : (pieces : List (Vec ℕ Global)) (i : ℕ) (d : Vec ℕ Global) → i < length pieces
    → (whole_text (take i pieces) ++ (get_or pieces i d).items) ++ whole_text (drop (suc i) pieces) ≡ whole_text pieces
split_at [] i d h = absurd (omega arith)
split_at (x ∷ xs) zero d h = refl
split_at (x ∷ xs) (suc i) d h =
    let front = whole_text (take i xs) in
    let piece = (get_or xs i d).items in
    let rest = whole_text (drop (suc i) xs) in
    ap (λ z. z ++ rest) (append_assoc x.items front piece) ∙ append_assoc x.items (front ++ piece) rest ∙ ap (λ z. x.items ++ z) (split_at xs i d (omega arith))

pub returns-in_err-put_all-clause-failed : goal.returns-in_err-put_all-clause-failed
returns-in_err-put_all-clause-failed g c =
    let pieces = c.args.pieces.now in
    let i = c.loop-piece.piece-index in
    let piece = c.piece-item.result in
    let front = whole_text (take i pieces) in
    let before = g.K.Sink.held c.args.out.now in
    let now = g.K.Sink.held c.put_all.new.out in
    let piece_is = c.as_slice.ensures.value ∙ ap (λ (v : Vec ℕ Global). v.items) c.piece-item.is in
    let part = ExtendsByPrefix-append before _ now front _ c.loop-piece.invariant.held c.in_err-put_all.ensures.failed in
    let more = ExtendsByPrefix-more before now _ (whole_text (drop (suc i) pieces)) part in
    let whole = ap (λ xs. (front ++ xs) ++ whole_text (drop (suc i) pieces)) piece_is ∙ split_at pieces i piece c.loop-piece-test.true in
    let first : ExtendsByPrefix before now (whole_text pieces) = subst (λ (xs : List ℕ). ExtendsByPrefix before now xs) whole more in
    search rules
