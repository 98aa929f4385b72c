use Rattle.std.proofs.Common.{◌≡◌, ◌≢◌, ◌⊎◌, ℕ, ◌+◌, sym, arith, ⊎_elim}
use Rattle.cpu_site.proofs.Marking.{marked-same, marked-more}
use Rattle.cpu_site.proofs.interrupts.changed.Goals.{then-before-i, else-before-i}
use Rattle.cpu_site.proofs.interrupts.changed.Goals as goal

-- one that is not as it was is one more
one_more : (a b : ℕ) → b ≢ a → (a ≡ b) ⊎ (a ≡ b + 1) → a ≡ b + 1
one_more a b other either = ⊎_elim (λ (e : a ≡ b). absurd (other (sym e))) (λ (e : a ≡ b + 1). e) either

pub loop-i-preserved : goal.loop-i-preserved
loop-i-preserved c =
    elim c.if-before-i.branch [
      | then-before-i w ↦
          let more = marked-more c.args.before.now c.args.after.now c.loop-i.positions.items c.loop-i.i c.loop-i.invariant.0 (one_more _ _ w.if-before-i.true (c.requires.each c.loop-i.i c.loop-i-test.true)) in
          (rw (w.positions-is, w.push_reserved.ensures.items) more, rw w.positions-is (omega (arith, c.loop-i.invariant.1, w.push_reserved.ensures.capacity)))
      | else-before-i w ↦
          let same = marked-same c.args.before.now c.args.after.now c.loop-i.positions.items c.loop-i.i c.loop-i.invariant.0 (sym w.if-before-i.false) in
          rw w.positions-is (same, c.loop-i.invariant.1)
    ]
