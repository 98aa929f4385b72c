use Rattle.std.proofs.Common.{◌≡◌, ℕ, suc, ◌+◌, ◌<◌, length, take, sym, ap, ◌∙◌, arith}
use Rattle.std.specs.Prelude.{if◌then◌else◌}
use Rattle.rt_plays.specs.Scripts.{script}
use Rattle.split_counts.specs.Room.{is_unlock}
use Rattle.split_laws.specs.Counts.{count_steps}
use Rattle.split_part.proofs.Unlocks.{counted-more}
use Rattle.split_part.proofs.opening.unlocks_in.Goals as goal
use Rattle.split_part.proofs.opening.unlocks_in.Goals.{then-is_unlock_of, else-is_unlock_of}

pub loop-step-preserved : goal.loop-step-preserved
loop-step-preserved c =
    let inv = c.loop-step.invariant in
    let i = c.loop-step.step-index in
    let steps = c.args.steps.now in
    let q = c.args.cpu.0 in
    let high : i < length steps = omega (arith, c.loop-step-test.true) in
    let before = count_steps is_unlock (script (take i steps) q) in
    let told = c.is_unlock_of.ensures in
    let more = counted-more is_unlock q steps i _ high in
    elim c.if-is_unlock_of.branch [
      | then-is_unlock_of w ↦ record {
        count_is = w.count-is ∙ ap (λ n. n + 1) inv.count_is ∙ ap (λ b. before + (if b then 1 else 0)) (sym w.if-is_unlock_of.true ∙ told) ∙ sym more ∙ ap (λ n. count_steps is_unlock (script (take n steps) q)) (one_more i);
        few = omega (arith, w.count-is, inv.few);
      }
      | else-is_unlock_of w ↦ record {
        count_is = w.count-is ∙ inv.count_is ∙ sym (plus_none before) ∙ ap (λ b. before + (if b then 1 else 0)) (sym w.if-is_unlock_of.false ∙ told) ∙ sym more ∙ ap (λ n. count_steps is_unlock (script (take n steps) q)) (one_more i);
        few = omega (arith, w.count-is, inv.few);
      }
    ]
  where
    one_more : (n : ℕ) → suc n ≡ n + 1
    one_more n = omega (arith)

    plus_none : (n : ℕ) → n + 0 ≡ n
    plus_none n = omega (arith)
