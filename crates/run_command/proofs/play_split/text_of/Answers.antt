use Rattle.std.proofs.Common.{◌≡◌, ℕ, false, refl, sym, ap, ◌∙◌, subst}
use Rattle.std.specs.Prelude.{Err, Result, Vec}
use Rattle.std.specs.declared.alloc.Global.{Global}
use Rattle.rt_fault.specs.declared.status.Status.{Status}
use Rattle.split_set.specs.SplitSets.{is_split_set}
use Rattle.run_command.specs.Split.{IsSplitRun}
use Rattle.run_command.proofs.play_split.text_of.Goals as goal

pub returns-then-not-is_split_set : goal.returns-then-not-is_split_set
returns-then-not-is_split_set g c =
    let none : is_split_set c.args.setup.now ≡ false = ap is_split_set (sym c.parts.ensures.parts) ∙ sym c.is_split_set.ensures ∙ c.if-not-is_split_set.true in
    subst (λ (s : Status). let r : Result (Vec ℕ Global) Status = Err s in IsSplitRun c.args.setup.now r) (sym c.refused.ensures) (none, refl)
