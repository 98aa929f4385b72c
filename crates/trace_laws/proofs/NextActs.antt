-- A step that may come next in a body run has an act of its group.
use Rattle.std.proofs.Common.{◌≡◌, ℕ, Bool, true, false, inl, inr, refl, sym, ap, subst}
use Rattle.std.specs.Prelude.{◌==◌, nat_le, if◌then◌else◌, Option, None, Some}
use Rattle.rt_task.specs.declared.Act.{Act}
use Rattle.rt_task.specs.declared.Act.TheVariants as acts
use Rattle.rt_task.specs.declared.Step.{Step}
use Rattle.rt_task.specs.Validity.{IsValid}
use Rattle.rt_model.specs.Group.{Group}
use Rattle.rt_model.specs.Past.{Past}
use Rattle.rt_model.specs.Situations.{next_act, situation}
use Rattle.rt_model.specs.Steps.{IsActOf}
use Rattle.rt_plays.specs.NextSteps.{MayComeNext, act_going_on}
use Rattle.rt_plays.specs.Turns.{steps_since}
use Rattle.rt_plays.proofs.StepLaws.{begins, goes-on}
use Rattle.body_play.proofs.ValidBodies.{next-fits}

going-fits : (g : Group) → IsValid g.setup → (q : ℕ) (past : Past) (act : Act) → act_going_on g q past ≡ Some act → IsActOf g act
unfolding act_going_on
going-fits g valid q past act h = by_case (steps_since q past == 0) (nat_le 17 (steps_since q past)) h
  where
    by_case : (none late : Bool) → (if none then Some acts.Irq else (if late then None else next_act g (situation g q past))) ≡ Some act → IsActOf g act
    by_case true late m = let same : acts.Irq ≡ act = cc in subst (IsActOf g) same tt
    by_case false true m = cc
    by_case false false m = next-fits g valid (situation g q past) act m

pub act-fits : (g : Group) → IsValid g.setup → (past : Past) (s : Step) → MayComeNext g past s → IsActOf g s.act
act-fits g valid past s (inl going) = going-fits g valid s.cpu.0 past s.act (goes-on g past s going).act_is
act-fits g valid past s (inr begin) = subst (IsActOf g) (sym (begins g past s begin).tick) tt
