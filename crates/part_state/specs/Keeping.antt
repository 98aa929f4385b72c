-- What is kept after each move of a partition, and after each grant that it takes, is of the past with it.
use Rattle.std.specs.Prelude.{◌≡◌, ℕ, true, false, List, [], ◌∷◌, length}
use Rattle.rt_base.specs.declared.Ask.{Ask}
use Rattle.rt_task.specs.declared.Act.{Act}
use Rattle.rt_task.specs.declared.Act.TheVariants as acts
use Rattle.rt_task.specs.declared.Task.{Task}
use Rattle.rt_rules.specs.declared.history.Reply.{Reply}
use Rattle.rt_rules.specs.Numbers.{has}
use Rattle.rt_model.specs.Group.{Group, tasks}
use Rattle.rt_model.specs.Past.{Acted, Clock, accepted}
use Rattle.group_jobs.specs.Kept.{HasRoom}
use Rattle.split_rules.specs.PartAnswers.{answer, part_act}
use Rattle.split_rules.specs.PartPast.{Claim, Moved, PartPast, Took}
use Rattle.split_facts.specs.Kept.{IsPlainPart}
use Rattle.part_state.specs.States.{IsAt, PartState, after_act, after_take, opened, with_clock}

abbrev pub KeptAtOpening : Type 0
KeptAtOpening = (g : Group) (m : ℕ) → HasRoom g m → IsAt g [] (opened (length g.setup.tasks) m)

abbrev pub KeptAfterClock : Type 0
KeptAfterClock = (g : Group) (tick : ℕ) (past : PartPast) (p : PartState) → IsAt g past p
    → IsAt g (Moved (Clock tick) ∷ past) (with_clock tick p)

abbrev pub KeptAfterAct : Type 0
KeptAfterAct = (g : Group) (q : ℕ) (act : Act) (a : Ask) (reply : Reply) (past : PartPast) (p : PartState) → IsPlainPart g q past
    → reply ≡ answer g q act a past → IsAt g past p
    → IsAt g (Moved (Acted (part_act g q act reply past)) ∷ past) (after_act g.setup.tasks q act reply p)

abbrev pub KeptAfterTake : Type 0
KeptAfterTake = (g : Group) (k : Claim) (past : PartPast) (p : PartState) → has k.task (tasks g) ≡ true → IsAt g past p
    → IsAt g (Took k ∷ past) (after_take k p)

-- An act that is refused leaves what is kept, and so does a Tick.
pub record StaysBy (all : List Task) (q : ℕ) (act : Act) (reply : Reply) (p : PartState) : Type 0 where
  pub refused : accepted reply ≡ false → after_act all q act reply p ≡ p
  pub tick : act ≡ acts.Tick → after_act all q act reply p ≡ p

abbrev pub StateStays : Type 0
StateStays = (all : List Task) (q : ℕ) (act : Act) (reply : Reply) (p : PartState) → StaysBy all q act reply p
