-- What is read off what a partition keeps is what the definitions say of its past.
use Rattle.std.specs.Prelude.{◌≡◌, ℕ, ◌<◌, ◌≤◌, true, Some}
use Rattle.rt_base.specs.declared.TheConstants.{MOST_STEPS, TICK_END}
use Rattle.rt_task.specs.Validity.{IsValid}
use Rattle.rt_rules.specs.Numbers.{has}
use Rattle.rt_model.specs.Group.{Group, cpus, sems}
use Rattle.rt_model.specs.Group as group
use Rattle.rt_model.specs.Past.{entries_in, now}
use Rattle.mpcp_ceilings.specs.Ceilings.{AreCeilings, CeilingTable}
use Rattle.split_rules.specs.PartLinks.{effective_key, eligible, linked, part, tasks}
use Rattle.split_rules.specs.PartPast.{PartPast, moves}
use Rattle.split_rules.specs.PartSems.{holding}
use Rattle.split_laws.specs.Keys.{AllBoost}
use Rattle.split_laws.specs.Parts.{IsSeat}
use Rattle.part_state.specs.Reads.{CanRead, key_in, link_in, may_run}
use Rattle.part_state.specs.States.{IsAt, PartState}

-- what a task holds is one of the semaphores
abbrev pub HoldsKnown : Group → PartPast → Type 0
HoldsKnown g past = (t r : ℕ) → holding t past ≡ Some r → has r (sems g) ≡ true

-- each holder is boosted, by these ceilings under MPCP
pub record AreBoosted (g : Group) (past : PartPast) (c : CeilingTable) : Type 0 where
  pub boost : AllBoost g
  pub ceilings : AreCeilings g c
  pub known : HoldsKnown g past

-- of each task of the group
pub record IsRead (g : Group) (q t : ℕ) (past : PartPast) (c : CeilingTable) (s : PartState) : Type 0 where
  pub key_is : key_in g.setup c s t ≡ effective_key g q t past
  pub may_run_is : may_run g.setup c s t ≡ eligible g q t past

abbrev pub TasksAreRead : Type 0
TasksAreRead = (g : Group) (q t : ℕ) (past : PartPast) (c : CeilingTable) (s : PartState) → AreBoosted g past c → IsAt g past s
    → has t (group.tasks g) ≡ true → IsRead g q t past c s

-- and the link of a partition of one processor
abbrev pub LinkIsRead : Type 0
LinkIsRead = (g : Group) (q : ℕ) (past : PartPast) (c : CeilingTable) (s : PartState) → IsSeat g q → cpus g (part g q) ≡ 1
    → AreBoosted g past c → IsAt g past s → link_in g.setup c s (tasks g q) ≡ linked g q past

-- Of each task all can be read, in a valid set within the limits of steps and of ticks.
abbrev pub CanBeRead : Type 0
CanBeRead = (g : Group) (t : ℕ) (past : PartPast) (s : PartState) → IsValid g.setup → entries_in (moves past) ≤ MOST_STEPS
    → now (moves past) < TICK_END → HoldsKnown g past → IsAt g past s → has t (group.tasks g) ≡ true → CanRead g.setup s t
