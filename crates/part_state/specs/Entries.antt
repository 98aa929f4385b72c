-- What a partition keeps after each entry of a legal history is of the past with that entry.
use Rattle.std.specs.Prelude.{◌≡◌, ℕ, true, false, List, []}
use Rattle.rt_task.specs.Validity.{IsValid}
use Rattle.rt_task.specs.declared.Task.{Task}
use Rattle.rt_rules.specs.Numbers.{has}
use Rattle.rt_model.specs.Group.{Group, group_processors, task, tasks}
use Rattle.split_rules.specs.PartHistories.{IsEntryAt, IsLegalFrom, after, past_of}
use Rattle.split_rules.specs.declared.SplitAct.{SplitAct}
use Rattle.split_rules.specs.declared.SplitAct.TheVariants.{Plain, Take}
use Rattle.split_rules.specs.declared.SplitEntry.{SplitEntry}
use Rattle.part_state.specs.Reading.{HoldsKnown}
use Rattle.part_state.specs.States.{IsAt, PartState, after_act, after_take, with_clock}

abbrev pub after_by : List Task → ℕ → SplitAct → SplitEntry → PartState → PartState
after_by all q (Plain act) e p = after_act all q act e.reply (with_clock e.tick.0 p)
after_by all q (Take s n t) e p = after_take (record { sem = s.0; no = n; task = t.0 }) p

-- a step is a move of the clock and an act
abbrev pub after_entry : List Task → ℕ → SplitEntry → PartState → PartState
after_entry all q e p = after_by all q e.act e p

-- the processor is of the group, of whose tasks no budget ends a job
pub record IsPlainGroup (g : Group) (q : ℕ) : Type 0 where
  pub inside : has q (group_processors g) ≡ true
  pub plain : (t : ℕ) → has t (tasks g) ≡ true → (task g t).enforce ≡ false

abbrev pub KeptAfterEntry : Type 0
KeptAfterEntry = (g : Group) (q : ℕ) (es : List SplitEntry) (e : SplitEntry) (p : PartState) → IsPlainGroup g q → IsLegalFrom g q [] es
    → IsEntryAt g q (past_of g q es) e → IsAt g (past_of g q es) p
    → IsAt g (after g q e (past_of g q es)) (after_entry g.setup.tasks q e p)

-- What is held in a legal history are semaphores of the set.
abbrev pub HeldIsKnown : Type 0
HeldIsKnown = (g : Group) (q : ℕ) (es : List SplitEntry) → IsValid g.setup → IsLegalFrom g q [] es → HoldsKnown g (past_of g q es)
