-- What body runs add to the laws: their processors take an interrupt before they lock.
use Rattle.std.specs.Prelude.{◌≡◌, ℕ, ◌+◌, ◌≤◌, true, false, List, ◌++◌}
use Rattle.rt_task.specs.Validity.{IsValid}
use Rattle.rt_task.specs.RuleWords.{is_p_res}
use Rattle.rt_rules.specs.declared.history.Entry.{Entry}
use Rattle.rt_rules.specs.Numbers.{has}
use Rattle.rt_model.specs.Group.{Group, tasks}
use Rattle.rt_model.specs.Histories.{past_of}
use Rattle.rt_laws.specs.BlockedOnce.{takes_interrupts, sections_seen, waiting_at_first}
use Rattle.rt_plays.specs.BodyHistories.{IsBodyHistory}

-- At every front of a body history each accepted Lock came where no interrupt was pending at its processor.
abbrev pub TurnsTakeInterrupts : Type 0
TurnsTakeInterrupts =
    (g : Group) (front back : List Entry) → IsValid g.setup → is_p_res g.setup.plugin ≡ false → IsBodyHistory g (front ++ back)
    → takes_interrupts g (past_of g front) ≡ true

-- There a job is blocked by at most one critical section of lower tasks, and one more for each that waited as its stretch began.
abbrev pub TurnsBlockAtMost : Type 0
TurnsBlockAtMost =
    (g : Group) (front back : List Entry) (t : ℕ) → IsValid g.setup → is_p_res g.setup.plugin ≡ false → IsBodyHistory g (front ++ back)
    → has t (tasks g) ≡ true → sections_seen g t (past_of g front) ≤ 1 + waiting_at_first g t (past_of g front)
