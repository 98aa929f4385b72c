use Rattle.std.proofs.Common.{◌≡◌, drop}
use Rattle.rt_base.specs.TaskNos.{numbers}
use Rattle.rt_rules.specs.Rankings.{ranked_by}
use Rattle.part_state.specs.inside.Candidates.{head, ranked_best}
use Rattle.part_state.specs.Reads.{key_in, may_run}
use Rattle.part_state.proofs.state.PartState.linked.Given as goal

-- the best of the tasks from position i on
abbrev pub invariant-loop-i : goal.invariant-loop-i
invariant-loop-i l =
    ranked_best l.best ≡ head (ranked_by (key_in l.parts l.ceilings l.self) (may_run l.parts l.ceilings l.self) (numbers (drop l.i l.tasks)))
