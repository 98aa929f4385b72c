use Rattle.group_sems.proofs.RefusalLaws.{IsRest}
use Rattle.group_sems.proofs.refusals.holds_other.Given as goal

-- the rest answers as the whole
abbrev pub invariant-loop-sem : goal.invariant-loop-sem
invariant-loop-sem l = IsRest l.parts l.sems l.task.0 l.sem-index l.of
