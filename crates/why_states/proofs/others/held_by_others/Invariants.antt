use Rattle.std.proofs.Common.{◌≡◌, ◌++◌, ◌&&◌, drop}
use Rattle.std.specs.Prelude.{filter}
use Rattle.why_lines.specs.SemNos.{sem_numbers}
use Rattle.rt_model.specs.Past.{Past}
use Rattle.rt_model.specs.Ceilings.{is_pcp}
use Rattle.rt_model.specs.Group.{protocol}
use Rattle.rt_model.specs.Holders.{holder}
use Rattle.why_texts.specs.Standings.{is_other}
use Rattle.why_states.specs.States.{IsAt, group_of}
use Rattle.why_states.proofs.others.held_by_others.Given as goal

-- those so far, and then those of the rest, are those of all
abbrev pub invariant-loop-sem : goal.invariant-loop-sem
invariant-loop-sem l = (past : Past) → IsAt past l.state → sem_numbers l.held.items ++ filter (λ n. is_pcp (protocol (group_of l.state) n) && is_other (group_of l.state) l.task.0 (holder (group_of l.state) n past)) (sem_numbers (drop l.sem-index l.state.sems.now)) ≡ filter (λ n. is_pcp (protocol (group_of l.state) n) && is_other (group_of l.state) l.task.0 (holder (group_of l.state) n past)) (sem_numbers l.state.sems.now)
