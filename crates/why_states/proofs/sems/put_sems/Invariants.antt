use Rattle.std.proofs.Common.{◌≡◌, ◌++◌, drop}
use Rattle.std.specs.Prelude.{flat_map}
use Rattle.why_lines.specs.SemNos.{sem_numbers}
use Rattle.rt_model.specs.Past.{Past}
use Rattle.why_texts.specs.SemLines.{sem_line}
use Rattle.why_states.specs.States.{IsAt, group_of}
use Rattle.why_states.proofs.sems.put_sems.Given as goal

-- what was written, and then the lines of the rest, are those of all
abbrev pub invariant-loop-sem : goal.invariant-loop-sem
invariant-loop-sem l = (past : Past) → IsAt past l.state → l.out.items ++ flat_map (λ n. sem_line (group_of l.state) n past) (sem_numbers (drop l.sem-index l.state.sems.now)) ≡ l.initial.out.items ++ flat_map (λ n. sem_line (group_of l.state) n past) (sem_numbers l.state.sems.now)
