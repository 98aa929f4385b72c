use Rattle.std.proofs.Common.{◌≡◌, ◌++◌, drop}
use Rattle.std.specs.Prelude.{flat_map}
use Rattle.why_states.specs.States.{resv_numbers}
use Rattle.rt_model.specs.Past.{Past}
use Rattle.why_texts.specs.ResvLines.{resv_line}
use Rattle.why_states.specs.States.{IsAt, group_of}
use Rattle.why_states.proofs.resvs.put_resvs.Given as goal

-- what was written, and then the lines of the rest, are those of all
abbrev pub invariant-loop-resv : goal.invariant-loop-resv
invariant-loop-resv l = (past : Past) → IsAt past l.state → l.out.items ++ flat_map (λ n. resv_line (group_of l.state) n past) (resv_numbers (drop l.resv-index l.state.resvs.now)) ≡ l.initial.out.items ++ flat_map (λ n. resv_line (group_of l.state) n past) (resv_numbers l.state.resvs.now)
