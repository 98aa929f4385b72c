-- Of bytes that both look at, `explain` answers what `check` or `sim` answers.
use Rattle.std.specs.Prelude.{◌≡◌, ℕ, true, false, ⊤, List, Some}
use Rattle.rt_fault.specs.declared.status.Status.{Status}
use Rattle.rt_fault.specs.declared.status.Status.TheVariants as ends
use Rattle.trace_tools.specs.Tools.{Tool}
use Rattle.set_input.specs.Ends.{Reading, Writing}
use Rattle.sim_commands.specs.CheckAnswers.{CheckAnswers}
use Rattle.sim_commands.specs.SimAnswers.{SimAnswers}
use Rattle.explain_command.specs.Explaining.{begins_as_trace}
use Rattle.explain_command.specs.ExplainAnswers.{ExplainAnswers}

-- an answer that says what the input comes to
abbrev pub IsFound : Status → Type 0
IsFound ends.Ok = ⊤
IsFound (ends.Invalid line) = ⊤
IsFound (ends.BadInput b) = ⊤
IsFound _ = ⊥

-- two calls are told the same bytes
pub record AreTold (bytes : List ℕ) (one other : Reading) : Type 0 where
  pub one_left : one.old.left ≡ Some bytes
  pub other_left : other.old.left ≡ Some bytes

abbrev pub AgreesWithCheck : Type 0
AgreesWithCheck = (tools : List Tool) (bytes : List ℕ) (one other : Reading) (sink other_sink : Writing) (answer said : Status)
    → begins_as_trace bytes ≡ true → AreTold bytes one other
    → ExplainAnswers tools one sink answer → IsFound answer → CheckAnswers tools other other_sink said → IsFound said → answer ≡ said

abbrev pub AgreesWithSim : Type 0
AgreesWithSim = (tools : List Tool) (bytes : List ℕ) (one other : Reading) (sink other_sink : Writing) (answer said : Status)
    → begins_as_trace bytes ≡ false → AreTold bytes one other
    → ExplainAnswers tools one sink answer → IsFound answer → SimAnswers tools other other_sink said → IsFound said → answer ≡ said
