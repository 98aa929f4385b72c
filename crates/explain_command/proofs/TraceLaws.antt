-- What explains the verdict on a trace.
use Rattle.std.proofs.Common.{◌≡◌, ℕ, List, sym, subst}
use Rattle.std.specs.Prelude.{drop, Result, Ok, Err, IfOk}
use Rattle.rt_base.specs.declared.NoMemory.{NoMemory}
use Rattle.rt_task.specs.declared.Parts.{Parts}
use Rattle.trace_lines.specs.declared.format.Version.{Version}
use Rattle.trace_lines.specs.Lines.{Line}
use Rattle.trace_tools.specs.Tools.{Tool}
use Rattle.trace_read.specs.Reads.{IsHeadOf}
use Rattle.trace_read.specs.declared.head.TraceHead.{TraceHead}
use Rattle.trace_laws.specs.ValidTexts.{IsValidText}
use Rattle.trace_check.specs.Verdicts.{IsInvalid}
use Rattle.sim_commands.specs.Check.{SaysSet}
use Rattle.explain_command.specs.declared.outcome.Explained.{Explained}
use Rattle.explain_command.specs.declared.outcome.Outcome.{Outcome}
use Rattle.explain_command.specs.declared.outcome.Outcome.TheVariants.{Fine, Wrong}
use Rattle.explain_command.specs.Explaining.{TraceIsExplained, TraceIsInvalid, TraceIsValid}
use Rattle.explain_command.specs.Texts.{valid_trace, wrong_line}

-- a head that was read says its set
pub says-read : (bytes : List ℕ) (h : TraceHead) → IsHeadOf bytes h → SaysSet bytes h.version h.setup
says-read bytes h r = record { set_text = r.set_text; rest = drop h.length bytes; head = r.head; set_is = r.set_is }

module _ (tools : List Tool) (v : Version) (p : Parts) (bytes : List ℕ) where
  pub explains-valid : (entries : ℕ) (r : Result Explained NoMemory) → SaysSet bytes v p → IsValidText tools v p bytes entries
      → IfOk r (λ x. (x.outcome ≡ Fine) × (x.text.items ≡ valid_trace)) → IfOk r (λ x. TraceIsExplained tools bytes x.outcome x.text.items)
  explains-valid entries (Ok x) says valid (outcome, text) =
      let is : TraceIsValid tools bytes x.text.items = record { version = v; setup = p; entries = entries; says = says; valid = valid; text_is = text } in
      subst (λ (o : Outcome). TraceIsExplained tools bytes o x.text.items) (sym outcome) is
  explains-valid entries (Err e) says valid h = tt

  pub explains-wrong : (line : ℕ) (r : Result Explained NoMemory) → SaysSet bytes v p → IsInvalid tools v p bytes line
      → IfOk r (λ x. (x.outcome ≡ Wrong line) × (x.text.items ≡ wrong_line bytes p line)) → IfOk r (λ x. TraceIsExplained tools bytes x.outcome x.text.items)
  explains-wrong line (Ok x) says wrong (outcome, text) =
      let is : TraceIsInvalid tools bytes line x.text.items = record { version = v; setup = p; says = says; wrong = wrong; text_is = text } in
      subst (λ (o : Outcome). TraceIsExplained tools bytes o x.text.items) (sym outcome) is
  explains-wrong line (Err e) says wrong h = tt
