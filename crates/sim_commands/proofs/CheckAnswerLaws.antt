-- The answers of `check`, by how its reading and its writing ended.
use Rattle.std.proofs.Common.{◌≡◌, ℕ, true, false, List, ap, subst}
use Rattle.std.specs.Prelude.{Result, Ok, Err, OnOk, OnErr, is_err}
use Rattle.rt_base.specs.declared.TheConstants.{MOST_TRACE_BYTES}
use Rattle.rt_task.specs.declared.Parts.{Parts}
use Rattle.rt_fault.specs.Faults.{HasRisen}
use Rattle.rt_fault.specs.Held.{Extends, ExtendsByPrefix}
use Rattle.rt_fault.specs.Reading.{TakesAtMost}
use Rattle.rt_fault.specs.declared.status.Status.{Status}
use Rattle.rt_fault.specs.declared.status.Status.TheVariants as ends
use Rattle.trace_lines.specs.declared.format.Version.{Version}
use Rattle.trace_tools.specs.Tools.{Tool}
use Rattle.trace_check.specs.declared.verdict.Verdict.{Verdict}
use Rattle.trace_check.specs.declared.verdict.Verdict.TheVariants as verdicts
use Rattle.trace_check.specs.Verdicts.{IsVerdict}
use Rattle.set_input.specs.Ends.{Reading, Writing}
use Rattle.sim_commands.specs.Check.{WasNoTrace, WasTrace, verdict_text}
use Rattle.sim_commands.specs.CheckAnswers.{CheckAnswers}
use Rattle.set_input.specs.Stopped.{EndsReading}
use Rattle.set_input.proofs.EndLaws.{ended-well}
use Rattle.sim_commands.proofs.CheckLaws.{can_check-told, can_check-unrefused}

-- no trace was read
pub check-unread :
    {T : Type 0} (tools : List Tool) (source : Reading) (sink : Writing) (answer : Status) → EndsReading {T = T} source MOST_TRACE_BYTES (WasNoTrace source) (Err answer)
    → sink.new ≡ sink.old → CheckAnswers tools source sink answer
check-unread {T} tools source sink answer e same =
    let err = λ (s : Status) (is : answer ≡ s). ap (λ (x : Status). let r : Result T Status = Err x in r) is in
    record {
      ok = λ is. absurd (e.not_ok (err _ is));
      invalid = λ line is. absurd (e.not_invalid line (err _ is));
      bad_input = λ b is. e.bad_input b (err _ is);
      too_long = λ is. e.too_long (err _ is);
      not_too_long = λ other. e.not_too_long (λ is. other cc);
      cut_by_fault = λ is. absurd (e.not_write_fault (err _ is));
      no_memory = λ _. same;
      complete = λ can sure. ended-well source MOST_TRACE_BYTES (WasNoTrace source) answer e (can_check-told tools _ can) sure.read (λ b. can_check-unrefused tools source b can);
    }

-- what a result says of its end
pub on_ok-holds : {T E P : Type 0} (r : Result T E) → OnOk r P → is_err r ≡ false → P
on_ok-holds (Ok x) h not = h
on_ok-holds (Err e) h not = cc

pub on_err-holds : {T E P : Type 0} (r : Result T E) → OnErr r P → is_err r ≡ true → P
on_err-holds (Ok x) h is = cc
on_err-holds (Err e) h is = h

-- a trace was read, and this is its verdict
module _ (tools : List Tool) (source : Reading) (sink : Writing) (bytes : List ℕ) (v : Version) (p : Parts) (verdict : Verdict) (read : WasTrace source bytes v p) (few : TakesAtMost MOST_TRACE_BYTES source.old.left source.new.left) (right : IsVerdict tools v p bytes verdict) where
  pub check-valid : (entries : ℕ) → verdict ≡ verdicts.Valid entries → Extends sink.old.held sink.new.held (verdict_text verdict) → CheckAnswers tools source sink ends.Ok
  check-valid entries is came = record {
    ok = λ _. (
      entries,
      record {
        bytes = bytes;
        version = v;
        setup = p;
        read = read;
        verdict = subst (IsVerdict tools v p bytes) is right;
        written = subst (λ (x : Verdict). Extends sink.old.held sink.new.held (verdict_text x)) is came;
      },
    );
    invalid = λ line other. cc;
    bad_input = λ b other. cc;
    too_long = λ other. cc;
    not_too_long = λ _. few;
    cut_by_fault = λ other. cc;
    no_memory = λ other. cc;
    complete = λ _ _. tt;
  }

  pub check-cut : ExtendsByPrefix sink.old.held sink.new.held (verdict_text verdict) → HasRisen sink.old.faults sink.new.faults → CheckAnswers tools source sink ends.WriteFault
  check-cut part risen = record {
    ok = λ other. cc;
    invalid = λ line other. cc;
    bad_input = λ b other. cc;
    too_long = λ other. cc;
    not_too_long = λ _. few;
    cut_by_fault = λ _. record { bytes = bytes; version = v; setup = p; verdict = verdict; read = read; is_verdict = right; written = part };
    no_memory = λ other. cc;
    complete = λ _ sure. absurd (sure.write risen);
  }
