-- The answers of `rtview`, by how its reading and its writing ended.
use Rattle.std.proofs.Common.{◌≡◌, ℕ, List, ap, sym, subst}
use Rattle.std.specs.Prelude.{Option, None, Some, Result, Ok, Err, IfOk}
use Rattle.rt_base.specs.declared.NoMemory.{NoMemory}
use Rattle.rt_base.specs.declared.TheConstants.{MOST_TRACE_BYTES}
use Rattle.rt_task.specs.Validity.{IsValid}
use Rattle.rt_task.specs.declared.Parts.{Parts}
use Rattle.rt_fault.specs.Faults.{HasRisen}
use Rattle.rt_fault.specs.Held.{Extends, ExtendsByPrefix}
use Rattle.rt_fault.specs.Reading.{TakesAtMost}
use Rattle.rt_fault.specs.declared.status.Status.{Status}
use Rattle.rt_fault.specs.declared.status.Status.TheVariants as ends
use Rattle.trace_lines.specs.declared.format.Version.{Version}
use Rattle.trace_tools.specs.Tools.{Tool}
use Rattle.trace_laws.specs.ValidTexts.{IsValidText}
use Rattle.view_laws.proofs.Sets.{set_totals_are_counts}
use Rattle.set_input.specs.Ends.{Reading, Writing}
use Rattle.set_input.specs.Stopped.{EndsReading}
use Rattle.set_input.proofs.EndLaws.{ended-well}
use Rattle.sim_commands.specs.Check.{WasNoTrace, WasTrace}
use Rattle.sim_commands.proofs.CheckLaws.{can_check-told, can_check-unrefused, can_check-valid}
use Rattle.view_command.specs.View.{IsViewOf, WasWrong}
use Rattle.view_command.specs.ViewAnswers.{ViewAnswers}
use Rattle.view_command.specs.inside.Viewing.{IsTextOf, IsViewed, Pieces, comes}
use Rattle.view_command.specs.declared.ending.ViewEnd.{ViewEnd}
use Rattle.view_command.specs.declared.ending.ViewEnd.TheVariants.{Ended, NoSuchEntry}
use Rattle.view_command.specs.declared.views.View.{View}

-- a fact of what came, made another
pub on-ok : {A E : Type 0} {P Q : A → Type 0} (r : Result A E) → IfOk r P → ((x : A) → P x → Q x) → IfOk r Q
on-ok (Ok x) h step = step x h
on-ok (Err e) h step = tt

-- what the plays of a valid trace have of a view is what comes of it
pub view-said : (tools : List Tool) (v : Version) (p : Parts) (bytes : List ℕ) (view : View) (entries : ℕ) (r : Result (Option Pieces) NoMemory) → IsValid p
    → (is : IsValidText tools v p bytes entries) → IfOk r (IsTextOf view p is.histories) → IsViewed tools v p bytes view (comes r)
view-said tools v p bytes view entries (Ok (Some text)) valid is h = record {
  entries = entries;
  valid = is;
  text_is = sym h;
  agrees = set_totals_are_counts p is.histories valid is.plays;
}
view-said tools v p bytes view entries (Ok None) valid is h = record { entries = entries; valid = is; none = sym h }
view-said tools v p bytes view entries (Err e) valid is h = tt

-- no trace was read
pub view-unread :
    {T : Type 0} (tools : List Tool) (view : View) (source : Reading) (sink : Writing) (status : Status) → EndsReading {T = T} source MOST_TRACE_BYTES (WasNoTrace source) (Err status)
    → sink.new ≡ sink.old → ViewAnswers tools view source sink (Ended status)
view-unread {T} tools view source sink status e same =
    let err = λ (s : Status) (is : Ended status ≡ Ended s). let alike : status ≡ s = cc in ap (λ (x : Status). let r : Result T Status = Err x in r) alike in
    record {
      ok = λ is. absurd (e.not_ok (err _ is));
      no_such_entry = λ is. cc;
      invalid = λ line is. absurd (e.not_invalid line (err _ is));
      bad_input = λ b is. e.bad_input b (err _ is);
      too_long = λ is. e.too_long (err _ is);
      not_too_long = λ other. e.not_too_long (λ is. other (let alike : status ≡ ends.TooLong = cc in ap Ended alike));
      cut_by_fault = λ is. absurd (e.not_write_fault (err _ is));
      no_memory = λ _. same;
      complete = λ can sure. ended-well source MOST_TRACE_BYTES (WasNoTrace source) status e (can_check-told tools _ can) sure.read (λ b. can_check-unrefused tools source b can);
    }

module _ (tools : List Tool) (view : View) (source : Reading) (sink : Writing) (bytes : List ℕ) (v : Version) (p : Parts) (read : WasTrace source bytes v p) (few : TakesAtMost MOST_TRACE_BYTES source.old.left source.new.left) where
  -- there is no text, and nothing was written
  pub view-none : (end : ViewEnd) → IsViewed tools v p bytes view (Err end) → sink.new ≡ sink.old → ViewAnswers tools view source sink end
  view-none NoSuchEntry h same = record {
    ok = λ is. cc;
    no_such_entry = λ _. record { bytes = bytes; version = v; setup = p; read = read; lacks = h };
    invalid = λ line is. cc;
    bad_input = λ b is. cc;
    too_long = λ is. cc;
    not_too_long = λ _. few;
    cut_by_fault = λ is. cc;
    no_memory = λ is. cc;
    complete = λ _ _. tt;
  }
  view-none (Ended (ends.Invalid line)) h same = record {
    ok = λ is. cc;
    no_such_entry = λ is. cc;
    invalid = λ other is. let e : line ≡ other = cc in subst (WasWrong tools source) e (record { bytes = bytes; version = v; setup = p; read = read; wrong = h });
    bad_input = λ b is. cc;
    too_long = λ is. cc;
    not_too_long = λ _. few;
    cut_by_fault = λ is. cc;
    no_memory = λ is. cc;
    complete = λ can _. absurd (can_check-valid tools source bytes v p line can read h);
  }
  view-none (Ended ends.NoMemory) h same = record {
    ok = λ is. cc;
    no_such_entry = λ is. cc;
    invalid = λ line is. cc;
    bad_input = λ b is. cc;
    too_long = λ is. cc;
    not_too_long = λ _. few;
    cut_by_fault = λ is. cc;
    no_memory = λ _. same;
    complete = λ _ _. tt;
  }
  view-none (Ended ends.Ok) h same = absurd h
  view-none (Ended ends.WriteFault) h same = absurd h
  view-none (Ended ends.Usage) h same = absurd h
  view-none (Ended (ends.BadInput b)) h same = absurd h
  view-none (Ended ends.ReadFault) h same = absurd h
  view-none (Ended ends.TooLong) h same = absurd h

  module _ (text : List ℕ) (is : IsViewOf tools v p bytes view text) where
    -- all of it was written
    pub view-whole : Extends sink.old.held sink.new.held text → ViewAnswers tools view source sink (Ended ends.Ok)
    view-whole came = record {
      ok = λ _. record { bytes = bytes; version = v; setup = p; text = text; read = read; shown = is; written = came };
      no_such_entry = λ is. cc;
      invalid = λ line is. cc;
      bad_input = λ b is. cc;
      too_long = λ is. cc;
      not_too_long = λ _. few;
      cut_by_fault = λ is. cc;
      no_memory = λ is. cc;
      complete = λ _ _. tt;
    }

    -- or a first part
    pub view-cut : ExtendsByPrefix sink.old.held sink.new.held text → HasRisen sink.old.faults sink.new.faults → ViewAnswers tools view source sink (Ended ends.WriteFault)
    view-cut came risen = record {
      ok = λ is. cc;
      no_such_entry = λ is. cc;
      invalid = λ line is. cc;
      bad_input = λ b is. cc;
      too_long = λ is. cc;
      not_too_long = λ _. few;
      cut_by_fault = λ _. record { bytes = bytes; version = v; setup = p; text = text; read = read; shown = is; written = came };
      no_memory = λ is. cc;
      complete = λ _ sure. absurd (sure.write risen);
    }
