-- The answers of `explain`, by how its reading and its writing ended.
use Rattle.std.proofs.Common.{◌≡◌, ◌≢◌, ℕ, ◌<◌, ◌≤◌, Bool, true, false, List, length, refl, sym, ap, subst, inl, inr}
use Rattle.std.specs.Prelude.{Option, None, Some, Result, Ok, Err}
use Rattle.rt_base.specs.declared.TheConstants.{MOST_SET_BYTES, MOST_TRACE_BYTES}
use Rattle.rt_task.specs.declared.bad_set.BadSet.{BadSet}
use Rattle.rt_fault.specs.Faults.{HasRisen}
use Rattle.rt_fault.specs.Held.{Extends, ExtendsByPrefix}
use Rattle.rt_fault.specs.Reading.{TakesAll, TakesAtMost}
use Rattle.rt_fault.specs.declared.status.Status.{Status}
use Rattle.rt_fault.specs.declared.status.Status.TheVariants as ends
use Rattle.trace_tools.specs.Tools.{Tool}
use Rattle.set_input.specs.Answers.{IsWell}
use Rattle.set_input.specs.Ends.{Reading, Writing}
use Rattle.set_input.specs.Stopped.{EndsReading}
use Rattle.set_input.proofs.EndLaws.{IsToldWithin, ended-well}
use Rattle.explain_command.specs.declared.outcome.Outcome.{Outcome}
use Rattle.explain_command.specs.declared.outcome.Outcome.TheVariants.{Fine, Wrong, Refused}
use Rattle.explain_command.specs.Explaining.{IsExplained}
use Rattle.explain_command.specs.ExplainAnswers.{CanExplain, ExplainAnswers, IsAnswered, IsLongSet, IsNever, IsUnlooked, WasRead}

can_explain-told : (left : Option (List ℕ)) → CanExplain left → IsToldWithin MOST_TRACE_BYTES left
can_explain-told None can = absurd can
can_explain-told (Some xs) can = record { bytes = xs; left_is = refl; within = can.0 }

can_explain-short : (source : Reading) (bytes : List ℕ) → CanExplain source.old.left → WasRead source bytes → IsLongSet bytes → ⊥
can_explain-short source bytes can read long = by_left source.old.left can read.all
  where
    by_left : (left : Option (List ℕ)) → CanExplain left → TakesAll left source.new.left bytes → ⊥
    by_left None able all = able
    by_left (Some xs) able all = able.1 (subst IsLongSet all.0 long)

answered-well : (answer : Status) → IsWell answer → IsAnswered answer
answered-well ends.Ok well = tt
answered-well ends.NoMemory well = tt
answered-well (ends.Invalid line) well = absurd well
answered-well (ends.BadInput b) well = absurd well
answered-well ends.Usage well = absurd well
answered-well ends.ReadFault well = absurd well
answered-well ends.WriteFault well = absurd well
answered-well ends.TooLong well = absurd well

-- the input was not read
pub explain-unread :
    {T : Type 0} (tools : List Tool) (source : Reading) (sink : Writing) (answer : Status) → EndsReading {T = T} source MOST_TRACE_BYTES IsNever (Err answer)
    → sink.new ≡ sink.old → ExplainAnswers tools source sink answer
explain-unread {T} tools source sink answer e same =
    let err = λ (s : Status) (is : answer ≡ s). ap (λ (x : Status). let r : Result T Status = Err x in r) is in
    record {
      ok = λ is. absurd (e.not_ok (err _ is));
      invalid = λ line is. absurd (e.not_invalid line (err _ is));
      bad_input = λ b is. absurd (e.bad_input b (err _ is));
      too_long = λ is. inl (e.too_long (err _ is));
      not_too_long = λ other. e.not_too_long (λ is. other cc);
      cut_by_fault = λ is. absurd (e.not_write_fault (err _ is));
      no_memory = λ _. same;
      complete = λ can sure. answered-well answer (ended-well source MOST_TRACE_BYTES IsNever answer e (can_explain-told _ can) sure.read (λ b never. never));
    }

module _ (tools : List Tool) (source : Reading) (sink : Writing) (bytes : List ℕ) (read : WasRead source bytes) (few : TakesAtMost MOST_TRACE_BYTES source.old.left source.new.left) where
  -- it was not looked at
  pub explain-unlooked : (answer : Status) → IsUnlooked bytes answer → sink.new ≡ sink.old → ExplainAnswers tools source sink answer
  explain-unlooked ends.TooLong long same = record {
    ok = λ is. cc;
    invalid = λ line is. cc;
    bad_input = λ b is. cc;
    too_long = λ _. inr (record { bytes = bytes; read = read; long = long });
    not_too_long = λ other. absurd (other refl);
    cut_by_fault = λ is. cc;
    no_memory = λ is. cc;
    complete = λ can _. absurd (can_explain-short source bytes can read long);
  }
  explain-unlooked ends.NoMemory any same = record {
    ok = λ is. cc;
    invalid = λ line is. cc;
    bad_input = λ b is. cc;
    too_long = λ is. cc;
    not_too_long = λ _. few;
    cut_by_fault = λ is. cc;
    no_memory = λ _. same;
    complete = λ _ _. tt;
  }
  explain-unlooked ends.Ok h same = absurd h
  explain-unlooked (ends.Invalid line) h same = absurd h
  explain-unlooked (ends.BadInput b) h same = absurd h
  explain-unlooked ends.Usage h same = absurd h
  explain-unlooked ends.ReadFault h same = absurd h
  explain-unlooked ends.WriteFault h same = absurd h

  module _ (text : List ℕ) where
    -- all of the text was written
    pub explain-fine : IsExplained tools bytes Fine text → Extends sink.old.held sink.new.held text → ExplainAnswers tools source sink ends.Ok
    explain-fine explained came = record {
      ok = λ _. record { bytes = bytes; text = text; read = read; explained = explained; written = came };
      invalid = λ line is. cc;
      bad_input = λ b is. cc;
      too_long = λ is. cc;
      not_too_long = λ _. few;
      cut_by_fault = λ is. cc;
      no_memory = λ is. cc;
      complete = λ _ _. tt;
    }

    pub explain-wrong : (line : ℕ) → IsExplained tools bytes (Wrong line) text → Extends sink.old.held sink.new.held text → ExplainAnswers tools source sink (ends.Invalid line)
    explain-wrong line explained came = record {
      ok = λ is. cc;
      invalid = λ other is. let e : line ≡ other = cc in record { bytes = bytes; text = text; read = read; explained = subst (λ (l : ℕ). IsExplained tools bytes (Wrong l) text) e explained; written = came };
      bad_input = λ b is. cc;
      too_long = λ is. cc;
      not_too_long = λ _. few;
      cut_by_fault = λ is. cc;
      no_memory = λ is. cc;
      complete = λ _ _. tt;
    }

    pub explain-refused : (b : BadSet) → IsExplained tools bytes (Refused b) text → Extends sink.old.held sink.new.held text → ExplainAnswers tools source sink (ends.BadInput b)
    explain-refused b explained came = record {
      ok = λ is. cc;
      invalid = λ line is. cc;
      bad_input = λ other is. let e : b ≡ other = cc in record { bytes = bytes; text = text; read = read; explained = subst (λ (x : BadSet). IsExplained tools bytes (Refused x) text) e explained; written = came };
      too_long = λ is. cc;
      not_too_long = λ _. few;
      cut_by_fault = λ is. cc;
      no_memory = λ is. cc;
      complete = λ _ _. tt;
    }

    -- or a first part
    pub explain-cut : (outcome : Outcome) → IsExplained tools bytes outcome text → ExtendsByPrefix sink.old.held sink.new.held text → HasRisen sink.old.faults sink.new.faults → ExplainAnswers tools source sink ends.WriteFault
    explain-cut outcome explained came risen = record {
      ok = λ is. cc;
      invalid = λ line is. cc;
      bad_input = λ b is. cc;
      too_long = λ is. cc;
      not_too_long = λ _. few;
      cut_by_fault = λ _. record { bytes = bytes; outcome = outcome; text = text; read = read; explained = explained; written = came };
      no_memory = λ is. cc;
      complete = λ _ sure. absurd (sure.write risen);
    }
