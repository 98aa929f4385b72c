-- The answers of `run`, by how its reading and its writing ended.
use Rattle.std.proofs.Common.{◌≡◌, ℕ, List, map, ap, subst, inl, inr}
use Rattle.std.specs.Prelude.{◌⊎◌, Result, Err}
use Rattle.rt_base.specs.declared.TheConstants.{MOST_SET_BYTES}
use Rattle.rt_task.specs.declared.Parts.{Parts}
use Rattle.rt_fault.specs.Faults.{HasRisen}
use Rattle.rt_fault.specs.Held.{Extends, ExtendsByPrefix}
use Rattle.rt_fault.specs.Reading.{TakesAtMost}
use Rattle.rt_fault.specs.declared.status.Status.{Status}
use Rattle.rt_fault.specs.declared.status.Status.TheVariants as ends
use Rattle.rt_rules.specs.declared.history.Entry.{Entry}
use Rattle.rt_plays.specs.Groups.{GroupHistory}
use Rattle.rt_plays.specs.Plays.{ArePlays}
use Rattle.trace_lines.specs.declared.format.Version.TheVariants.{Two}
use Rattle.trace_text.specs.Groups.{histories}
use Rattle.trace_tools.specs.Counters.{Counter, counter_of}
use Rattle.trace_tools.specs.Tools.{Tool}
use Rattle.trace_text.specs.CountLines.{bus_text, counted_text}
use Rattle.trace_writer.proofs.BusText.{text-of_tools}
use Rattle.set_input.specs.Ends.{Reading, Writing}
use Rattle.set_input.specs.Inputs.{WasRead, WasRefused}
use Rattle.set_input.specs.Stopped.{EndsReading}
use Rattle.set_input.proofs.EndLaws.{ended-well, Wrote}
use Rattle.set_input.proofs.InputLaws.{can_play-told, can_play-unrefused}
use Rattle.set_input.proofs.Promises.{holds-throughout}
use Rattle.set_runs.specs.Runs.{AreRunsOf}
use Rattle.run_command.specs.RunAnswers.{RunAnswers}
use Rattle.run_command.proofs.RunLaws.{run-plays}

-- no set was read
pub run-unread :
    {T : Type 0} (tools : List Tool) (source : Reading) (sink : Writing) (answer : Status) → EndsReading {T = T} source MOST_SET_BYTES (WasRefused source) (Err answer)
    → sink.new ≡ sink.old → RunAnswers tools source sink answer
run-unread {T} tools source sink answer e same =
    let err = λ (s : Status) (is : answer ≡ s). ap (λ (x : Status). let r : Result T Status = Err x in r) is in
    record {
      ok = λ is. absurd (e.not_ok (err _ is));
      bad_input = λ b is. e.bad_input b (err _ is);
      too_long = λ is. e.too_long (err _ is);
      not_too_long = λ other. e.not_too_long (λ is. other cc);
      cut_by_fault = λ is. absurd (e.not_write_fault (err _ is));
      no_memory = λ _. inl same;
      not_invalid = λ line is. e.not_invalid line (err _ is);
      complete = λ can sure. ended-well source MOST_SET_BYTES (WasRefused source) answer e (can_play-told _ can) sure.read (λ b. can_play-unrefused source b can);
    }

-- all of it was written
run-whole :
    (tools : List Tool) (source : Reading) (sink : Writing) (p : Parts) (hs : List (List Entry)) → WasRead source p → ArePlays p hs → TakesAtMost MOST_SET_BYTES source.old.left source.new.left
    → Extends sink.old.held sink.new.held (counted_text Two tools p hs) → RunAnswers tools source sink ends.Ok
run-whole tools source sink p hs read plays few all = record {
  ok = λ _. record { setup = p; histories = hs; read = read; plays = plays; written = all; holds = holds-throughout p hs read.valid };
  bad_input = λ b is. cc;
  too_long = λ is. cc;
  not_too_long = λ _. few;
  cut_by_fault = λ is. cc;
  no_memory = λ is. cc;
  not_invalid = λ line is. cc;
  complete = λ _ _. tt;
}

-- a write failed
run-cut :
    (tools : List Tool) (source : Reading) (sink : Writing) (p : Parts) (hs : List (List Entry)) → WasRead source p → ArePlays p hs → TakesAtMost MOST_SET_BYTES source.old.left source.new.left
    → ExtendsByPrefix sink.old.held sink.new.held (counted_text Two tools p hs) → HasRisen sink.old.faults sink.new.faults → RunAnswers tools source sink ends.WriteFault
run-cut tools source sink p hs read plays few part risen = record {
  ok = λ is. cc;
  bad_input = λ b is. cc;
  too_long = λ is. cc;
  not_too_long = λ _. few;
  cut_by_fault = λ _. record { setup = p; histories = hs; read = read; plays = plays; written = part };
  no_memory = λ is. cc;
  not_invalid = λ line is. cc;
  complete = λ _ sure. absurd (sure.write risen);
}

-- memory ran out
run-short :
    (tools : List Tool) (source : Reading) (sink : Writing) (p : Parts) (hs : List (List Entry)) → WasRead source p → ArePlays p hs → TakesAtMost MOST_SET_BYTES source.old.left source.new.left
    → (sink.new ≡ sink.old) ⊎ ExtendsByPrefix sink.old.held sink.new.held (counted_text Two tools p hs) → RunAnswers tools source sink ends.NoMemory
run-short tools source sink p hs read plays few short = record {
  ok = λ is. cc;
  bad_input = λ b is. cc;
  too_long = λ is. cc;
  not_too_long = λ _. few;
  cut_by_fault = λ is. cc;
  no_memory = λ _. elim short [ inl same ↦ inl same | inr part ↦ inr (record { setup = p; histories = hs; read = read; plays = plays; written = part }) ];
  not_invalid = λ line is. cc;
  complete = λ _ _. tt;
}

wrote-answers :
    (tools : List Tool) (source : Reading) (sink : Writing) (p : Parts) (hs : List (List Entry)) (answer : Status) → WasRead source p → ArePlays p hs → TakesAtMost MOST_SET_BYTES source.old.left source.new.left
    → Wrote sink (counted_text Two tools p hs) answer → RunAnswers tools source sink answer
wrote-answers tools source sink p hs ends.Ok read plays few all = run-whole tools source sink p hs read plays few all
wrote-answers tools source sink p hs ends.WriteFault read plays few (part, risen) = run-cut tools source sink p hs read plays few part risen
wrote-answers tools source sink p hs ends.NoMemory read plays few short = run-short tools source sink p hs read plays few short
wrote-answers tools source sink p hs (ends.Invalid line) read plays few h = absurd h
wrote-answers tools source sink p hs ends.Usage read plays few h = absurd h
wrote-answers tools source sink p hs (ends.BadInput b) read plays few h = absurd h
wrote-answers tools source sink p hs ends.ReadFault read plays few h = absurd h
wrote-answers tools source sink p hs ends.TooLong read plays few h = absurd h

-- a set was read, and the trace of its groups written with the count lines of its tools, or a first part of it
pub run-read :
    {T : Type 0} (tool : T → Tool) (ts : List T) (counters : List Counter) (source : Reading) (sink : Writing) (p : Parts) (hs : List GroupHistory) (answer : Status) → WasRead source p
    → TakesAtMost MOST_SET_BYTES source.old.left source.new.left → AreRunsOf p hs → counters ≡ map (λ t. counter_of (tool t)) ts
    → Wrote sink (bus_text Two counters p (histories hs)) answer → RunAnswers (map tool ts) source sink answer
run-read tool ts counters source sink p hs answer read few are sits wrote =
    wrote-answers (map tool ts) source sink p (histories hs) answer read (run-plays p hs read.valid are) few
    (subst (λ (xs : List ℕ). Wrote sink xs answer) (text-of_tools Two tool ts p (histories hs) counters sits) wrote)
