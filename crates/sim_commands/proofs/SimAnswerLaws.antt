-- The answers of `sim`, by how its reading and its writing ended.
use Rattle.std.proofs.Common.{◌≡◌, List, map, ap, subst, inl, inr}
use Rattle.std.specs.Prelude.{◌⊎◌, ℕ, Result, Err}
use Rattle.rt_base.specs.declared.TheConstants.{MOST_SET_BYTES}
use Rattle.rt_task.specs.declared.Parts.{Parts}
use Rattle.rt_fault.specs.Faults.{HasRisen}
use Rattle.rt_fault.specs.Held.{Extends, ExtendsByPrefix}
use Rattle.rt_fault.specs.Reading.{TakesAtMost}
use Rattle.rt_fault.specs.declared.status.Status.{Status}
use Rattle.rt_fault.specs.declared.status.Status.TheVariants as ends
use Rattle.set_input.specs.Ends.{Reading, Writing}
use Rattle.rt_plays.specs.Order.{histories}
use Rattle.trace_lines.specs.declared.format.Version.TheVariants.{Two}
use Rattle.trace_text.specs.CountLines.{bus_text}
use Rattle.trace_tools.specs.Counters.{Counter, counter_of}
use Rattle.trace_tools.specs.Tools.{Tool}
use Rattle.trace_writer.proofs.BusText.{text-of_tools}
use Rattle.sim_commands.specs.Sim.{set_trace}
use Rattle.set_input.specs.Inputs.{WasRead, WasRefused}
use Rattle.sim_commands.specs.SimAnswers.{SimAnswers}
use Rattle.set_input.specs.Stopped.{EndsReading}
use Rattle.set_input.proofs.EndLaws.{ended-well, Wrote}
use Rattle.set_input.proofs.InputLaws.{can_play-told, can_play-unrefused}
use Rattle.set_input.proofs.Promises.{holds-throughout}

-- no set was read
pub sim-unread :
    {T : Type 0} (tools : List Tool) (source : Reading) (sink : Writing) (answer : Status) → EndsReading {T = T} source MOST_SET_BYTES (WasRefused source) (Err answer)
    → sink.new ≡ sink.old → SimAnswers tools source sink answer
sim-unread {T} tools source sink answer e same =
    let err = λ (s : Status) (is : answer ≡ s). ap (λ (x : Status). let r : Result T Status = Err x in r) is in
    record {
      ok = λ is. absurd (e.not_ok (err _ is));
      bad_input = λ b is. e.bad_input b (err _ is);
      too_long = λ is. e.too_long (err _ is);
      not_too_long = λ other. e.not_too_long (λ is. other cc);
      cut_by_fault = λ is. absurd (e.not_write_fault (err _ is));
      no_memory = λ _. inl same;
      not_invalid = λ line is. e.not_invalid line (err _ is);
      complete = λ can sure. ended-well source MOST_SET_BYTES (WasRefused source) answer e (can_play-told _ can) sure.read (λ b. can_play-unrefused source b can);
    }

-- all of it was written
sim-whole :
    (tools : List Tool) (source : Reading) (sink : Writing) (p : Parts) → WasRead source p → TakesAtMost MOST_SET_BYTES source.old.left source.new.left
    → Extends sink.old.held sink.new.held (set_trace tools p) → SimAnswers tools source sink ends.Ok
sim-whole tools source sink p read few all = record {
  ok = λ _. record { setup = p; read = read; written = all; holds = holds-throughout p (histories p) read.valid };
  bad_input = λ b is. cc;
  too_long = λ is. cc;
  not_too_long = λ _. few;
  cut_by_fault = λ is. cc;
  no_memory = λ is. cc;
  not_invalid = λ line is. cc;
  complete = λ _ _. tt;
}

-- a write failed
sim-cut :
    (tools : List Tool) (source : Reading) (sink : Writing) (p : Parts) → WasRead source p → TakesAtMost MOST_SET_BYTES source.old.left source.new.left
    → ExtendsByPrefix sink.old.held sink.new.held (set_trace tools p) → HasRisen sink.old.faults sink.new.faults → SimAnswers tools source sink ends.WriteFault
sim-cut tools source sink p read few part risen = record {
  ok = λ is. cc;
  bad_input = λ b is. cc;
  too_long = λ is. cc;
  not_too_long = λ _. few;
  cut_by_fault = λ _. record { setup = p; read = read; written = part };
  no_memory = λ is. cc;
  not_invalid = λ line is. cc;
  complete = λ _ sure. absurd (sure.write risen);
}

-- memory ran out
sim-short :
    (tools : List Tool) (source : Reading) (sink : Writing) (p : Parts) → WasRead source p → TakesAtMost MOST_SET_BYTES source.old.left source.new.left
    → (sink.new ≡ sink.old) ⊎ ExtendsByPrefix sink.old.held sink.new.held (set_trace tools p) → SimAnswers tools source sink ends.NoMemory
sim-short tools source sink p read few short = record {
  ok = λ is. cc;
  bad_input = λ b is. cc;
  too_long = λ is. cc;
  not_too_long = λ _. few;
  cut_by_fault = λ is. cc;
  no_memory = λ _. elim short [ inl same ↦ inl same | inr part ↦ inr (record { setup = p; read = read; written = part }) ];
  not_invalid = λ line is. cc;
  complete = λ _ _. tt;
}

wrote-answers :
    (tools : List Tool) (source : Reading) (sink : Writing) (p : Parts) (answer : Status) → WasRead source p → TakesAtMost MOST_SET_BYTES source.old.left source.new.left
    → Wrote sink (set_trace tools p) answer → SimAnswers tools source sink answer
wrote-answers tools source sink p ends.Ok read few all = sim-whole tools source sink p read few all
wrote-answers tools source sink p ends.WriteFault read few (part, risen) = sim-cut tools source sink p read few part risen
wrote-answers tools source sink p ends.NoMemory read few short = sim-short tools source sink p read few short
wrote-answers tools source sink p (ends.Invalid line) read few h = absurd h
wrote-answers tools source sink p ends.Usage read few h = absurd h
wrote-answers tools source sink p (ends.BadInput b) read few h = absurd h
wrote-answers tools source sink p ends.ReadFault read few h = absurd h
wrote-answers tools source sink p ends.TooLong read few h = absurd h

-- a set was read, and its trace written with the count lines of its tools, or a first part of it
pub sim-read :
    {T : Type 0} (tool : T → Tool) (ts : List T) (counters : List Counter) (source : Reading) (sink : Writing) (p : Parts) (answer : Status) → WasRead source p
    → TakesAtMost MOST_SET_BYTES source.old.left source.new.left → counters ≡ map (λ t. counter_of (tool t)) ts
    → Wrote sink (bus_text Two counters p (histories p)) answer → SimAnswers (map tool ts) source sink answer
sim-read tool ts counters source sink p answer read few are wrote =
    wrote-answers (map tool ts) source sink p answer read few (subst (λ (xs : List ℕ). Wrote sink xs answer) (text-of_tools Two tool ts p (histories p) counters are) wrote)
