-- The command `load`: its words, its text, and its answers.
use Rattle.std.proofs.Common.{◌≡◌, ◌∙◌, ℕ, List, [], ◌∷◌, ◌++◌, map, Ok, Err, refl, sym, ap, inr}
use Rattle.std.specs.Prelude.{false, flat_map, Result, String}
use Rattle.std.specs.declared.alloc.Global.{Global}
use Rattle.std.proofs.lemmas.Fmt.{decimal_injective}
use Rattle.rt_task.specs.Validity.{IsValid}
use Rattle.rt_task.specs.declared.Parts.{Parts}
use Rattle.rt_fault.specs.Held.{Held}
use Rattle.rt_fault.specs.declared.status.Status.{Status}
use Rattle.rt_fault.specs.declared.status.Status.TheVariants as ends
use Rattle.rt_plays.specs.Order.{histories}
use Rattle.load_set.specs.Load.{load_of}
use Rattle.trace_lines.specs.declared.format.Version.TheVariants.{Two}
use Rattle.trace_lines.specs.Grammar.{line_text}
use Rattle.trace_lines.specs.Known.{known_of}
use Rattle.trace_lines.specs.Lines.{Line}
use Rattle.trace_tools.specs.Counters.{Counter, counter_line, counter_of, counters_after}
use Rattle.trace_tools.specs.Tools.{Tool}
use Rattle.trace_writer.specs.declared.stop.WriteStop.{WriteStop}
use Rattle.trace_writer.specs.declared.stop.WriteStop.TheVariants as stops
use Rattle.trace_writer.specs.declared.summary.Summary.{Summary}
use Rattle.trace_text.specs.CountLines.{count_lines, shown_from}
use Rattle.trace_writer.specs.Summaries.{summary_from}
use Rattle.trace_writer.proofs.CameLaws.{CameFrom}
use Rattle.trace_writer.proofs.BusText.{lines-of_tools}
use Rattle.trace_writer.proofs.CameLaws.{coming-last, coming-next, coming-start, coming-stop}
use Rattle.set_input.specs.Ends.{Writing}
use Rattle.set_input.proofs.EndLaws.{Wrote}
use Rattle.set_input.proofs.Promises.{holds-throughout}
use Rattle.sim_commands.specs.Load.{load_text, summary_text}
use Rattle.sim_commands.specs.LoadAnswers.{LoadAnswers}
use Rattle.sim_commands.specs.Sim.{IsLoad, is_check, is_sim, is_upgrade}

-- ---- its words

pub no_other : (words : List (String Global)) (n : ℕ) → IsLoad words n → (is_sim words ≡ false) × (is_check words ≡ false) × (is_upgrade words ≡ false)
no_other [] n is = absurd is
no_other (word ∷ []) n is = absurd is
no_other (word ∷ number ∷ []) n is = (refl, refl, refl)
no_other (word ∷ number ∷ more ∷ words) n is = (refl, refl, refl)

-- they say one number
pub one_number : (words : List (String Global)) (m n : ℕ) → IsLoad words m → IsLoad words n → m ≡ n
one_number [] m n a b = absurd a
one_number (word ∷ []) m n a b = absurd a
one_number (word ∷ number ∷ []) m n a b = decimal_injective m n a.2 b.2 (sym a.1 ∙ b.1)
one_number (word ∷ number ∷ more ∷ words) m n a b = absurd a

-- ---- its text

-- a text came, and after it another one, or a first part of it
pub came_both : (r : Result (Unit {0}) WriteStop) (a b c : Held) (f g h : ℕ) (one two : List ℕ) → CameFrom (Ok tt) a b f g one → CameFrom r b c g h two → CameFrom r a c f h (one ++ two)
came_both r a b c f g h one two first second =
    coming-last r a b c f g h (one ++ two) two (coming-next a a b f f g (one ++ two) one two (coming-start a f (one ++ two)) first) second

-- a first part came of the first of two
pub came_first : (e : WriteStop) (a b : Held) (f g : ℕ) (one two : List ℕ) → CameFrom (Err e) a b f g one → CameFrom (Err e) a b f g (one ++ two)
came_first e a b f g one two stopped = coming-stop e a a b f f g (one ++ two) one two (coming-start a f (one ++ two)) stopped

-- the answer by how a write ended
abbrev pub status_of : Result (Unit {0}) WriteStop → Status
status_of (Ok u) = ends.Ok
status_of (Err stops.Fault) = ends.WriteFault
status_of (Err stops.NoMemory) = ends.NoMemory

pub came-wrote : (r : Result (Unit {0}) WriteStop) (sink : Writing) (text : List ℕ) → CameFrom r sink.old.held sink.new.held sink.old.faults sink.new.faults text → Wrote sink text (status_of r)
came-wrote (Ok u) sink text p = p.0
came-wrote (Err stops.Fault) sink text p = (p.0, p.2)
came-wrote (Err stops.NoMemory) sink text p = inr p.0

-- the text of what was played is that of the load
pub load-text : {T : Type 0} (tool : T → Tool) (ts : List T) (n : ℕ) (p : Parts) (s : Summary) (before counters : List Counter) → p ≡ load_of n
    → s ≡ summary_from p 0 (histories p) → before ≡ map (λ t. counter_of (tool t)) ts → counters ≡ counters_after (shown_from p 0 (histories p)) before
    → summary_text n s ++ flat_map (line_text (known_of Two p)) (map counter_line counters) ≡ load_text (map tool ts) n
load-text tool ts n p s before counters made sums are fed =
    let lines : map counter_line counters ≡ count_lines (map tool ts) p (histories p) =
    ap (λ (ss : List Counter). map counter_line ss) (fed ∙ ap (counters_after (shown_from p 0 (histories p))) are) ∙ lines-of_tools tool ts (shown_from p 0 (histories p)) in
    ap (λ (x : Summary). summary_text n x ++ flat_map (line_text (known_of Two p)) (map counter_line counters)) sums
    ∙ ap (λ (ls : List Line). summary_text n (summary_from p 0 (histories p)) ++ flat_map (line_text (known_of Two p)) ls) lines
    ∙ ap (λ (q : Parts). summary_text n (summary_from q 0 (histories q)) ++ flat_map (line_text (known_of Two q)) (count_lines (map tool ts) q (histories q))) made

-- ---- its answers

-- memory ran out
pub load-none : (tools : List Tool) (n : ℕ) (sink : Writing) → Wrote sink (load_text tools n) ends.NoMemory → LoadAnswers tools n sink ends.NoMemory
load-none tools n sink short = record {
  ok = λ is. cc;
  cut_by_fault = λ is. cc;
  no_memory = λ _. short;
  not_refused = λ b is. cc;
  not_invalid = λ line is. cc;
  not_read_fault = λ is. cc;
  not_too_long = λ is. cc;
  complete = λ _. tt;
}

pub load-wrote : (tools : List Tool) (n : ℕ) (sink : Writing) (answer : Status) → IsValid (load_of n) → Wrote sink (load_text tools n) answer → LoadAnswers tools n sink answer
load-wrote tools n sink ends.Ok valid all = record {
  ok = λ _. record { written = all; holds = holds-throughout (load_of n) (histories (load_of n)) valid };
  cut_by_fault = λ is. cc;
  no_memory = λ is. cc;
  not_refused = λ b is. cc;
  not_invalid = λ line is. cc;
  not_read_fault = λ is. cc;
  not_too_long = λ is. cc;
  complete = λ _. tt;
}
load-wrote tools n sink ends.WriteFault valid (part, risen) = record {
  ok = λ is. cc;
  cut_by_fault = λ _. part;
  no_memory = λ is. cc;
  not_refused = λ b is. cc;
  not_invalid = λ line is. cc;
  not_read_fault = λ is. cc;
  not_too_long = λ is. cc;
  complete = λ sure. absurd (sure risen);
}
load-wrote tools n sink ends.NoMemory valid short = load-none tools n sink short
load-wrote tools n sink (ends.Invalid line) valid h = absurd h
load-wrote tools n sink ends.Usage valid h = absurd h
load-wrote tools n sink (ends.BadInput b) valid h = absurd h
load-wrote tools n sink ends.ReadFault valid h = absurd h
load-wrote tools n sink ends.TooLong valid h = absurd h
