-- How a writer of a text ends.
use Rattle.std.specs.Prelude.{◌≡◌, ℕ, ◌≤◌, List, ◌++◌, Result, Ok, Err}
use Rattle.rt_fault.specs.Ends.{Writing}
use Rattle.rt_fault.specs.Faults.{HasRisen}
use Rattle.rt_fault.specs.Held.{Extends, ExtendsByPrefix}
use Rattle.trace_writer.specs.declared.stop.WriteStop.{WriteStop}
use Rattle.trace_writer.specs.declared.stop.WriteStop.TheVariants as stops

-- what came to a sink in a call: all of the text; or a first part of it, where a write failed or memory ran out;
-- its count of faults rose only for a failed write
abbrev pub Came : Result (Unit {0}) WriteStop → Writing → List ℕ → Type 0
Came (Ok x) s text = Extends s.old.held s.new.held text × (s.new.faults ≡ s.old.faults)
Came (Err stops.Fault) s text =
    ExtendsByPrefix s.old.held s.new.held text × (s.old.faults ≤ s.new.faults) × HasRisen s.old.faults s.new.faults
Came (Err stops.NoMemory) s text = ExtendsByPrefix s.old.held s.new.held text × (s.new.faults ≡ s.old.faults)

-- a first part of a text came to a sink, and the rest of it is kept; or the call stopped, and of the text a first part came
abbrev pub Sends : Result (Unit {0}) WriteStop → Writing → List ℕ → List ℕ → Type 0
Sends (Ok x) s text kept = (part : List ℕ) × (text ≡ part ++ kept) × Came (Ok x) s part
Sends (Err e) s text kept = Came (Err e) s text
