-- The two ends of a call: what its source and its sink tell as it begins and as it ends.
use Rattle.std.specs.Prelude.{ℕ, List, Option}
use Rattle.rt_fault.specs.Held.{Held}

-- a source at one moment: the bytes still to come, and the count of faults
pub record SourceSeen : Type 0 where
  pub left : Option (List ℕ)
  pub faults : ℕ

-- a sink at one moment: what it holds, and the count of faults
pub record SinkSeen : Type 0 where
  pub held : Held
  pub faults : ℕ

pub record Reading : Type 0 where
  pub old : SourceSeen
  pub new : SourceSeen

pub record Writing : Type 0 where
  pub old : SinkSeen
  pub new : SinkSeen

-- a call's source, by the meanings of its type
abbrev pub reading : {S : Type 0} → (S → Option (List ℕ)) → (S → ℕ) → S → S → Reading
reading left faults old new = record {
  old = record { left = left old; faults = faults old };
  new = record { left = left new; faults = faults new };
}

-- a call's sink
abbrev pub writing : {K : Type 0} → (K → Held) → (K → ℕ) → K → K → Writing
writing held faults old new = record {
  old = record { held = held old; faults = faults old };
  new = record { held = held new; faults = faults new };
}
