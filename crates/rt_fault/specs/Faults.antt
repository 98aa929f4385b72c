-- Counts of faults: a source and a sink count the calls that failed.
use Rattle.std.specs.Prelude.{ℕ, ◌+◌, ◌-◌, ◌^◌, ◌<◌, ◌≢◌, min, Bool, true, false}

-- The count rose from before to after. A count that stood at 2^64 - 1 counts as risen, since it can go no further.
abbrev pub HasRisen : ℕ → ℕ → Type 0
HasRisen before after = before ≢ 2 ^ 64 - 1 → before < after

-- a 64-bit count of faults after a call, by whether the call failed: it stays at 2^64 - 1
abbrev pub faults_after : ℕ → Bool → ℕ
faults_after count true = min (count + 1) (2 ^ 64 - 1)
faults_after count false = count
