-- What sources and sinks in memory are seen as.
use Rattle.std.specs.Prelude.{ℕ, ◌+◌, ◌-◌, ◌^◌, ◌<◌, min, List, ◌++◌, length, take, nat_lt, ◌==◌, count_by, Contains, Some, if◌then◌else◌}
use Rattle.rt_fault.specs.Held.{Held, Told, Over}

-- The numbers of the calls that are to fail, from 0, and the number of the next call, which stays at 2^64 - 1.
pub record Plan : Type 0 where
  pub fails : List ℕ
  pub calls : ℕ

-- the next call is to fail; the numbers of such calls have 32 bits
abbrev pub IsFailing : Plan → Type 0
IsFailing p = (p.calls < 2 ^ 32) × Contains p.fails p.calls

-- one call later
abbrev pub after_call : Plan → Plan
after_call p = record p { calls = min (p.calls + 1) (2 ^ 64 - 1) }

-- how many of the numbers are those of calls that were made and could fail
abbrev pub failed_calls : Plan → ℕ
failed_calls p = count_by (λ k. nat_lt k (min p.calls (2 ^ 32))) p.fails

-- The first `room` bytes that came, and how many came beyond them, which stays at 2^64 - 1.
pub record Kept : Type 0 where
  pub bytes : List ℕ
  pub room : ℕ
  pub beyond : ℕ

-- what a sink tells that keeps no more: the bytes, while no more came
abbrev pub held_in : Kept → Held
held_in k = if k.beyond == 0 then Told k.bytes (Some (k.room - length k.bytes)) else Over

-- these bytes came too
abbrev pub kept_with : Kept → List ℕ → Kept
kept_with k bs =
    let spare = k.room - length k.bytes in
    record k { bytes = k.bytes ++ take spare bs; beyond = min (k.beyond + (length bs - spare)) (2 ^ 64 - 1) }

-- A source in memory: the bytes still to come, how many a read gives at most, and which calls fail.
pub record MemInput : Type 0 where
  pub left : List ℕ
  pub piece : ℕ
  pub plan : Plan

-- A sink in memory: what it keeps, and which calls fail.
pub record MemOutput : Type 0 where
  pub kept : Kept
  pub plan : Plan
