-- The rules of the five tools, and the states with which they begin.
use Rattle.std.specs.Prelude.{ℕ, zero, suc, ◌+◌, Bool, true, false, not, List, [], ◌∷◌, Option, None, Some, if◌then◌else◌}
use Rattle.std.specs.Prelude.{min, slice_get, slice_index, slice_set, replicate, nat_lt, nat_eq}
use Rattle.rt_base.specs.declared.TheConstants.{MOST_CPUS, MOST_TASKS}
use Rattle.trace_tools.specs.Tools.{Rules, Tool}
use Rattle.trace_tools.specs.Entries.{begins, ends_late, is_switch, is_work, miss_of, most, or_else}

-- one more, where the test holds, and no more than 64 bits
abbrev pub raised : Bool → ℕ → ℕ
raised b n = if b then min (n + 1) most else n

-- the totals are the state
abbrev pub each_number : List ℕ → ℕ → Option ℕ
each_number state i = slice_get state i

abbrev pub never : List ℕ → Bool
never state = false

-- a tool that counts the entries of a kind: its state is that one number
abbrev pub raise_first : Bool → List ℕ → List ℕ
raise_first b [] = []
raise_first b (n ∷ ns) = raised b n ∷ ns

abbrev pub miss_rules : Rules
miss_rules = record { next = λ state e. raise_first (ends_late e) state; total = each_number; ended = never; name = 77 }

abbrev pub switch_rules : Rules
switch_rules = record { next = λ state e. raise_first (is_switch e) state; total = each_number; ended = never; name = 83 }

-- Migrations: its count, and for each task one more than the processor that it began to run on last, or 0
abbrev pub is_elsewhere : ℕ → ℕ → Bool
is_elsewhere zero q = false
is_elsewhere (suc p) q = not (nat_eq p q)

abbrev pub migrate : Option ℕ → ℕ → List ℕ → List ℕ
migrate None q state = state
migrate (Some t) q [] = []
migrate (Some t) q (n ∷ last_cpus) = raised (is_elsewhere (slice_index last_cpus t) q) n ∷ slice_set last_cpus t (suc q)

abbrev pub first_number : List ℕ → ℕ → Option ℕ
first_number [] i = None
first_number (n ∷ ns) zero = Some n
first_number (n ∷ ns) (suc i) = None

abbrev pub migration_rules : Rules
migration_rules = record { next = λ state e. migrate (begins e) e.entry.step.cpu.0 state; total = first_number; ended = never; name = 71 }

-- Occupancy: the count of each processor, up to the greatest that was shown
abbrev pub raise_at : ℕ → Bool → List ℕ → List ℕ
raise_at zero b [] = raised b 0 ∷ []
raise_at zero b (n ∷ ns) = raised b n ∷ ns
raise_at (suc q) b [] = 0 ∷ raise_at q b []
raise_at (suc q) b (n ∷ ns) = n ∷ raise_at q b ns

abbrev pub occupy : ℕ → Bool → List ℕ → List ℕ
occupy q b state = if nat_lt q MOST_CPUS then raise_at q b state else state

abbrev pub occupancy_rules : Rules
occupancy_rules = record {
  next = λ state e. occupy e.entry.step.cpu.0 (is_work e.entry.step.act e.entry.reply) state;
  total = each_number;
  ended = never;
  name = 79;
}

-- FirstMiss: nothing, and then the number and the task of its entry
abbrev pub is_found : List ℕ → Bool
is_found [] = false
is_found (n ∷ ns) = true

abbrev pub first_miss_rules : Rules
first_miss_rules = record { next = λ state e. or_else state (miss_of e.ended e); total = each_number; ended = is_found; name = 70 }

-- no task has begun to run so far
unfoldable pub nowhere : ℕ → List ℕ
nowhere tasks = replicate tasks 0

-- the five as they begin
abbrev pub new_misses : Tool
new_misses = record { rules = miss_rules; state = 0 ∷ [] }

abbrev pub new_switches : Tool
new_switches = record { rules = switch_rules; state = 0 ∷ [] }

abbrev pub new_migrations : Tool
new_migrations = record { rules = migration_rules; state = 0 ∷ nowhere (MOST_TASKS + 1) }

abbrev pub new_occupancy : Tool
new_occupancy = record { rules = occupancy_rules; state = [] }

abbrev pub new_first_miss : Tool
new_first_miss = record { rules = first_miss_rules; state = [] }
