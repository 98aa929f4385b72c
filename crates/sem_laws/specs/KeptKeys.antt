-- The keys with which tasks asked, kept by the number of the task.
use Rattle.std.specs.Prelude.{ℕ, Bool, List, slice_index_or}
use Rattle.rt_rules.specs.declared.Key.{Key}
use Rattle.rt_rules.specs.KeyOrder.{higher}

-- the key with which a task asked last
abbrev pub key_at : List Key → ℕ → Key
key_at keys t = slice_index_or keys t (record { band = 0; major = 0; minor = 0 })

-- whether the key of t is higher than that of u
abbrev pub above : List Key → ℕ → ℕ → Bool
above keys t u = higher (key_at keys t) (key_at keys u)
