-- Releases of jobs that stand as keys in a heap.
use Rattle.std.specs.Prelude.{◌≡◌, ℕ, List, map, Option, None, Some, option_map, slice_index_or}
use Rattle.rt_rules.specs.declared.Key.{Key}

-- the earlier release is the higher key
abbrev pub key_of_release : ℕ → Key
key_of_release release = record { band = 0; major = release; minor = 0 }

abbrev pub releases_in : List (Option Key) → List (Option ℕ)
releases_in keys = map (option_map (λ (k : Key). k.major)) keys

-- each key is that of a release
abbrev pub AreReleases : List (Option Key) → Type 0
AreReleases keys = (t : ℕ) (k : Key) → slice_index_or keys t None ≡ Some k → k ≡ key_of_release k.major
