-- How many tasks wait for each task.
use Rattle.std.specs.Prelude.{◌≡◌, ℕ, ◌+◌, ◌<◌, ◌^◌, List, [], ◌∷◌, length, Option, if◌then◌else◌, slice_index}
use Rattle.rt_rules.specs.declared.Key.{Key}
use Rattle.rt_rules.specs.Numbers.{is}
use Rattle.prio_inherit.specs.Local.{IsInherit}

-- how many tasks wait for t
abbrev pub count_of : List (Option ℕ) → ℕ → ℕ
count_of [] t = 0
count_of (o ∷ os) t = (if is t o then 1 else 0) + count_of os t

-- these counts are kept
pub record IsCounted (nexts : List (Option ℕ)) (counts : List ℕ) : Type 0 where
  pub limit : length nexts < 2 ^ 32
  pub counts_length : length counts ≡ length nexts
  pub counted : (t : ℕ) → t < length nexts → slice_index counts t ≡ count_of nexts t

-- with the keys
pub record IsTable (bases : List (Option Key)) (nexts : List (Option ℕ)) (boosts : List (Option Key)) (keys : List Key)
    (counts : List ℕ) : Type 0 where
  pub inherit : IsInherit bases nexts boosts keys
  pub counted : IsCounted nexts counts
