-- A ranking is kept by bringing up to date the tasks that were touched alone.
use Rattle.std.specs.Prelude.{◌≡◌, ℕ, Bool, true, false, List, [], ◌∷◌, if◌then◌else◌}
use Rattle.rt_rules.specs.declared.Key.{Key}
use Rattle.rt_rules.specs.Distinct.{IsDistinct}
use Rattle.rt_rules.specs.Keys.{Ranked, inserted}
use Rattle.rt_rules.specs.Numbers.{has}
use Rattle.rt_rules.specs.Rankings.{without_task, ranked_by}

-- outside the touched ones the same tasks pass, and those that pass have the same keys; all touched ones are of the list
pub record AgreeBut (touched ts : List ℕ) (key key' : ℕ → Key) (test test' : ℕ → Bool) : Type 0 where
  pub inside : (t : ℕ) → has t touched ≡ true → has t ts ≡ true
  pub tests : (t : ℕ) → has t ts ≡ true → has t touched ≡ false → test t ≡ test' t
  pub keys : (t : ℕ) → has t ts ≡ true → has t touched ≡ false → test t ≡ true → key t ≡ key' t

-- a task is taken out, and put back in its position where it passes
abbrev pub put_back : (ℕ → Key) → (ℕ → Bool) → ℕ → List Ranked → List Ranked
put_back key test t rs = if test t then inserted (record { key = key t; task = t }) (without_task t rs) else without_task t rs

-- each of the touched ones is
abbrev pub refreshed : (ℕ → Key) → (ℕ → Bool) → List ℕ → List Ranked → List Ranked
refreshed key test [] rs = rs
refreshed key test (t ∷ touched) rs = refreshed key test touched (put_back key test t rs)

abbrev pub RankingIsRefreshed : Type 0
RankingIsRefreshed = (touched ts : List ℕ) (key key' : ℕ → Key) (test test' : ℕ → Bool) → IsDistinct ts
    → AgreeBut touched ts key key' test test' → ranked_by key' test' ts ≡ refreshed key' test' touched (ranked_by key test ts)
