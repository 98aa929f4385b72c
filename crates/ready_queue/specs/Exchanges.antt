-- Which task leaves the first ones and which comes to them.
use Rattle.std.specs.Prelude.{◌≡◌, ℕ, true, false, ◌&&◌, ◌||◌, not, List, Option}
use Rattle.rt_rules.specs.Numbers.{has, is}

-- one top has the tasks of another but the one that left, and the one that came, if any
pub record IsExchanged (old new : List ℕ) (left came : Option ℕ) : Type 0 where
  pub was : (t : ℕ) → is t left ≡ true → has t old ≡ true
  pub was_not : (t : ℕ) → is t came ≡ true → has t old ≡ false
  pub first : (t : ℕ) → has t new ≡ (has t old && not (is t left)) || is t came
