-- Whether a current job is there, with no regard to which of a release and early releasing made it so.
use Rattle.std.proofs.Common.{◌≡◌, ℕ, Bool, true, false, ◌&&◌, ◌||◌, refl}
use Rattle.std.specs.Prelude.{not, nat_lt}
use Rattle.rt_model.specs.Group.{Group, task}
use Rattle.rt_model.specs.Jobs.{done}
use Rattle.rt_model.specs.Past.{Past}
use Rattle.rt_model.specs.Releases.{exists, is_released, opens_early}

-- the current job is not the first of an early task
abbrev pub is_next_of_early : Group → ℕ → Past → Bool
is_next_of_early g t past = (task g t).early && nat_lt 0 (done t past)

pub exists-early : (g : Group) (t : ℕ) (past : Past) → exists g t past ≡ (is_released g t past || is_next_of_early g t past)
unfolding exists opens_early
exists-early g t past = by_cases (is_released g t past) (task g t).early (nat_lt 0 (done t past))
  where
    by_cases : (a b c : Bool) → a || (b && (c && not a)) ≡ a || (b && c)
    by_cases true b c = refl
    by_cases false true true = refl
    by_cases false true false = refl
    by_cases false false c = refl
