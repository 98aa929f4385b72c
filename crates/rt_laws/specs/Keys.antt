-- The order of tasks and of clients: no ties between base keys, and released jobs before those that are open early.
use Rattle.std.specs.Prelude.{◌≡◌, ℕ, true, false}
use Rattle.rt_task.specs.RuleWords.{is_p_res}
use Rattle.rt_model.specs.BaseKeys.{base_key}
use Rattle.rt_model.specs.Releases.{is_released, opens_early}
use Rattle.rt_model.specs.Reservations.{earlier}
use Rattle.rt_laws.specs.EveryPast.{EveryPast}

-- Under the EDF plugins and P-FP no two tasks have one base key.
abbrev pub BaseKeysDiffer : Type 0
BaseKeysDiffer =
    EveryPast (λ g past. is_p_res g.setup.plugin ≡ false → (t u : ℕ) → base_key g t past ≡ base_key g u past → t ≡ u)

-- In front of a reservation a client whose job is released goes before one whose job is open early.
abbrev pub ReleasedGoesFirst : Type 0
ReleasedGoesFirst =
    EveryPast (λ g past. (t u : ℕ) → is_released g t past ≡ true → opens_early g u past ≡ true → earlier g past t u ≡ true)
