-- The room for the turns of a group, and its horizon, are within the limit of steps.
use Rattle.std.proofs.Common.{◌≡◌, ℕ, ◌*◌, ◌≤◌, length, ap, subst, arith}
use Rattle.std.proofs.Math.Nat.{mul-le-mul_left}
use Rattle.rt_base.specs.declared.TheConstants.{MOST_STEPS}
use Rattle.rt_task.specs.declared.Drive.TheVariants.{Horizon}
use Rattle.rt_task.specs.declared.Parts.{Parts}
use Rattle.rt_task.specs.Validity.{IsValid}
use Rattle.rt_model.specs.Group.{group_processors}
use Rattle.rt_plays.specs.Drives.{horizon}
use Rattle.rt_plays.specs.Plays.{group_with}
use Rattle.rt_plays.specs.Groups.{IsGroupOf}
use Rattle.rt_plays.proofs.GroupLimits as limits

pub turns-few : (p : Parts) (n h : ℕ) → IsValid p → p.drive ≡ Horizon h → h * length (group_processors (group_with p n)) * 18 ≤ MOST_STEPS
turns-few p n h valid drive =
    subst (λ (k : ℕ). k * length (group_processors (group_with p n)) * 18 ≤ MOST_STEPS) (ap horizon drive) (limits.turns-few (group_with p n) valid)

-- a group of the set has a processor
pub horizon-few : (p : Parts) (n h : ℕ) → IsValid p → IsGroupOf p n → p.drive ≡ Horizon h → h ≤ MOST_STEPS
horizon-few p n h valid there drive =
    omega (arith, turns-few p n h valid drive, mul-le-mul_left h (limits.processor-some (group_with p n) valid there))
