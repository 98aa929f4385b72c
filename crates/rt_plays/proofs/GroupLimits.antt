-- A group of a valid set: it has a processor, and each has a low number; and what drives the set is within the limits.
use Rattle.std.proofs.Common.{◌≡◌, ℕ, ◌*◌, ◌<◌, ◌≤◌, true, length, leb-true, refl, sym, arith}
use Rattle.std.specs.Prelude.{All}
use Rattle.std.proofs.Math.Nat.{mul-le-mul_left}
use Rattle.std.proofs.lemmas.List.{length-map}
use Rattle.std.proofs.lemmas.List.Elements.{All-nil}
use Rattle.rt_base.specs.declared.TheConstants.{MOST_CPUS, MOST_STEPS}
use Rattle.rt_task.specs.declared.Drive.{Drive}
use Rattle.rt_task.specs.declared.Drive.TheVariants.{Steps, Horizon}
use Rattle.rt_task.specs.declared.Parts.{Parts}
use Rattle.rt_task.specs.declared.Step.{Step}
use Rattle.rt_task.specs.Draft.{draft_drive, draft_of, draft_step}
use Rattle.rt_task.specs.Lookups as lookups
use Rattle.rt_task.specs.SizeRules.{horizon_fits}
use Rattle.rt_task.specs.Validity.{IsValid}
use Rattle.rt_model.specs.Group.{Group, group_processors}
use Rattle.rt_model.specs.Steps.{IsStepOf}
use Rattle.rt_laws.proofs.ValidSteps.{steps_are_of_groups}
use Rattle.rt_plays.specs.Drives.{horizon, steps_given}
use Rattle.rt_plays.specs.Homes.{IsProcessorOf}
use Rattle.rt_plays.specs.Room.{processor_count}
use Rattle.rt_plays.proofs.ProcessorLaws.{processors-below, processors-few, processors-some}
use Rattle.rt_plays.specs.Groups.{IsGroupOf}
use Rattle.rt_plays.proofs.SetLimits.{cpus-drafted, drive-fits, sets_are_in_limits}

-- ---- its processors

pub processor-low : (g : Group) (q : ℕ) → IsValid g.setup → IsProcessorOf g q → q < MOST_CPUS
processor-low g q valid there = omega (arith, processors-below g q there, (sets_are_in_limits g.setup valid).few_cpus)

-- a group has a processor
pub processor-some : (g : Group) → IsValid g.setup → IsGroupOf g.setup g.number → 1 ≤ length (group_processors g)
processor-some g valid there = processors-some g (sets_are_in_limits g.setup valid).has_cpus there

-- ---- what drives it

pub steps-few : (p : Parts) → IsValid p → length (steps_given p.drive) ≤ MOST_STEPS
steps-few p valid = by_drive p.drive (drive-fits p valid)
  where
    by_drive : (drive : Drive) → horizon_fits (draft_of p) (draft_drive drive) ≡ true → length (steps_given drive) ≤ MOST_STEPS
    by_drive (Steps steps) fits = omega (arith, leb-true _ _ fits, length-map steps draft_step)
    by_drive (Horizon h) fits = omega arith

-- the turns of a group's processors, each with the most steps that a turn has
pub turns-few : (g : Group) → IsValid g.setup → horizon g.setup.drive * length (group_processors g) * 18 ≤ MOST_STEPS
unfolding lookups.cpus
turns-few g valid = by_drive g.setup.drive (drive-fits g.setup valid)
  where
    by_drive : (drive : Drive) → horizon_fits (draft_of g.setup) (draft_drive drive) ≡ true → horizon drive * length (group_processors g) * 18 ≤ MOST_STEPS
    by_drive (Steps steps) fits = omega arith
    by_drive (Horizon h) fits =
        let all : processor_count g.setup ≡ lookups.cpus (draft_of g.setup) = sym (cpus-drafted g.setup.clusters) in
        let few : length (group_processors g) ≤ lookups.cpus (draft_of g.setup) = omega (arith, processors-few g, all) in
        omega (arith, leb-true _ _ fits, mul-le-mul_left h few)

-- each step given to a processor of the group is a step of the group
pub steps-of_groups : (g : Group) → IsValid g.setup → All (λ (s : Step). IsProcessorOf g s.cpu.0 → IsStepOf g s) (steps_given g.setup.drive)
steps-of_groups g valid = by_drive g.setup.drive refl
  where
    by_drive : (drive : Drive) → g.setup.drive ≡ drive → All (λ (s : Step). IsProcessorOf g s.cpu.0 → IsStepOf g s) (steps_given drive)
    by_drive (Steps steps) same = steps_are_of_groups g valid steps same
    by_drive (Horizon h) same = All-nil (λ (s : Step). IsProcessorOf g s.cpu.0 → IsStepOf g s)
