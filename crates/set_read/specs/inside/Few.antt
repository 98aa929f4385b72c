-- A document whose elements have numbers of 32 bits.
use Rattle.std.specs.Prelude.{◌+◌, ◌^◌, ◌<◌, length}
use Rattle.set_read.specs.declared.document.Play.{Play}
use Rattle.set_read.specs.declared.document.Play.TheVariants.{Steps, Horizon}
use Rattle.set_read.specs.declared.document.Whole.{Whole}

abbrev pub HasFewSteps : Play → Type 0
HasFewSteps (Steps vs) = length vs.now < 2 ^ 32
HasFewSteps (Horizon h) = Unit {0}

pub record IsFew (w : Whole) : Type 0 where
  pub clusters : length w.clusters.now < 2 ^ 32
  pub sems : length w.sems.now + 1 < 2 ^ 32
  pub resvs : length w.resvs.now + 1 < 2 ^ 32
  pub tasks : length w.tasks.now + 1 < 2 ^ 32
  pub steps : HasFewSteps w.play
