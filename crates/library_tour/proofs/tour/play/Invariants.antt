use Rattle.std.proofs.Common.{◌≡◌, ◌+◌, length}
use Rattle.library_tour.specs.inside.TourGroup.{IsOfTour}
use Rattle.library_tour.proofs.tour.play.Given as goal

-- the engine is of the tour's group, and has room for the steps that are left
abbrev pub invariant-loop-step : goal.invariant-loop-step
invariant-loop-step l = IsOfTour l.engine × (l.engine.spare + l.step-index ≡ length l.steps)
