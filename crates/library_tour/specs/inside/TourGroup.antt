-- The one group of the tour's set, and an engine of it.
use Rattle.std.specs.Prelude.{◌≡◌}
use Rattle.rt_task.specs.Draft.{parts_of}
use Rattle.rt_model.specs.Group.{Group}
use Rattle.rt_plays.specs.Groups.{GroupHistory, group_of}
use Rattle.library_tour.specs.inside.TourSet.{the_draft}

abbrev pub the_group : Group
the_group = record { setup = parts_of the_draft; number = 0 }

abbrev pub IsOfTour : GroupHistory → Type 0
IsOfTour h = group_of h ≡ the_group
