-- What holds after each entry of the histories of a set.
use Rattle.std.specs.Prelude.{◌≡◌, ℕ, ◌<◌, ◌≤◌, List, [], length, get_or, take}
use Rattle.rt_task.specs.declared.Parts.{Parts}
use Rattle.rt_rules.specs.declared.history.Entry.{Entry}
use Rattle.rt_rules.specs.Numbers.{has}
use Rattle.rt_rules.specs.Placing.{tasks_in}
use Rattle.rt_model.specs.Group.{Group}
use Rattle.rt_model.specs.Past.{Past}
use Rattle.rt_model.specs.Histories.{past_of}
use Rattle.rt_model.specs.Links.{links}
use Rattle.rt_model.specs.Tops.{top}

-- in this past the linked tasks of each cluster are exactly those of its top
abbrev pub HasTopLinked : Group → Past → Type 0
HasTopLinked g past = (c t : ℕ) → has t (tasks_in (links g c past)) ≡ has t (top g c past)

-- that holds of each group n, after the first k entries of its history
abbrev pub LinksAreTheTopOf : Parts → List (List Entry) → Type 0
LinksAreTheTopOf p hs =
    (n k : ℕ) → n < length hs → k ≤ length (get_or hs n []) →
    let g : Group = record { setup = p; number = n } in HasTopLinked g (past_of g (take k (get_or hs n [])))
