use Rattle.std.proofs.Common.{◌≡◌, ◌++◌, List, length, map, reverse}
use Rattle.rt_rules.specs.declared.history.Entry.{Entry}
use Rattle.rt_plays.specs.Plays.{group_with}
use Rattle.turn_cell.specs.SeatViews.{SeatView}
use Rattle.cpu_site.specs.declared.story.GroupOf.{GroupOf}
use Rattle.cpu_site.proofs.Returning.{numbered}
use Rattle.cpu_site.proofs.site.Site.open.Given as goal

-- the seats that are gone were put down with the numbers of their processors
abbrev pub invariant-loop-seat : goal.invariant-loop-seat
invariant-loop-seat l =
    (gone : List (SeatView Entry GroupOf)) × (l.initial.seats.items ≡ l.seats.items ++ gone) × (l.all.items ≡ reverse (map (numbered (group_with l.setup l.fn.group.0)) gone))

abbrev pub decreases-loop-seat : goal.decreases-loop-seat
decreases-loop-seat l = length l.seats.items
