-- What the processors of a split run share, and their seats.
use Rattle.std.specs.Prelude.{◌≡◌, ℕ, ◌<◌, List, [], length, slice_index_or, map}
use Rattle.rt_task.specs.declared.Parts.{Parts}
use Rattle.rt_plays.specs.Room.{processor_count}
use Rattle.turn_cell.specs.SeatViews.{Cell, TurnOf}
use Rattle.split_inbox.specs.Inboxes.{InboxId}
use Rattle.split_inbox.specs.declared.subject.SemOf.{SemOf}
use Rattle.split_turns.specs.declared.turns.SemTurn.{SemTurn}
use Rattle.part_seat.specs.PartSeats.{PartSeatView}
use Rattle.part_seat.specs.Steps as steps

-- the turn of each semaphore, by rising number, and the inbox of each processor
pub record SplitOf : Type 0 where
  pub setup : Parts
  pub turns : List (TurnOf SemOf)
  pub inboxes : List InboxId

-- the seat is one of this run
pub record IsSeatOf (x : SplitOf) (a : PartSeatView) : Type 0 where
  pub setup : a.part.setup ≡ x.setup
  pub seat : steps.IsSeatOf x.turns x.inboxes a

-- all seats of the run, by the number of the processor
pub record AreSeatsOf (x : SplitOf) (views : List PartSeatView) : Type 0 where
  pub count : length views ≡ processor_count x.setup
  pub each : (q : ℕ) (d : PartSeatView) → q < length views → IsSeatOf x (slice_index_or views q d)
      × ((slice_index_or views q d).part.cpu ≡ q)

-- the turns' names
abbrev pub cells_in : List SemTurn → List (Cell SemOf)
cells_in ts = map (λ (t : SemTurn). t.turn.cell) ts

-- seats of which no step was played
abbrev pub AreUnplayed : List PartSeatView → Type 0
AreUnplayed views = (q : ℕ) (d : PartSeatView) → q < length views → (slice_index_or views q d).part.entries ≡ []
