-- Seats whose processors have played their scripts.
use Rattle.std.specs.Prelude.{◌≡◌, ℕ, ◌<◌, List, length, slice_index_or, IfOk, Result}
use Rattle.rt_base.specs.declared.NoMemory.{NoMemory}
use Rattle.split_rules.specs.PartHistories.{steps_of}
use Rattle.part_player.specs.Players.{own_script}
use Rattle.part_seat.specs.PartSeats.{PartSeatView}
use Rattle.split_part.specs.Ends.{HavePlayed}
use Rattle.split_part.specs.Splits.{AreSeatsOf, IsSeatOf, SplitOf}

-- a seat that comes back: that of the same processor of the run, which has played its script
pub record IsDriven (x : SplitOf) (before after : PartSeatView) : Type 0 where
  pub seat : IsSeatOf x after
  pub cpu_is : after.part.cpu ≡ before.part.cpu
  pub played : steps_of before.part.cpu after.part.entries ≡ own_script x.setup before.part.cpu

-- each of the seats comes back so, unless memory ran out for it
pub record AreAnswered (x : SplitOf) (seats : List PartSeatView) (runs : List (Result PartSeatView NoMemory)) : Type 0 where
  pub all : length runs ≡ length seats
  pub each : (i : ℕ) (a : PartSeatView) (r : Result PartSeatView NoMemory) → i < length seats
      → IfOk (slice_index_or runs i r) (λ after. IsDriven x (slice_index_or seats i a) after)

-- all seats of the run, of which each has played its script
pub record AreDriven (x : SplitOf) (seats : List PartSeatView) : Type 0 where
  pub seats_are : AreSeatsOf x seats
  pub played : HavePlayed x.setup seats
