-- A seat stays one of the run.
use Rattle.std.proofs.Common.{◌≡◌, map, Some, sym, ap, ◌∙◌}
use Rattle.std.specs.Prelude.{slice_get}
use Rattle.split_inbox.specs.Inboxes.{PosterOf}
use Rattle.part_seat.specs.PartSeats.{PartSeatView, with_room}
use Rattle.part_seat.specs.Steps.{IsStep}
use Rattle.part_seat.specs.declared.passed.Played2.{Played2}
use Rattle.split_part.specs.Splits.{IsSeatOf, SplitOf}

pub seat-stepped : (x : SplitOf) (r : Played2) (a a' : PartSeatView) → IsSeatOf x a → IsStep r a a' → IsSeatOf x a'
seat-stepped x r a a' seat step = record {
  setup = step.same.setup ∙ seat.setup;
  seat = record {
    turns_are = seat.seat.turns_are ∙ sym step.same.cells;
    taker_is = ap (slice_get x.inboxes) step.same.cpu ∙ seat.seat.taker_is ∙ ap Some (sym step.inbox);
    posters_are = seat.seat.posters_are ∙ sym step.inboxes;
  };
}

pub seat-reserved : (x : SplitOf) (a a' : PartSeatView) → IsSeatOf x a → a' ≡ with_room a'.part.room a → IsSeatOf x a'
seat-reserved x a a' seat same = record {
  setup = ap (λ (k : PartSeatView). k.part.setup) same ∙ seat.setup;
  seat = record {
    turns_are = seat.seat.turns_are ∙ sym (ap (λ (k : PartSeatView). map (λ b. b.cell) k.part.seats) same);
    taker_is = ap (λ (k : PartSeatView). slice_get x.inboxes k.part.cpu) same ∙ seat.seat.taker_is ∙ ap Some (sym (ap (λ (k : PartSeatView). k.taker.inbox) same));
    posters_are = seat.seat.posters_are ∙ sym (ap (λ (k : PartSeatView). map (λ (b : PosterOf). b.inbox) k.posters) same);
  };
}
