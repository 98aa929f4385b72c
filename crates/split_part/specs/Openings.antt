-- What a split run is opened of.
use Rattle.std.specs.Prelude.{◌≡◌, ℕ, List, [], length, map, All, Some, slice_get}
use Rattle.rt_task.specs.declared.Parts.{Parts}
use Rattle.rt_plays.specs.Room.{processor_count}
use Rattle.turn_cell.specs.SeatViews.{Cell, TurnOf, fresh_seats}
use Rattle.split_rules.specs.PartLinks.{tasks}
use Rattle.split_inbox.specs.Inboxes.{InboxId, PosterOf, TakerOf, fresh_posters, fresh_taker}
use Rattle.split_inbox.specs.declared.subject.SemOf.{SemOf}
use Rattle.split_turns.specs.SplitTurns.{book_of}
use Rattle.split_turns.specs.declared.turns.SemTurn.{SemTurn}
use Rattle.part_seat.specs.Partitions.{PartOf, Seat, group_of, unplayed}
use Rattle.part_seat.specs.PartSeats.{IsUnplayed, PartSeatView}
use Rattle.split_part.specs.Columns.{AreFrom, IsColumn}

-- ---- the parts of the turns of the semaphores

abbrev pub turns_in : List SemTurn → List (TurnOf SemOf)
turns_in ts = map (λ (t : SemTurn). t.turn) ts

-- the seats at each
abbrev pub rows_in : List SemTurn → List (List Seat)
rows_in ts = map (λ (t : SemTurn). t.seats.items) ts

-- ---- partitions

-- for each semaphore, by rising number, the seats of all processors at its turn, as they are before the first step
pub record AreFreshRows (p : Parts) (rows : List (List Seat)) : Type 0 where
  pub cells : List (Cell SemOf)
  pub rows_are : rows ≡ map (λ (k : Cell SemOf). fresh_seats k (processor_count p)) cells
  pub count : length cells ≡ length p.sems
  pub about : AreFrom (λ s (k : Cell SemOf). k.subject ≡ Some (book_of p s)) 1 cells

-- the partition of processor q before its first step, with the seats at view q of the rows
pub record IsOpenPart (p : Parts) (rows : List (List Seat)) (q : ℕ) (a : PartOf) : Type 0 where
  pub is : a ≡ unplayed p q a.seats a.room
  pub column : IsColumn q rows a.seats

-- the partitions of all processors, by rising number
pub record AreOpenParts (p : Parts) (rows : List (List Seat)) (parts : List PartOf) : Type 0 where
  pub count : length parts ≡ processor_count p
  pub each : AreFrom (IsOpenPart p rows) 0 parts

-- ---- inboxes

-- the taker of the inbox of a partition, from which nothing was taken
abbrev pub IsFreshTaker : List ℕ → PartOf → TakerOf → Type 0
IsFreshTaker quotas a t = t ≡ fresh_taker t.inbox.table (tasks (group_of a) a.cpu) quotas

-- the inboxes of takers
abbrev pub inboxes_at : List TakerOf → List InboxId
inboxes_at ts = map (λ (t : TakerOf). t.inbox) ts

-- and the posters of each, by the number of the poster's processor, before the first step
abbrev pub posters_at : List TakerOf → List (List PosterOf)
posters_at ts = map (λ (t : TakerOf). fresh_posters t.inbox.table t.tasks t.quotas (length t.quotas)) ts

-- ---- seats

-- the seat of processor q has its partition, the posters at view q of the rows, and its taker
pub record IsSeated (parts : List PartOf) (rows : List (List PosterOf)) (takers : List TakerOf) (q : ℕ) (a : PartSeatView) : Type 0 where
  pub part : slice_get parts q ≡ Some a.part
  pub posters : IsColumn q rows a.posters
  pub taker : slice_get takers q ≡ Some a.taker

-- what becomes seats of which nothing was played, at these turns
pub record CanSeat (turns : List (Cell SemOf)) (parts : List PartOf) (rows : List (List PosterOf)) (takers : List TakerOf) : Type 0 where
  pub count : length takers ≡ length parts
  pub wide : All (λ row. length row ≡ length parts) rows
  pub unplayed_each : (q : ℕ) (a : PartSeatView) → IsSeated parts rows takers q a → IsUnplayed turns a
  pub unposted : All (λ row. All (λ (b : PosterOf). b.posted ≡ []) row) rows

-- the seats of all processors, by rising number
pub record AreSeated (parts : List PartOf) (rows : List (List PosterOf)) (takers : List TakerOf) (seats : List PartSeatView) : Type 0 where
  pub count : length seats ≡ length parts
  pub each : AreFrom (IsSeated parts rows takers) 0 seats
