-- A partition with what it has seen of the semaphores' histories.
use Rattle.std.specs.Prelude.{◌≡◌, ℕ, zero, suc, ◌+◌, ◌<◌, false, List, [], length, map, Some, slice_index_or}
use Rattle.rt_task.specs.declared.Parts.{Parts}
use Rattle.rt_model.specs.Group.{Group}
use Rattle.turn_cell.specs.SeatViews.{Cell, SeatView}
use Rattle.split_rules.specs.Matching.{Books}
use Rattle.split_rules.specs.PartHistories.{past_of}
use Rattle.split_rules.specs.PartPast.{PartPast}
use Rattle.split_rules.specs.Partitions.{part_group}
use Rattle.split_rules.specs.declared.SemEntry.{SemEntry}
use Rattle.split_rules.specs.declared.SplitEntry.{SplitEntry}
use Rattle.split_inbox.specs.Books as book
use Rattle.split_inbox.specs.declared.subject.SemOf.{SemOf}
use Rattle.split_laws.specs.Parts.{HasSeen}
use Rattle.split_turns.specs.SplitTurns.{book_of}

-- a seat at the turn of a semaphore's book
abbrev pub Seat : Type 0
Seat = SeatView SemEntry SemOf

-- lists as the histories of semaphores 1, 2 and so on
abbrev pub books_of : List (List SemEntry) → Books
books_of ess zero = []
books_of ess (suc n) = slice_index_or ess n []

-- what seats have seen of the semaphores' histories
abbrev pub books_in : List Seat → Books
books_in seats = books_of (map (λ a. a.seen) seats)

abbrev pub cells_of : List Seat → List (Cell SemOf)
cells_of seats = map (λ a. a.cell) seats

-- a partition: its history, and its seat at the turn of each semaphore, by rising number
pub record PartOf : Type 0 where
  pub setup : Parts
  pub cpu : ℕ
  pub entries : List SplitEntry
  pub seats : List Seat
  -- for how many entries more there is room
  pub room : ℕ

abbrev pub unplayed : Parts → ℕ → List Seat → ℕ → PartOf
unplayed p q seats room = record { setup = p; cpu = q; entries = []; seats = seats; room = room }

abbrev pub group_of : PartOf → Group
group_of a = part_group a.setup a.cpu

abbrev pub past_at : PartOf → PartPast
past_at a = past_of (group_of a) a.cpu a.entries

-- the seat of processor q at the turn of semaphore s, which it does not hold
pub record IsSeatAt (p : Parts) (q s : ℕ) (a : Seat) : Type 0 where
  pub cpu : a.cpu ≡ q
  pub rests : a.holds ≡ false
  pub about : a.cell.subject ≡ Some (book_of p s)

-- what a partition with this past has seen at its seats: histories that are legal, and that tell what it did and what befell its tasks
pub record IsMeeting (p : Parts) (q : ℕ) (seats : List Seat) (past : PartPast) : Type 0 where
  pub count : length seats ≡ length p.sems
  pub each : (i : ℕ) (d : Seat) → i < length seats → IsSeatAt p q (i + 1) (slice_index_or seats i d)
  pub legal : (s : ℕ) → book.IsLegalSem (book_of p s) (books_in seats s)
  pub seen : HasSeen (part_group p q) q (books_in seats) past

-- a partition's seats that have seen nothing
pub record AreUnused (p : Parts) (q : ℕ) (seats : List Seat) : Type 0 where
  pub count : length seats ≡ length p.sems
  pub each : (i : ℕ) (d : Seat) → i < length seats → IsSeatAt p q (i + 1) (slice_index_or seats i d)
  pub unseen : (i : ℕ) (d : Seat) → i < length seats → (slice_index_or seats i d).seen ≡ []
