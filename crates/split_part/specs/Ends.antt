-- What a split run has come to at its end: the histories of all semaphores and of all partitions.
use Rattle.std.specs.Prelude.{◌≡◌, ℕ, ◌<◌, ◌++◌, List, [], length, Some, slice_index_or}
use Rattle.rt_task.specs.declared.Parts.{Parts}
use Rattle.rt_plays.specs.Plays.{group_with}
use Rattle.rt_plays.specs.Room.{processor_count}
use Rattle.split_rules.specs.Matching.{Books, DoMatch, claims, granted_at}
use Rattle.split_rules.specs.PartHistories.{IsLegalFrom, past_of, steps_of}
use Rattle.split_rules.specs.PartPast.{PartPast, deeds}
use Rattle.split_rules.specs.PartSems.{holding}
use Rattle.split_rules.specs.Partitions.{part_group}
use Rattle.split_rules.specs.SemHistories.{IsLegalSem, seat_of}
use Rattle.split_rules.specs.declared.SemEntry.{SemEntry}
use Rattle.split_rules.specs.declared.SplitEntry.{SplitEntry}
use Rattle.split_laws.specs.Parts.{Among}
use Rattle.part_player.specs.Players.{own_script}
use Rattle.part_seat.specs.Partitions.{books_of}
use Rattle.part_seat.specs.PartSeats.{PartSeatView}
use Rattle.split_part.specs.declared.end.SplitEnd.{SplitEnd}

-- the semaphores' histories by rising number from 1, and the partitions' by the number of the processor
pub record EndOf : Type 0 where
  pub sems : List (List SemEntry)
  pub parts : List (List SplitEntry)

abbrev pub end_of : SplitEnd → EndOf
end_of e = record { sems = e.sems; parts = e.parts }

abbrev pub history_at : EndOf → ℕ → List SplitEntry
history_at e q = slice_index_or e.parts q []

abbrev pub past_in : Parts → EndOf → ℕ → PartPast
past_in p e q = past_of (part_group p q) q (history_at e q)

abbrev pub books_at : EndOf → Books
books_at e = books_of e.sems

-- All histories are legal and match, each semaphore is held by at most one task over all partitions, and each grant by a release was
-- taken; by the rising numbers of a match it was taken once.
pub record IsSplitEnd (p : Parts) (e : EndOf) : Type 0 where
  pub sem_count : length e.sems ≡ length p.sems
  pub part_count : length e.parts ≡ processor_count p
  pub sems_legal : (s : ℕ) → IsLegalSem (group_with p 0) s (books_at e s)
  pub parts_legal : (q : ℕ) → q < processor_count p → IsLegalFrom (part_group p q) q [] (history_at e q)
  pub match : (q : ℕ) → q < processor_count p → DoMatch q (books_at e) (past_in p e q)
  pub one_holder : (s q r t u : ℕ) → q < processor_count p → r < processor_count p → holding t (past_in p e q) ≡ Some s
      → holding u (past_in p e r) ≡ Some s → t ≡ u
  pub each_taken : (s n u : ℕ) → granted_at (books_at e s) n ≡ Some u
      → Among (record { sem = s; no = n; task = u }) (claims (deeds (past_in p e (seat_of (group_with p 0) u))))

-- each partition's history goes on from its seat's, and plays no further step of its script
pub record GoesOn (a : PartSeatView) (es : List SplitEntry) : Type 0 where
  pub more : List SplitEntry
  pub later : es ≡ a.part.entries ++ more
  pub takes : steps_of a.part.cpu more ≡ []

abbrev pub AllGoOn : List PartSeatView → EndOf → Type 0
AllGoOn seats e = (q : ℕ) (d : PartSeatView) → q < length seats → GoesOn (slice_index_or seats q d) (history_at e q)

-- each partition has played its script
abbrev pub AllPlayed : Parts → EndOf → Type 0
AllPlayed p e = (q : ℕ) → q < processor_count p → steps_of q (history_at e q) ≡ own_script p q

-- each seat has played its script
abbrev pub HavePlayed : Parts → List PartSeatView → Type 0
HavePlayed p seats = (q : ℕ) (d : PartSeatView) → q < length seats → steps_of q (slice_index_or seats q d).part.entries ≡ own_script p q
