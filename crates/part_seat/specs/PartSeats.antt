-- The seat of a processor at a split run: its partition, and its ends of the inboxes.
use Rattle.std.specs.Prelude.{◌≡◌, ℕ, ◌<◌, ◌==◌, if◌then◌else◌, List, [], ◌∷◌, length, map, slice_index_or, Some}
use Rattle.rt_task.specs.declared.Parts.{Parts}
use Rattle.rt_rules.specs.Numbers.{numbers_from}
use Rattle.rt_model.specs.Group.{Group}
use Rattle.rt_plays.specs.Room.{processor_count}
use Rattle.split_rules.specs.SemHistories.{seat_of}
use Rattle.turn_cell.specs.SeatViews.{Cell}
use Rattle.split_rules.specs.Matching.{claims}
use Rattle.split_rules.specs.PartLinks.{tasks}
use Rattle.split_rules.specs.PartPast.{Claim, deeds}
use Rattle.split_rules.specs.Partitions.{part_group}
use Rattle.split_inbox.specs.Inboxes.{InboxId, PosterOf, TakerOf}
use Rattle.split_inbox.specs.declared.subject.SemOf.{SemOf}
use Rattle.split_laws.specs.Counts.{count_steps}
use Rattle.split_laws.specs.Parts.{Among}
use Rattle.split_laws.specs.Posts.{HasPosted, TakenGrant, claims_of, cpu_at}
use Rattle.split_counts.specs.Room.{is_unlock}
use Rattle.part_player.specs.Players.{IsPlayed, own_script}
use Rattle.part_seat.specs.Partitions.{IsMeeting, PartOf, books_in, cells_of, group_of, past_at}
use Rattle.part_seat.specs.AtTurns.{claim_passed, plain_claim, taken_claim}
use Rattle.part_seat.specs.declared.passed.Passed.{Passed}

-- the partition, the poster of each inbox, by the number of its processor, and the taker of its own
pub record PartSeatView : Type 0 where
  pub part : PartOf
  pub posters : List PosterOf
  pub taker : TakerOf

-- what was posted to the inbox of each processor, as the rules speak of it
abbrev pub posted_in : List PosterOf → ℕ → List Claim
posted_in posters r = slice_index_or (map (λ (b : PosterOf). map plain_claim b.posted) posters) r []

abbrev pub inboxes_of : List PosterOf → List InboxId
inboxes_of posters = map (λ (b : PosterOf). b.inbox) posters

-- what a release passed on, where it is to a task of processor r
abbrev pub passed_to : Group → ℕ → Passed → List Claim
passed_to g r c = if seat_of g c.task.0 == r then claim_passed c ∷ [] else []

-- what was taken, with who posted it
abbrev pub taken_in : TakerOf → List TakenGrant
taken_in taker = map taken_claim taker.taken

-- how many grants each processor may post to an inbox: as many as its script has steps that unlock a semaphore
abbrev pub unlocks_of : Parts → List ℕ
unlocks_of p = map (λ q. count_steps is_unlock (own_script p q)) (numbers_from 0 (processor_count p))

-- the poster of processor q at the inbox of processor r
pub record IsPosterAt (p : Parts) (q r : ℕ) (b : PosterOf) : Type 0 where
  pub cpu : b.cpu ≡ q
  pub tasks_are : b.tasks ≡ tasks (part_group p r) r
  pub quotas_are : b.quotas ≡ unlocks_of p

pub record ArePosters (p : Parts) (q : ℕ) (posters : List PosterOf) : Type 0 where
  pub count : length posters ≡ processor_count p
  pub each : (r : ℕ) (d : PosterOf) → r < length posters → IsPosterAt p q r (slice_index_or posters r d)

-- what each partition keeps: its history is legal, beside the histories that it has seen
pub record IsPartition (a : PartOf) : Type 0 where
  pub history : IsPlayed a.setup a.cpu a.entries
  pub meeting : IsMeeting a.setup a.cpu a.seats (past_at a)

-- and what each such seat keeps beside it, where these are the turns of the semaphores
pub record IsPartSeat (turns : List (Cell SemOf)) (a : PartSeatView) : Type 0 where
  pub cells_are : cells_of a.part.seats ≡ turns
  pub posters_are : ArePosters a.part.setup a.part.cpu a.posters
  pub taker_tasks : a.taker.tasks ≡ tasks (group_of a.part) a.part.cpu
  -- its grants to the tasks of each processor were posted to that one's inbox
  pub posted : HasPosted (group_of a.part) a.part.cpu (books_in a.part.seats) (posted_in a.posters)
  -- what was taken from the inbox are the grants that the partition took, each of its poster
  pub took : claims (deeds (past_at a.part)) ≡ claims_of (taken_in a.taker)
  pub from : (x : TakenGrant) → Among x (taken_in a.taker) → cpu_at (books_in a.part.seats x.claim.sem) x.claim.no ≡ Some x.from

-- a seat that has room for so many entries more, and is the same beside
abbrev pub with_room : ℕ → PartSeatView → PartSeatView
with_room room a = record a { part = record a.part { room = room } }

-- a seat of which nothing was played
pub record IsUnplayed (turns : List (Cell SemOf)) (a : PartSeatView) : Type 0 where
  pub entries : a.part.entries ≡ []
  pub unseen : (s : ℕ) → books_in a.part.seats s ≡ []
  pub cells_are : cells_of a.part.seats ≡ turns
  pub posters_are : ArePosters a.part.setup a.part.cpu a.posters
  pub unposted : (r : ℕ) → posted_in a.posters r ≡ []
  pub taker_tasks : a.taker.tasks ≡ tasks (group_of a.part) a.part.cpu
  pub untaken : a.taker.taken ≡ []
