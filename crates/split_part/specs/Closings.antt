-- What the end of a split run comes to, step by step.
use Rattle.std.specs.Prelude.{◌≡◌, ℕ, false, List, [], ◌++◌, length, map, All, Some, slice_get}
use Rattle.turn_cell.specs.SeatViews.{TurnOf}
use Rattle.split_rules.specs.Matching.{claims}
use Rattle.split_rules.specs.PartHistories.{steps_of}
use Rattle.split_rules.specs.PartLinks.{tasks}
use Rattle.split_rules.specs.PartPast.{deeds}
use Rattle.split_rules.specs.declared.SemEntry.{SemEntry}
use Rattle.split_rules.specs.declared.SplitEntry.{SplitEntry}
use Rattle.split_inbox.specs.Grants.{GrantOf, claim_of}
use Rattle.split_inbox.specs.Inboxes.{PosterOf, TakerOf}
use Rattle.split_inbox.specs.Posting.{AreNamed, AreRising, of_poster}
use Rattle.split_inbox.specs.declared.rule.Claim as inbox
use Rattle.split_inbox.specs.declared.subject.SemOf.{SemOf}
use Rattle.split_laws.specs.Parts.{Among, HaveGrown}
use Rattle.split_laws.specs.Posts.{TakenGrant, claims_of, cpu_at}
use Rattle.part_seat.specs.AtTurns.{About, IsFound, IsSamePart, plain_claim, taken_claim}
use Rattle.part_seat.specs.Partitions.{PartOf, Seat, books_in, group_of, past_at}
use Rattle.split_part.specs.Columns.{AreFrom, IsColumn}

-- ---- what is left of the inboxes

abbrev pub claims_in : List GrantOf → List inbox.Claim
claims_in gs = map claim_of gs

-- what is left of inbox r, whose posters stand at view r of the rows: of each poster what was taken and then this are what it posted
pub record IsRest (rows : List (List PosterOf)) (r : ℕ) (t : TakerOf) (rest : List inbox.Claim) : Type 0 where
  pub hand : List PosterOf
  pub column : IsColumn r rows hand
  pub all : All (λ (b : PosterOf). b.posted ≡ of_poster b.cpu (t.taken ++ rest)) hand
  pub named : AreNamed t.tasks rest
  pub rising : AreRising (t.taken ++ rest)

abbrev pub IsRestAt : List (List PosterOf) → List TakerOf → ℕ → List GrantOf → Type 0
IsRestAt rows takers r rest = (t : TakerOf) → slice_get takers r ≡ Some t → IsRest rows r t (claims_in rest)

-- of all inboxes, by the number of the processor
pub record AreRests (rows : List (List PosterOf)) (takers : List TakerOf) (rests : List (List GrantOf)) : Type 0 where
  pub count : length rests ≡ length takers
  pub each : AreFrom (IsRestAt rows takers) 0 rests

-- ---- grants that are taken at the end

-- The partition can take the grants: they are to its tasks, it knows of each grant that it took before who posted it, and with these the
-- numbers of one poster and one semaphore rise.
pub record CanTake (a : PartOf) (rest : List inbox.Claim) : Type 0 where
  pub taken : List inbox.Claim
  pub took : claims (deeds (past_at a)) ≡ claims_of (map taken_claim taken)
  pub from : (x : TakenGrant) → Among x (map taken_claim taken) → cpu_at (books_in a.seats x.claim.sem) x.claim.no ≡ Some x.from
  pub named : AreNamed (tasks (group_of a) a.cpu) rest
  pub rising : AreRising (taken ++ rest)

-- the partition took these grants, in order, and did nothing else
pub record HasTakenAll (a a' : PartOf) (rest : List inbox.Claim) : Type 0 where
  pub same : IsSamePart a a'
  pub more : List SplitEntry
  pub entries : a'.entries ≡ a.entries ++ more
  pub takes : steps_of a.cpu more ≡ []
  pub claims_are : claims (deeds (past_at a')) ≡ claims (deeds (past_at a)) ++ map plain_claim rest
  pub grown : HaveGrown a.cpu (books_in a.seats) (books_in a'.seats)

-- each of the partitions can take what is left of its inbox
abbrev pub CanTakeEach : List PartOf → List (List GrantOf) → Type 0
CanTakeEach parts rests = (q : ℕ) (a : PartOf) (rest : List GrantOf) → slice_get parts q ≡ Some a
    → slice_get rests q ≡ Some rest → CanTake a (claims_in rest)

-- and the partition of processor q took it
abbrev pub HasTakenAt : List PartOf → List (List GrantOf) → ℕ → PartOf → Type 0
HasTakenAt parts rests q a' = (a : PartOf) (rest : List GrantOf) → slice_get parts q ≡ Some a → slice_get rests q ≡ Some rest
    → HasTakenAll a a' (claims_in rest)

pub record HaveTaken (parts : List PartOf) (rests : List (List GrantOf)) (parts' : List PartOf) : Type 0 where
  pub count : length parts' ≡ length parts
  pub each : AreFrom (HasTakenAt parts rests) 0 parts'

-- ---- the books of the turns

-- the seats of processor q, none of which holds its turn
abbrev pub AreResting : ℕ → List Seat → Type 0
AreResting q seats = All (λ (a : Seat). (a.cpu ≡ q) × (a.holds ≡ false)) seats

-- all turns have so many processors
abbrev pub HaveCpus : ℕ → List (TurnOf SemOf) → Type 0
HaveCpus n turns = All (λ (t : TurnOf SemOf). t.cpus ≡ n) turns

-- the history is one that the seat's processor may find where it has seen what the seat has
abbrev pub IsTold : Seat → List SemEntry → Type 0
IsTold a es = About a (λ s. IsFound s a.cpu a.seen es)
