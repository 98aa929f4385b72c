-- What a partition does at the turns of the semaphores.
use Rattle.std.specs.Prelude.{◌≡◌, ◌⊎◌, ℕ, ◌<◌, ◌≤◌, true, List, [], ◌∷◌, ◌++◌, length, Option, None, Some, option_map, slice_get}
use Rattle.rt_base.specs.declared.TaskNo.{TaskNo}
use Rattle.rt_task.specs.declared.Act.{Act}
use Rattle.rt_task.specs.declared.Parts.{Parts}
use Rattle.rt_task.specs.declared.Step.{Step}
use Rattle.turn_cell.specs.Words.{AgreeOn, StartsWith}
use Rattle.split_rules.specs.Matching.{Books, claims, granted_by}
use Rattle.split_rules.specs.PartPast.{Claim, PartPast, deeds}
use Rattle.split_rules.specs.declared.SemAct.TheVariants as acts
use Rattle.split_rules.specs.declared.SemEntry.{SemEntry}
use Rattle.split_rules.specs.declared.SplitAct.TheVariants.{Plain}
use Rattle.split_rules.specs.declared.SplitEntry.{SplitEntry}
use Rattle.split_inbox.specs.Books as book
use Rattle.split_inbox.specs.Books.{cpu_of}
use Rattle.split_inbox.specs.declared.rule.Claim as inbox
use Rattle.split_inbox.specs.declared.subject.SemOf.{SemOf}
use Rattle.split_laws.specs.Parts.{Among, HaveGrown, IsActIn}
use Rattle.split_laws.specs.Posts.{TakenGrant, claims_of, cpu_at}
use Rattle.split_counts.specs.Room.{ComesNext, is_unlock}
use Rattle.part_player.specs.Players.{own_script, take_entry}
use Rattle.part_seat.specs.Partitions.{PartOf, Seat, books_in, cells_of, past_at}
use Rattle.part_seat.specs.declared.passed.Passed.{Passed}
use Rattle.part_seat.specs.declared.passed.PlayedStep.{PlayedStep}

-- what holds of what the history at a seat is about
abbrev pub About : Seat → (SemOf → Type 0) → Type 0
About a holds = (s : SemOf) → a.cell.subject ≡ Some s → holds s

-- a history of the book that processor q may find where it has seen this one
pub record IsFound (about : SemOf) (q : ℕ) (seen es : List SemEntry) : Type 0 where
  pub legal : book.IsLegalSem about es
  pub later : StartsWith es seen
  pub mine : AgreeOn cpu_of q es seen

-- the seat took the turn, found this history, and gave it back with the entry
pub record HasGiven (about : SemOf) (q : ℕ) (e : SemEntry) (a a' : Seat) : Type 0 where
  pub found : List SemEntry
  pub is_found : IsFound about q a.seen found
  pub seen : a'.seen ≡ found ++ e ∷ []
  pub legal : book.IsLegalSem about a'.seen
  pub same : a' ≡ record a { seen = a'.seen; raises = a'.raises }

-- ---- grants

-- a grant as the rules speak of it, and with the processor that posted it
abbrev pub plain_claim : inbox.Claim → Claim
plain_claim c = record { sem = c.sem; no = c.no; task = c.task }

abbrev pub taken_claim : inbox.Claim → TakenGrant
taken_claim c = record { from = c.from; claim = plain_claim c }

-- what a release passed on
abbrev pub claim_passed : Passed → Claim
claim_passed c = record { sem = c.sem.0; no = c.no; task = c.task.0 }

-- it names a semaphore and a task of the set, and entry `no` of the semaphore's history, by the processor, passed the semaphore on to
-- the task
pub record IsPassedAt (p : Parts) (q : ℕ) (seats : List Seat) (c : Passed) : Type 0 where
  pub sem_low : 1 ≤ c.sem.0
  pub sem_high : c.sem.0 ≤ length p.sems
  pub task_low : 1 ≤ c.task.0
  pub task_high : c.task.0 ≤ length p.tasks
  pub task : TaskNo
  pub granted : slice_get (books_in seats c.sem.0) c.no
      ≡ Some (record { cpu = record { 0 = q }; task = task; act = acts.Release (Some c.task) })

-- ---- steps of the script

-- the processor added an entry to the history of a semaphore, once it had seen what the others had added, and passed this on by it
pub record HasActed (q : ℕ) (books books' : Books) (o : Option Passed) : Type 0 where
  pub sem : ℕ
  pub entry : SemEntry
  pub found : Books
  pub grown : HaveGrown q books found
  pub act : IsActIn q sem entry found books'
  pub passes : option_map claim_passed o ≡ option_map (λ u. record { sem = sem; no = length (found sem); task = u }) (granted_by entry.act)

-- an Unlock comes next
pub record ComesUnlock (a : PartOf) : Type 0 where
  pub step : Step
  pub next : ComesNext (own_script a.setup a.cpu) a.cpu a.entries step
  pub unlocks : is_unlock step.act ≡ true

-- nothing but the history and what the seats have seen changed
pub record IsSamePart (a a' : PartOf) : Type 0 where
  pub setup : a'.setup ≡ a.setup
  pub cpu : a'.cpu ≡ a.cpu
  pub cells : cells_of a'.seats ≡ cells_of a.seats

-- the partition played the next step of its script
pub record HasPlayed (a a' : PartOf) (r : PlayedStep) : Type 0 where
  pub same : IsSamePart a a'
  pub entries : a'.entries ≡ a.entries ++ r.entry ∷ []
  pub plain : (act : Act) × (r.entry.act ≡ Plain act)
  pub acts : ((books_in a'.seats ≡ books_in a.seats) × (r.passed ≡ None)) ⊎ HasActed a.cpu (books_in a.seats) (books_in a'.seats) r.passed
  pub passed : (c : Passed) → r.passed ≡ Some c → IsPassedAt a.setup a.cpu a'.seats c × ComesUnlock a

-- ---- grants that are taken

-- the grant was not taken before: what was taken is known with who posted it, and of its poster and its semaphore its number is the
-- greatest
pub record IsNext (books : Books) (past : PartPast) (k : TakenGrant) : Type 0 where
  pub taken : List TakenGrant
  pub took : claims (deeds past) ≡ claims_of taken
  pub from : (x : TakenGrant) → Among x taken → cpu_at (books x.claim.sem) x.claim.no ≡ Some x.from
  pub above : (x : TakenGrant) → Among x taken → x.from ≡ k.from → x.claim.sem ≡ k.claim.sem → x.claim.no < k.claim.no

-- the partition took the grant
pub record HasTaken (a a' : PartOf) (c : inbox.Claim) (e : SplitEntry) : Type 0 where
  pub same : IsSamePart a a'
  pub entry : e ≡ take_entry (past_at a) (record { 0 = c.sem }) c.no (record { 0 = c.task })
  pub entries : a'.entries ≡ a.entries ++ e ∷ []
  pub grown : HaveGrown a.cpu (books_in a.seats) (books_in a'.seats)
  pub from : cpu_at (books_in a'.seats c.sem) c.no ≡ Some c.from
