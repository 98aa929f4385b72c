-- Grants.
use Rattle.std.specs.Prelude.{◌≡◌, ℕ, ◌-◌, ◌≤◌, false, List, Some, slice_get}
use Rattle.rt_base.specs.declared.TaskNo.{TaskNo}
use Rattle.turn_cell.specs.SeatViews.{Cell, SeatView, IsSplitOff}
use Rattle.split_inbox.specs.Books.{IsLegalSem}
use Rattle.split_rules.specs.declared.SemAct.TheVariants as acts
use Rattle.split_rules.specs.declared.SemEntry.{SemEntry}
use Rattle.split_inbox.specs.declared.subject.SemOf.{SemOf}
use Rattle.split_inbox.specs.declared.rule.Claim.{Claim}

abbrev pub claim : ℕ → ℕ → ℕ → ℕ → ℕ → Claim
claim sem number task from seq = record { sem = sem; no = number; task = task; from = from; seq = seq }

-- a grant: its five numbers, and the seat that has seen what it says
pub record GrantOf : Type 0 where
  pub claim : Claim
  pub seen : SeatView SemEntry SemOf

abbrev pub claim_of : GrantOf → Claim
claim_of g = g.claim

-- the entry with this number is a release by the processor that makes the task the holder
abbrev pub IsGrantedIn : Claim → List SemEntry → Type 0
IsGrantedIn c es = (t : TaskNo) × (slice_get es c.no ≡ Some (record {
  cpu = record { 0 = c.from };
  task = t;
  act = acts.Release (Some (record { 0 = c.task }));
}))

-- the seat was split off, at the turn of the semaphore, and has seen a legal history with the release
pub record IsGrant (turns : List (Cell SemOf)) (g : GrantOf) : Type 0 where
  pub split_off : IsSplitOff g.seen
  pub rests : g.seen.holds ≡ false
  pub low : 1 ≤ g.claim.sem
  pub turn : slice_get turns (g.claim.sem - 1) ≡ Some g.seen.cell
  pub granted : IsGrantedIn g.claim g.seen.seen
  pub legal : (s : SemOf) → g.seen.cell.subject ≡ Some s → IsLegalSem s g.seen.seen
