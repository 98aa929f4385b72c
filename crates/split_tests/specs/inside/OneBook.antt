-- The book of semaphore 1, for which tasks 1 and 2 of processor 0 may make three entries.
use Rattle.std.specs.Prelude.{◌≡◌, false, [], ◌∷◌, Some}
use Rattle.turn_cell.specs.SeatViews.{SeatView, TurnOf}
use Rattle.split_rules.specs.declared.SemEntry.{SemEntry}
use Rattle.split_inbox.specs.declared.subject.SemOf.{SemOf}
use Rattle.split_inbox.specs.declared.subject.SemRule.TheVariants as rules

abbrev pub one_book : SemOf
one_book = record { sem = record { 0 = 1 }; rule = rules.Fmlp; homes = 0 ∷ 0 ∷ 0 ∷ []; prios = 0 ∷ 1 ∷ 2 ∷ []; quotas = 3 ∷ [] }

-- the seat of processor 0 at the turn of that book
pub record IsAtTurn (t : TurnOf SemOf) (a : SeatView SemEntry SemOf) : Type 0 where
  pub cell : a.cell ≡ t.cell
  pub subject : t.cell.subject ≡ Some one_book
  pub cpu : a.cpu ≡ 0
  pub rests : a.holds ≡ false
