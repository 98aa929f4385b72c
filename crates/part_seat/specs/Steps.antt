-- What a step of a partition's processor makes of its seat.
use Rattle.std.specs.Prelude.{◌≡◌, ℕ, List, [], ◌∷◌, ◌++◌, map, Some, slice_get}
use Rattle.rt_task.specs.declared.Act.{Act}
use Rattle.turn_cell.specs.SeatViews.{TurnOf}
use Rattle.split_laws.specs.Posts.{cpu_at}
use Rattle.split_rules.specs.Matching.{claims}
use Rattle.split_rules.specs.PartHistories.{steps_of}
use Rattle.split_rules.specs.PartPast.{deeds}
use Rattle.split_rules.specs.declared.SplitAct.{SplitAct}
use Rattle.split_rules.specs.declared.SplitAct.TheVariants.{Plain, Take}
use Rattle.split_inbox.specs.Inboxes.{InboxId, PosterOf, TakerOf, count_on}
use Rattle.split_inbox.specs.declared.rule.Claim as inbox
use Rattle.split_inbox.specs.declared.subject.SemOf.{SemOf}
use Rattle.part_player.specs.Players.{own_script}
use Rattle.part_seat.specs.Partitions.{PartOf, books_in, cells_of, past_at}
use Rattle.part_seat.specs.AtTurns.{IsSamePart}
use Rattle.part_seat.specs.PartSeats.{PartSeatView}
use Rattle.part_seat.specs.declared.passed.Played2.{Played2}
use Rattle.part_seat.specs.declared.passed.Played2.TheVariants.{Did, Ended}

-- what a step of the script makes of a partition
abbrev pub IsPlainBy : Played2 → PartOf → PartOf → Type 0
IsPlainBy (Did e) a a' = (a'.entries ≡ a.entries ++ e ∷ []) × ((act : Act) × (e.act ≡ Plain act))
IsPlainBy Ended a a' = (a' ≡ a) × (steps_of a.cpu a.entries ≡ own_script a.setup a.cpu)

-- it took no grant, and the entries that were seen stand where they stood
pub record HasStepped (r : Played2) (a a' : PartOf) : Type 0 where
  pub same : IsSamePart a a'
  pub step : IsPlainBy r a a'
  pub claims_are : claims (deeds (past_at a')) ≡ claims (deeds (past_at a))
  pub kept : (s n q : ℕ) → cpu_at (books_in a.seats s) n ≡ Some q → cpu_at (books_in a'.seats s) n ≡ Some q

-- the seat is one of these turns and of these inboxes
pub record IsSeatOf (turns : List (TurnOf SemOf)) (inboxes : List InboxId) (a : PartSeatView) : Type 0 where
  pub turns_are : map (λ t. t.cell) turns ≡ cells_of a.part.seats
  pub taker_is : slice_get inboxes a.part.cpu ≡ Some a.taker.inbox
  pub posters_are : inboxes ≡ map (λ (b : PosterOf). b.inbox) a.posters

-- a step of the script takes nothing from the inbox, and a Take is of the grant that was taken from it
abbrev pub IsEntryBy : SplitAct → TakerOf → TakerOf → Type 0
IsEntryBy (Plain act) t t' = t'.taken ≡ t.taken
IsEntryBy (Take s n u) t t' = (c : inbox.Claim) × (t'.taken ≡ t.taken ++ c ∷ []) × (c.sem ≡ s.0) × (c.no ≡ n) × (c.task ≡ u.0)

-- it added this entry; or nothing, where the script is played and nothing was taken from the inbox
abbrev pub IsStepBy : Played2 → PartSeatView → PartSeatView → Type 0
IsStepBy (Did e) a a' = (a'.part.entries ≡ a.part.entries ++ e ∷ []) × IsEntryBy e.act a.taker a'.taker
IsStepBy Ended a a' =
    (a'.part.entries ≡ a.part.entries)
    × (a'.taker.taken ≡ a.taker.taken)
    × (steps_of a.part.cpu a.part.entries ≡ own_script a.part.setup a.part.cpu)

pub record IsStep (r : Played2) (a a' : PartSeatView) : Type 0 where
  pub step : IsStepBy r a a'
  pub same : IsSamePart a.part a'.part
  pub inboxes : map (λ (b : PosterOf). b.inbox) a'.posters ≡ map (λ (b : PosterOf). b.inbox) a.posters
  pub inbox : a'.taker.inbox ≡ a.taker.inbox
  -- the inbox was asked once
  pub takes : a'.taker.takes ≡ count_on a.taker.takes
