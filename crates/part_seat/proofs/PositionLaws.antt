-- The seat and the turn of a semaphore that a partition knows, and how long its history may be.
use Rattle.std.proofs.Common.{◌≡◌, ℕ, ◌+◌, ◌-◌, ◌^◌, ◌<◌, ◌≤◌, true, List, length, map, sym, ap, ◌∙◌, subst, arith}
use Rattle.std.specs.Prelude.{filter, slice_index_or}
use Rattle.std.proofs.lemmas.List.{get_or-map, length-map}
use Rattle.rt_task.specs.Validity.{IsValid}
use Rattle.rt_task.specs.declared.Parts.{Parts}
use Rattle.rt_task.specs.declared.Step.{Step}
use Rattle.rt_rules.specs.Numbers.{has, numbers_from}
use Rattle.rt_rules.proofs.NumberLaws.{has-numbers_from, numbers_from-below}
use Rattle.rt_model.specs.Group.{Group, sems}
use Rattle.rt_plays.specs.Drives.{steps_given}
use Rattle.rt_plays.specs.Room.{processor_count}
use Rattle.rt_plays.specs.Scripts.{script}
use Rattle.turn_cell.specs.SeatViews.{TurnOf}
use Rattle.split_set.specs.SplitSets.{is_split_set}
use Rattle.split_set.specs.declared.TheConstants.{MOST_SPLIT_STEPS}
use Rattle.split_inbox.specs.Sums.{sum_of}
use Rattle.split_inbox.specs.declared.subject.SemOf.{SemOf}
use Rattle.split_laws.specs.Counts.{names_sem}
use Rattle.split_rules.specs.PartPast.{PartPast}
use Rattle.split_rules.specs.Partitions.{part_group}
use Rattle.split_turns.specs.SplitTurns.{quota, quotas}
use Rattle.split_turns.proofs.ListLaws.{kept-within, lengths-within, map-same, script-count}
use Rattle.split_laws.proofs.StepLaws.{some-same}
use Rattle.part_player.specs.Players.{IsOfSplit}
use Rattle.part_player.proofs.OwnParts.{few-steps}
use Rattle.part_seat.specs.AtTurns.{About}
use Rattle.part_seat.specs.Partitions.{IsMeeting, IsSeatAt, Seat, cells_of}

sem-range : (g : Group) (s : ℕ) → has s (sems g) ≡ true → (1 ≤ s) × (s ≤ length g.setup.sems)
unfolding sems
sem-range g s h =
    let low : 1 ≤ s = has-numbers_from s 1 (length g.setup.sems) h in
    let high : s < 1 + length g.setup.sems = numbers_from-below s 1 (length g.setup.sems) h in
    (low, omega (arith, high))

pub cells-count : (turns : List (TurnOf SemOf)) (seats : List Seat) → map (λ t. t.cell) turns ≡ cells_of seats → length turns ≡ length seats
cells-count turns seats same = sym (length-map turns (λ (t : TurnOf SemOf). t.cell)) ∙ ap length same ∙ length-map seats (λ (a : Seat). a.cell)

pub cells-at : (turns : List (TurnOf SemOf)) (seats : List Seat) (i : ℕ) (t : TurnOf SemOf) (d : Seat) → map (λ x. x.cell) turns ≡ cells_of seats → i < length seats
    → (slice_index_or seats i d).cell ≡ (slice_index_or turns i t).cell
cells-at turns seats i t d same low =
    let count = cells-count turns seats same in
    sym (get_or-map (λ (a : Seat). a.cell) seats i d t.cell low) ∙ ap (λ l. slice_index_or l i t.cell) (sym same) ∙ get_or-map (λ (x : TurnOf SemOf). x.cell) turns i t t.cell (omega (arith, count, low))

-- where the seat of a semaphore stands
pub record IsSeatToken (p : Parts) (q s : ℕ) (seats : List Seat) (d : Seat) : Type 0 where
  pub low : 1 ≤ s
  pub high : s - 1 < length seats
  pub seat : IsSeatAt p q s (slice_index_or seats (s - 1) d)

pub within-seats : (p : Parts) (q s : ℕ) (seats : List Seat) (past : PartPast) → IsMeeting p q seats past → has s (sems (part_group p q)) ≡ true → (1 ≤ s) × (s - 1 < length seats)
within-seats p q s seats past meeting known = let r = sem-range (part_group p q) s known in let n = meeting.count in (r.0, omega (arith, r.0, r.1, n))

pub position-of : (p : Parts) (q s : ℕ) (seats : List Seat) (past : PartPast) (d : Seat) → IsMeeting p q seats past → has s (sems (part_group p q)) ≡ true → IsSeatToken p q s seats d
position-of p q s seats past d meeting known =
    let r = within-seats p q s seats past meeting known in
    let back : s - 1 + 1 ≡ s = omega (arith, r.0) in
    record { low = r.0; high = r.1; seat = subst (λ m. IsSeatAt p q m (slice_index_or seats (s - 1) d)) back (meeting.each (s - 1) d r.1) }

-- the entries of a semaphore's history are few
quotas-few : (p : Parts) (s : ℕ) → IsValid p → is_split_set p ≡ true → sum_of (quotas p s) ≤ MOST_SPLIT_STEPS
quotas-few p s valid split =
    let uses : List Step = filter (λ (x : Step). names_sem s x.act) (steps_given p.drive) in
    let same = ap sum_of (map-same (λ q. length (script uses q)) (quota p s) (λ q. script-count (names_sem s) q (steps_given p.drive)) (numbers_from 0 (processor_count p))) in
    let within = lengths-within uses 0 (processor_count p) in
    let kept = kept-within (names_sem s) (steps_given p.drive) in
    let few = few-steps p valid split in
    omega (arith, same, within, kept, few)

pub few-there : (p : Parts) (q s : ℕ) (seats : List Seat) (d : Seat) → IsSeatToken p q s seats d → IsOfSplit p q → About (slice_index_or seats (s - 1) d) (λ x. sum_of x.quotas < 2 ^ 32)
few-there p q s seats d at of x here =
    let few = quotas-few p s of.valid of.split in
    let same = ap (λ (y : SemOf). sum_of y.quotas) (some-same (sym at.seat.about ∙ here)) in
    omega (arith, few, same)
