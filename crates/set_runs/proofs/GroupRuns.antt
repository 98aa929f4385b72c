-- The seats of a group, once each has been driven, and the history that this leaves.
use Rattle.std.proofs.Common.{◌≡◌, ℕ, suc, ◌<◌, Bool, true, false, List, [], ◌∷◌, length, map, get_or, eqb-true, refl, sym, ap, ◌∙◌, subst, arith, Some}
use Rattle.std.specs.Prelude.{◌==◌, ◌||◌, All, Contains}
use Rattle.std.proofs.lemmas.List.{get_or-map, length-map}
use Rattle.rt_task.specs.declared.Parts.{Parts}
use Rattle.rt_rules.specs.Numbers.{has}
use Rattle.rt_model.specs.Group.{group_processors}
use Rattle.rt_plays.specs.Groups.{GroupHistory, group_of}
use Rattle.rt_plays.specs.Homes.{IsProcessorOf}
use Rattle.rt_plays.specs.Plays.{group_with, IsBegunPlay}
use Rattle.turn_cell.specs.SeatViews.{Cell}
use Rattle.turn_cell.specs.Words.{AgreeOn, StartsWith}
use Rattle.turn_cell.proofs.Tools.{one_some}
use Rattle.cpu_site.specs.declared.story.GroupOf.{GroupOf}
use Rattle.cpu_site.specs.Playing.{IsOver}
use Rattle.cpu_site.specs.Seats.{about, cpu_of, group_at, unused_seat, unused_seats, About, CpuSeatView}
use Rattle.cpu_site.proofs.Drives.{over-later, play-whole}
use Rattle.set_runs.specs.Runs.{AreDriven, IsRunOf}

-- the position of a number in a list
has-at : (xs : List ℕ) (q : ℕ) → has q xs ≡ true → (k : ℕ) × (k < length xs) × (get_or xs k 0 ≡ q)
has-at [] q h = cc
has-at (x ∷ xs) q h = by_case (q == x) refl h (has-at xs q)
  where
    by_case : (b : Bool) → (q == x) ≡ b → b || has q xs ≡ true → (has q xs ≡ true → (k : ℕ) × (k < length xs) × (get_or xs k 0 ≡ q)) → (k : ℕ) × (k < length (x ∷ xs)) × (get_or (x ∷ xs) k 0 ≡ q)
    by_case true is m rest = (0, omega arith, sym (eqb-true q x is))
    by_case false is m rest = let r = rest m in let low = r.1 in (suc r.0, omega (arith, low), r.2)

-- seats that were not used are all of one site, and gave no turn as over
pub unused-seats : (cell : Cell GroupOf) (qs : List ℕ) (seats : List CpuSeatView) → seats ≡ unused_seats cell qs → All (λ (p : CpuSeatView). (p.cell ≡ cell) × (p.turns ≡ 0)) seats
unused-seats cell qs seats is k d lt =
    let low : k < length qs = omega (arith, lt, ap length is, length-map qs (unused_seat cell)) in
    let seat : get_or seats k d ≡ unused_seat cell (get_or qs k 0) = ap (λ (ps : List CpuSeatView). get_or ps k d) is ∙ get_or-map (unused_seat cell) qs k 0 d low in
    (ap (λ (p : CpuSeatView). p.cell) seat, ap (λ (p : CpuSeatView). p.turns) seat)

pub unused-cells : (cell : Cell GroupOf) (qs : List ℕ) (seats : List CpuSeatView) → seats ≡ unused_seats cell qs → All (λ (p : CpuSeatView). p.cell ≡ cell) seats
unused-cells cell qs seats is k d lt = (unused-seats cell qs seats is k d lt).0

-- there are as many as processors
pub unused-count : (cell : Cell GroupOf) (qs : List ℕ) (seats : List CpuSeatView) → seats ≡ unused_seats cell qs → length seats ≡ length qs
unused-count cell qs seats is = ap length is ∙ length-map qs (unused_seat cell)

pub driven-cells : (cell : Cell GroupOf) (before after : List CpuSeatView) → AreDriven cell before after → All (λ (p : CpuSeatView). p.cell ≡ cell) after
driven-cells cell before after are k d lt = (are.each k d d (let all = are.all in omega (arith, lt, all))).cell_is

-- each processor of a group has its seat
module _ (cell : Cell GroupOf) (p : Parts) (n : ℕ) (before after : List CpuSeatView) (unused : before ≡ unused_seats cell (group_processors (group_with p n))) (are : AreDriven cell before after) where
  record IsSeatOf (q : ℕ) : Type 0 where
    position : ℕ
    before_there : position < length before
    after_there : position < length after
    own : (d : CpuSeatView) → (get_or before position d).cpu ≡ q
    kept : (d : CpuSeatView) → (get_or after position d).cpu ≡ q

  seat-of : (q : ℕ) → IsProcessorOf (group_with p n) q → IsSeatOf q
  seat-of q there =
      let qs : List ℕ = group_processors (group_with p n) in
      let at = has-at qs q there in
      let k : ℕ = at.0 in
      let low = at.1 in
      let all = are.all in
      let low_before : k < length before = omega (arith, low, ap length unused, length-map qs (unused_seat cell)) in
      let low_after : k < length after = omega (arith, low_before, all) in
      let own : (d : CpuSeatView) → (get_or before k d).cpu ≡ q = λ d. ap (λ (ps : List CpuSeatView). (get_or ps k d).cpu) unused ∙ ap (λ (x : CpuSeatView). x.cpu) (get_or-map (unused_seat cell) qs k 0 d low) ∙ at.2 in
      record {
        position = k;
        before_there = low_before;
        after_there = low_after;
        own = own;
        kept = λ d. (are.each k d d low_before).cpu_is ∙ own d;
      }

  pub all-seated : cell.subject ≡ Some (record { setup = p; number = n }) → About cell (λ s. (q : ℕ) → IsProcessorOf (group_at s) q → Contains (map (λ (x : CpuSeatView). x.cpu) after) q)
  all-seated subject s is q there =
      let same : (let r : GroupOf = record { setup = p; number = n } in r) ≡ s = one_some cell.subject _ s subject is in
      let seat = seat-of q (subst (λ (x : GroupOf). IsProcessorOf (group_at x) q) (sym same) there) in
      let low = seat.after_there in
      let d : CpuSeatView = unused_seat cell q in (
        seat.position,
        (let long = length-map after (λ (x : CpuSeatView). x.cpu) in omega (arith, low, long)),
        get_or-map (λ (x : CpuSeatView). x.cpu) after seat.position d q low ∙ seat.kept d,
      )

  module _ (h : GroupHistory) (subject : cell.subject ≡ Some (record { setup = p; number = n })) (told : cell.subject ≡ Some (about h)) (begun : IsBegunPlay (group_of h) h.entries)
      (later : All (λ (x : CpuSeatView). StartsWith h.entries x.seen) after) (whole : All (λ (x : CpuSeatView). AgreeOn cpu_of x.cpu h.entries x.seen) after) where
    about_is : about h ≡ record { setup = p; number = n }
    about_is = one_some cell.subject _ _ told subject

    -- where no step of a processor is left in what its seat has seen, none is in the history
    over-whole : (q : ℕ) → IsProcessorOf (group_of h) q → IsOver (group_of h) q h.entries
    over-whole q there =
        let seat = seat-of q (subst (λ (x : GroupOf). IsProcessorOf (group_at x) q) about_is there) in
        let d : CpuSeatView = unused_seat cell q in
        let last : CpuSeatView = get_or after seat.position d in
        let over : IsOver (group_of h) q last.seen = subst (λ k. IsOver (group_of h) k last.seen) (seat.own d) ((are.each seat.position d d seat.before_there).over (about h) told) in
        let agree : AgreeOn cpu_of q h.entries last.seen = subst (λ k. AgreeOn cpu_of k h.entries last.seen) (seat.kept d) (whole seat.position d seat.after_there) in
        over-later (group_of h) q last.seen h.entries (later seat.position d seat.after_there) agree over

    pub group-run : IsRunOf p n h
    group-run = record {
      setup_is = ap (λ (s : GroupOf). s.setup) about_is;
      group_is = ap (λ (s : GroupOf). s.number) about_is;
      play = play-whole (group_of h) h.entries begun over-whole;
    }
