-- The positions of a new turn, one more at a time.
use Rattle.std.proofs.Common.{◌≡◌, ℕ, suc, ◌+◌, ◌-◌, List, [], ◌∷◌, ◌++◌, sym, ap, ◌∙◌, Option, Some}
use Rattle.atomic_table.specs.Seated.{TableId}
use Rattle.atomic_table.specs.Table.{Me}
use Rattle.turn_cell.specs.declared.rule.TurnView.{TurnView}
use Rattle.turn_cell.specs.Rule.{first_view}
use Rattle.turn_cell.specs.Plays.{maker, newcomer}
use Rattle.turn_cell.specs.SeatViews.{Cell, SeatView, fresh, fresh_seats, seat_view}

pub seats_more : {E S : Type 0} (cell : Cell S) (k m : ℕ) (xs ys : List (SeatView E S)) (p : SeatView E S) → xs ≡ fresh_seats cell k → m ≡ suc k → ys ≡ xs ++ p ∷ [] → p ≡ fresh cell k → ys ≡ fresh_seats cell m
seats_more {E} {S} cell k m xs ys p all more added is =
    added ∙ (λ i. all i ++ is i ∷ []) ∙ ap (λ (c : ℕ). fresh_seats {E = E} {S = S} cell c) (sym more)

-- the position of a seat that was just made
pub newcomer_seat : {V E S : Type 0} (t z : TableId) (me new : Me (Option V) (TurnView E S)) (n k : ℕ) (sub : S) → z ≡ t → me ≡ (record (first_view n sub) { next = k }, []) → new ≡ (newcomer me.0, [])
    → seat_view z new.0 ≡ fresh (record { table = t; subject = Some sub }) k
newcomer_seat {V} {E} {S} t z me new n k sub same is made =
    (λ i. seat_view (same i) ((made ∙ ap (λ (m : Me (Option V) (TurnView E S)). (newcomer m.0, [])) is) i).0)

pub maker_seat : {V E S : Type 0} (t z : TableId) (me : Me (Option V) (TurnView E S)) (n k : ℕ) (sub : S) → z ≡ t → me ≡ (record (first_view n sub) { next = k }, [])
    → seat_view z me.0 ≡ fresh (record { table = t; subject = Some sub }) (n - 1)
maker_seat t z me n k sub same is = λ i. seat_view (same i) (is i).0

pub maker_after : {V E S : Type 0} (me new : Me (Option V) (TurnView E S)) (n k m : ℕ) (sub : S) → me ≡ (record (first_view n sub) { next = k }, []) → new ≡ (maker me.0, me.1) → k + 1 ≡ m
    → new ≡ (record (first_view n sub) { next = m }, [])
maker_after {V} {E} {S} me new n k m sub is made more =
    made ∙ ap (λ (x : Me (Option V) (TurnView E S)). (maker x.0, x.1)) is ∙ ap (λ (c : ℕ). (record (first_view {E = E} n sub) { next = c }, [])) more

pub seats_last : {E S : Type 0} (cell cell' : Cell S) (j k m : ℕ) (xs ys : List (SeatView E S)) (p : SeatView E S) → xs ≡ fresh_seats cell j → j ≡ k → m ≡ suc k → ys ≡ xs ++ p ∷ [] → p ≡ fresh cell k → cell ≡ cell' → ys ≡ fresh_seats cell' m
seats_last {E} {S} cell cell' j k m xs ys p all at more added is same =
    seats_more cell k m xs ys p (all ∙ ap (λ (c : ℕ). fresh_seats {E = E} {S = S} cell c) at) more added is ∙ ap (λ (c : Cell S). fresh_seats {E = E} {S = S} c m) same
