-- Reservations under P-RES: what is left of their budgets, by counting since the last refill, or of their slots.
use Rattle.std.specs.Prelude.{ℕ, ◌+◌, ◌-◌, ◌*◌, ◌/◌, max, Bool, true, false, not, ◌&&◌, ◌||◌, ◌==◌, nat_lt, nat_le, [], ◌∷◌, Option, None}
use Rattle.std.specs.Prelude.{Some, if◌then◌else◌, filter, unwrap_or, is_some, count_by}
use Rattle.std.specs.List.{list_any}
use Rattle.rt_task.specs.declared.ResvKind.{ResvKind}
use Rattle.rt_task.specs.declared.ResvKind.TheVariants.{Polling, Sporadic, Table}
use Rattle.rt_task.specs.declared.Slot.{Slot}
use Rattle.rt_rules.specs.Numbers.{foremost}
use Rattle.rt_rules.specs.Slots.{slot_at, left_in, began_in}
use Rattle.rt_model.specs.Group.{Group, resv, clients}
use Rattle.rt_model.specs.Past.{Event, Clock, Acted, Past, now, did, is_work}
use Rattle.rt_model.specs.Releases.{ready, release}

module _ (g : Group) where
  unfoldable pub any_ready : ℕ → Past → Bool
  any_ready r past = list_any (λ t. ready g t past) (clients g r)

  -- the ready client of the earliest release, ties to the lower number; a job that is open early has its release ahead, so that
  -- one that is released goes before it
  unfoldable pub earlier : Past → ℕ → ℕ → Bool
  earlier past t u =
      let a = unwrap_or (release g t past) 0 in
      let b = unwrap_or (release g u past) 0 in
      nat_lt a b || a == b && nat_lt t u

  unfoldable pub front : ℕ → Past → Option ℕ
  front r past = foremost (earlier past) (filter (λ t. ready g t past) (clients g r))

  -- when a reservation is refilled, which a table never is. A polling one: where a move of the clock begins a new period
  unfoldable pub begins_period : ℕ → Event → Past → Bool
  begins_period period (Clock tick) past = nat_lt (now past / period) (max (now past) tick / period)
  begins_period period (Acted d) past = false

  -- a sporadic reservation's: a client is ready, and the period since the last refill is over
  unfoldable pub is_due : ℕ → ℕ → Option ℕ → Bool
  is_due clock period None = true
  is_due clock period (Some last) = nat_le (last + period) clock

  unfoldable pub is_refill : ResvKind → ℕ → Event → Past → Option ℕ → Bool
  is_refill Polling r e past last = begins_period (resv g r).period e past
  is_refill Sporadic r e past last = any_ready r (e ∷ past) && is_due (now (e ∷ past)) (resv g r).period last
  is_refill Table r e past last = false

  unfoldable pub first_refill : ResvKind → ℕ → Option ℕ
  first_refill Polling r = Some 0
  first_refill Sporadic r = if any_ready r [] then Some 0 else None
  first_refill Table r = None

  -- the clock of the last refill
  unfoldable pub refilled : ℕ → Past → Option ℕ
  refilled r [] = first_refill (resv g r).kind r
  refilled r (e ∷ past) = if is_refill (resv g r).kind r e past (refilled r past) then Some (now (e ∷ past)) else refilled r past

  unfoldable pub works_for : ℕ → Event → ℕ
  works_for r e = count_by (λ t. is_work (did t e)) (clients g r)

  -- how many units the clients worked since the last refill
  unfoldable pub spent : ℕ → Past → ℕ
  spent r [] = 0
  spent r (e ∷ past) = if is_refill (resv g r).kind r e past (refilled r past) then 0 else spent r past + works_for r e

  -- a polling reservation loses what is left where no client is ready
  unfoldable pub is_loss : ResvKind → ℕ → Past → Bool
  is_loss Polling r past = not (any_ready r past)
  is_loss _ r past = false

  unfoldable pub is_lost : ℕ → Past → Bool
  is_lost r [] = is_loss (resv g r).kind r []
  is_lost r (e ∷ past) =
      is_loss (resv g r).kind r (e ∷ past) || not (is_refill (resv g r).kind r e past (refilled r past)) && is_lost r past

  -- of a table reservation: the slot that holds the clock, modulo the period
  unfoldable pub slot_now : ℕ → Past → Option Slot
  slot_now r past = slot_at (resv g r).period (resv g r).slots (now past)

  unfoldable pub left_by : ResvKind → ℕ → Past → ℕ
  left_by Table r past = left_in (resv g r).period (now past) (slot_now r past)
  left_by _ r past = if is_some (refilled r past) && not (is_lost r past) then (resv g r).budget - spent r past else 0

  unfoldable pub left : ℕ → Past → ℕ
  left r past = left_by (resv g r).kind r past

  -- what is shown of the last refill
  unfoldable pub last_by : ResvKind → ℕ → Option ℕ → Option ℕ
  last_by Polling period (Some clock) = Some (clock / period * period)
  last_by _ period o = o

  unfoldable pub last_of : ResvKind → ℕ → Past → Option ℕ
  last_of Table r past = began_in (resv g r).period (now past) (slot_now r past)
  last_of kind r past = last_by kind (resv g r).period (refilled r past)

  unfoldable pub last : ℕ → Past → Option ℕ
  last r past = last_of (resv g r).kind r past
