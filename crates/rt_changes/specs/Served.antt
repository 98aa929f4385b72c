-- Under P-RES: a reservation serves its front client while it has budget, and that client alone is eligible.
use Rattle.std.specs.Prelude.{◌≡◌, ℕ, ◌≤◌, true, false, nat_lt, List, [], ◌∷◌, length, Option, None, if◌then◌else◌}
use Rattle.rt_task.specs.declared.Act.{Act}
use Rattle.rt_task.specs.RuleWords.{is_p_res}
use Rattle.rt_task.specs.Validity.{IsValid}
use Rattle.rt_task.specs.declared.ResvKind.TheVariants.{Table}
use Rattle.rt_rules.specs.Numbers.{has, is, same}
use Rattle.rt_rules.specs.Placing.{tasks_in}
use Rattle.rt_model.specs.BaseKeys.{base_key}
use Rattle.rt_model.specs.EffectiveKeys.{effective_key}
use Rattle.rt_model.specs.Group.{Group, clients, resv, served_by}
use Rattle.rt_model.specs.Outcomes.{past_act}
use Rattle.rt_model.specs.Past.{Clock, Acted, Past, now}
use Rattle.rt_model.specs.Reservations.{front, is_refill, left, refilled}
use Rattle.rt_model.specs.Tops.{eligible}
use Rattle.rt_laws.specs.EveryPast.{EveryPast}
use Rattle.rt_changes.specs.Touched.{touched_by, comes_due}

-- the client that a reservation serves: the front one, while budget is left
abbrev pub serves : Group → ℕ → Past → Option ℕ
serves g r past = if nat_lt 0 (left g r past) then front g r past else None

-- A task is eligible exactly where its reservation serves it.
abbrev pub EligibleIsServed : Type 0
EligibleIsServed = EveryPast (λ g past. is_p_res g.setup.plugin ≡ true → (t : ℕ) → eligible g t past ≡ is t (serves g (served_by g t) past))

-- the clients of a reservation that are served before or after and not both: two at most
abbrev pub changed_clients : Group → ℕ → Past → Past → List ℕ
changed_clients g r past past' =
    if same (serves g r past) (serves g r past') then [] else tasks_in (serves g r past ∷ serves g r past' ∷ [])

-- Between two pasts the eligibility of at most two clients of a reservation changes.
abbrev pub AtMostTwoChange : Type 0
AtMostTwoChange =
    (g : Group) → IsValid g.setup → is_p_res g.setup.plugin ≡ true → (r : ℕ) (past past' : Past)
    → (length (changed_clients g r past past') ≤ 2) × ((t : ℕ) → served_by g t ≡ r
    → has t (changed_clients g r past past') ≡ false → eligible g t past' ≡ eligible g t past)

-- Under P-RES no key depends on the past.
abbrev pub KeysAreFixed : Type 0
KeysAreFixed = EveryPast (λ g past. is_p_res g.setup.plugin ≡ true → (t : ℕ) → effective_key g t past ≡ base_key g t [])

-- a reservation is the same in two pasts
pub record SameReservation (g : Group) (r : ℕ) (past past' : Past) : Type 0 where
  pub front_same : front g r past' ≡ front g r past
  pub left_same : left g r past' ≡ left g r past
  pub refilled_same : refilled g r past' ≡ refilled g r past

-- An act leaves each reservation of which it touches no client.
abbrev pub ReservationsAfterAct : Type 0
ReservationsAfterAct =
    EveryPast (λ g past. (q : ℕ) (act : Act) (r : ℕ) → ((t : ℕ) → has t (clients g r) ≡ true
    → has t (touched_by g q act past) ≡ false) → SameReservation g r past (Acted (past_act g q act past) ∷ past))

-- a move of the clock that leaves it at its tick, where the reservation is a table: what is left of a slot falls with each tick
abbrev pub StaysInSlot : Group → ℕ → ℕ → Past → Type 0
StaysInSlot g tick r past = (resv g r).kind ≡ Table → now (Clock tick ∷ past) ≡ now past

-- A move of the clock leaves each reservation that it neither refills nor moves in its slots, and of which no client comes due.
abbrev pub ReservationsAfterClock : Type 0
ReservationsAfterClock =
    EveryPast (λ g past. (tick r : ℕ) → ((t : ℕ) → has t (clients g r) ≡ true → comes_due g tick t past ≡ false)
    → is_refill g (resv g r).kind r (Clock tick) past (refilled g r past) ≡ false → StaysInSlot g tick r past
    → SameReservation g r past (Clock tick ∷ past))
