-- The eligible tasks of a cluster after a move: those that the timers give, or that a quiet act touches, are looked at again.
use Rattle.std.specs.Prelude.{◌≡◌, ℕ, true, false, ◌∷◌, max, List, Option}
use Rattle.rt_rules.specs.declared.Key.{Key}
use Rattle.rt_task.specs.declared.Act.{Act}
use Rattle.rt_task.specs.RuleWords.{is_p_res}
use Rattle.rt_rules.specs.Numbers.{has}
use Rattle.rt_rules.specs.SemState.{Neither}
use Rattle.rt_model.specs.EffectiveKeys.{effective_key}
use Rattle.rt_model.specs.Group.{Group, clients, resv}
use Rattle.rt_model.specs.Outcomes.{past_act}
use Rattle.rt_model.specs.Past.{Clock, Acted, Past, now, sem_act}
use Rattle.rt_model.specs.Reservations.{is_refill, refilled}
use Rattle.rt_model.specs.Tops.{eligible}
use Rattle.rt_laws.specs.EveryPast.{EveryPast}
use Rattle.rt_changes.specs.ClusterMoves.{of_cluster}
use Rattle.rt_changes.specs.Clusters.{HoldsEligible}
use Rattle.ready_queue.specs.ReadySet.{set_refreshed}
use Rattle.rt_changes.specs.Served.{SameReservation, StaysInSlot}
use Rattle.rt_changes.specs.Touched.{touched_by}
use Rattle.group_jobs.specs.FactMoves.{with_act}
use Rattle.group_jobs.specs.Timers.{AreDue, TimersAreKept}

-- the set of a cluster with these tasks looked at again, at a past
abbrev pub looked_at : Group → ℕ → Past → List ℕ → List (Option Key) → List (Option Key)
looked_at g c past changed keys = set_refreshed (λ t. effective_key g t past) (λ t. eligible g t past) (of_cluster g c changed) keys

-- Without reservations, as the clock moves, a set of just the eligible tasks stays one where those that are due are looked at again.
abbrev pub SetAfterDue : Type 0
SetAfterDue = EveryPast (λ g past. is_p_res g.setup.plugin ≡ false
    → (c tick : ℕ) (ticks : List (Option ℕ)) (us : List ℕ) (keys : List (Option Key)) → TimersAreKept g past ticks
    → AreDue (max (now past) tick) ticks us → HoldsEligible g c past keys
    → HoldsEligible g c (Clock tick ∷ past) (looked_at g c (Clock tick ∷ past) us keys))

-- So it does after an act that does nothing at semaphores, where those that it touches are.
abbrev pub SetAfterQuiet : Type 0
SetAfterQuiet = EveryPast (λ g past. is_p_res g.setup.plugin ≡ false → (c q : ℕ) (act : Act) (keys : List (Option Key))
    → sem_act (Acted (past_act g q act past)) ≡ Neither → HoldsEligible g c past keys
    → HoldsEligible g c (with_act g q act past) (looked_at g c (with_act g q act past) (touched_by g q act past) keys))

-- As the clock moves each reservation stays of which no client is due and that is neither refilled nor moved in its slots.
abbrev pub ReservationsAfterDue : Type 0
ReservationsAfterDue = EveryPast (λ g past. (tick r : ℕ) (ticks : List (Option ℕ)) (us : List ℕ) → TimersAreKept g past ticks
    → AreDue (max (now past) tick) ticks us → ((t : ℕ) → has t (clients g r) ≡ true → has t us ≡ false)
    → is_refill g (resv g r).kind r (Clock tick) past (refilled g r past) ≡ false → StaysInSlot g tick r past
    → SameReservation g r past (Clock tick ∷ past))
