-- The ready tasks of a cluster after a move of the clock or a quiet act.
use Rattle.std.proofs.Common.{◌≡◌, ℕ, Bool, true, false, ◌&&◌, ◌∷◌, sym, ◌∙◌}
use Rattle.std.specs.Prelude.{◌==◌}
use Rattle.rt_rules.specs.Numbers.{has}
use Rattle.rt_rules.proofs.BoolLaws.{both}
use Rattle.rt_rules.proofs.MemberLaws.{has-filter}
use Rattle.rt_model.specs.Group.{Group, clients, served_by, tasks}
use Rattle.rt_model.specs.Past.{Clock}
use Rattle.rt_laws.proofs.GroupLaws.{tasks_of-home}
use Rattle.rt_changes.specs.Touched.{comes_due, touched_by}
use Rattle.rt_changes.proofs.rankings.MovedClusters.{set_after_move}
use Rattle.rt_changes.proofs.rankings.SameReservations.{reservations_after_clock}
use Rattle.rt_changes.proofs.rankings.QuietMoves.{standing_after_act, standing_after_clock}
use Rattle.group_jobs.specs.DueTasks.{SetAfterDue, SetAfterQuiet, ReservationsAfterDue}
use Rattle.group_jobs.specs.FactMoves.{with_act}
use Rattle.group_jobs.specs.Timers.{AreMoved}
use Rattle.group_jobs.proofs.TimerMoves.{timers_after_clock}

rest-false : (a b c : Bool) → c ≡ a && b → a ≡ true → c ≡ false → b ≡ false
rest-false true b c h k m = sym h ∙ m
rest-false false b c h k m = cc

pub set_after_due : SetAfterDue
set_after_due g past valid made free c tick ticks us keys armed due holds =
    let moved : AreMoved g tick past ticks us = timers_after_clock g past valid made tick ticks us armed due in
    set_after_move g c us past (Clock tick ∷ past) keys
    (λ t h k. standing_after_clock g past valid made free tick t
    (rest-false (has t (tasks g)) (comes_due g tick t past) (has t us) (moved.due t) (tasks_of-home g c t h).0 k)) holds

pub set_after_quiet : SetAfterQuiet
set_after_quiet g past valid made free c q act keys quiet holds =
    set_after_move g c (touched_by g q act past) past (with_act g q act past) keys
    (λ t h k. standing_after_act g past valid made free q act quiet t k) holds

client-task : (g : Group) (r t : ℕ) → has t (clients g r) ≡ true → has t (tasks g) ≡ true
unfolding clients
client-task g r t h = (both (has t (tasks g)) (served_by g t == r) (rw (has-filter (λ u. served_by g u == r) t (tasks g)) at h)).0

pub reservations_after_due : ReservationsAfterDue
reservations_after_due g past valid made tick r ticks us armed due still no_refill same_slot =
    let moved : AreMoved g tick past ticks us = timers_after_clock g past valid made tick ticks us armed due in
    let quiet : (t : ℕ) → has t (clients g r) ≡ true → comes_due g tick t past ≡ false = λ t h.
    rest-false (has t (tasks g)) (comes_due g tick t past) (has t us) (moved.due t) (client-task g r t h) (still t h) in
    reservations_after_clock g past valid made tick r quiet no_refill same_slot
