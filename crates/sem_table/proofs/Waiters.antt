-- Which tasks wait for the owner of a semaphore, and that they are few.
use Rattle.std.proofs.Common.{◌≡◌, ℕ, Bool, true, false, List, [], ◌∷◌, length, map, refl, sym, ap, subst}
use Rattle.std.specs.Prelude.{if◌then◌else◌}
use Rattle.rt_task.specs.declared.Protocol.{Protocol}
use Rattle.rt_task.specs.declared.Protocol.TheVariants.{Fmlp, Mpcp, Omlp, Pcp, Srp}
use Rattle.rt_rules.specs.Distinct.{IsDistinct}
use Rattle.rt_rules.specs.Numbers.{has}
use Rattle.rt_rules.specs.Pcp.{PcpState}
use Rattle.rt_rules.specs.SemState.{SemState}
use Rattle.rt_model.specs.Ceilings.{is_pcp, pcp}
use Rattle.rt_model.specs.Group.{Group, protocol, sems, tasks, users}
use Rattle.rt_model.specs.Holders.{sem_state}
use Rattle.rt_model.specs.Past.{Past}
use Rattle.rt_model.specs.Reachable.{IsReachable}
use Rattle.rt_model.specs.Semaphores.{cluster_of}
use Rattle.rt_task.specs.Validity.{IsValid}
use Rattle.rt_rules.proofs.DistinctLaws.{length-distinct}
use Rattle.rt_rules.proofs.NumberLaws.{distinct-numbers_from}
use Rattle.rt_rules.proofs.PairLaws.{pair-of}
use Rattle.rt_rules.proofs.PlacingLaws.{distinct-filter}
use Rattle.rt_laws.proofs.jobs.Engaged.{waiting-engaged}
use Rattle.rt_laws.proofs.GroupLaws.{user-task}
use Rattle.rt_laws.proofs.pcp.PcpGrants as pcp_grants
use Rattle.rt_laws.proofs.pcp.PcpState.{pcp_kept}
use Rattle.rt_laws.proofs.Rules.{MeetsRules}
use Rattle.rt_laws.proofs.ValidSets.{rules_of}
use Rattle.rt_laws.proofs.semaphores.Waiting.{srp-waiting}
use Rattle.rt_changes.proofs.Acting.{all_parties}
use Rattle.rt_changes.specs.Tallies.{waiter, waiter_tasks}
use Rattle.rt_changes.proofs.requests.Once.{waiting_once}
use Rattle.pcp_sem.specs.Pairs.{has_pair, tasks_of}
use Rattle.sem_table.specs.declared.any_sem.AnySem.{AnySem}
use Rattle.sem_table.specs.declared.any_sem.AnySem.TheVariants as any
use Rattle.sem_table.specs.SemTable.{SemTable, sem_at}
use Rattle.sem_table.specs.Told.{waiters_by}
use Rattle.sem_table.specs.KeptSems.{KeepsSem, KeepsSems}
use Rattle.sem_table.specs.Telling.{AreFewTasks, TellsWaiters, WaitersAreFew, waiters_at}
use Rattle.sem_table.proofs.Conditions.{set-here, tells, tells_state}

waiters-is : (g : Group) → MeetsRules g → (past : Past) (w : SemTable) (k : KeepsSems g past w) (s u : ℕ) → has s (sems g) ≡ true → has u (users g s) ≡ true → (p : Protocol) (x : AnySem) → protocol g s ≡ p → KeepsSem g s past p x → waiters_by w.sets s x ≡ waiters_at g s past
waiters-is g rules past w k s u known user Fmlp (any.Fmlp l) q v = rw q (ap (λ (y : SemState). y.waiting) (tells g rules past w k s u known user Fmlp (any.Fmlp l) q v))
waiters-is g rules past w k s u known user Omlp (any.Omlp l) q v = rw q (ap (λ (y : SemState). y.waiting) (tells g rules past w k s u known user Omlp (any.Omlp l) q v))
waiters-is g rules past w k s u known user Mpcp (any.Mpcp l) q v = rw q (ap (λ (y : SemState). y.waiting) (tells g rules past w k s u known user Mpcp (any.Mpcp l) q v))
waiters-is g rules past w k s u known user Pcp (any.Pcp c) q v = rw q (ap (λ (l : PcpState). tasks_of l.waiting) (set-here g rules past w k s u known user (rw q refl) c.0 v).state)
waiters-is g rules past w k s u known user Srp (any.Srp c) q v = rw q (sym (srp-waiting g s past q))
waiters-is g rules past w k s u known user p x q v = absurd v

pub tells_waiters : TellsWaiters
tells_waiters g past valid made w s u known user k = waiters-is g (rules_of g valid) past w k s u known user (protocol g s) (sem_at w.sems s) refl (k.kept s known)

-- ---- they are few

distinct-tasks : (g : Group) → IsDistinct (tasks g)
unfolding tasks
distinct-tasks g = distinct-filter _ _ (distinct-numbers_from 1 (length g.setup.tasks))

tasks-waiting : (g : Group) (past : Past) (ts : List ℕ) → waiter_tasks (map (waiter g past) ts) ≡ ts
tasks-waiting g past [] = refl
tasks-waiting g past (t ∷ ts) = ap (λ (us : List ℕ). t ∷ us) (tasks-waiting g past ts)

few-from : (g : Group) (ts : List ℕ) → IsDistinct ts → ((t : ℕ) → has t ts ≡ true → has t (tasks g) ≡ true) → AreFewTasks g ts
few-from g ts once members = record { few = length-distinct ts (tasks g) once (distinct-tasks g) members; once = once; of_group = members }

module _ (g : Group) (past : Past) (valid : IsValid g.setup) (made : IsReachable g past) (s : ℕ) (known : has s (sems g) ≡ true) where
  few-waiting : AreFewTasks g (sem_state g s past).waiting
  few-waiting = few-from g (sem_state g s past).waiting (subst (λ ts. IsDistinct ts) (tasks-waiting g past (sem_state g s past).waiting) (waiting_once g past valid made s known)) (λ t h. (user-task g s t (all_parties g (rules_of g valid) made t s (waiting-engaged g t s past h)).user).0)

  few-of_set : AreFewTasks g (tasks_of (pcp g (cluster_of g s) past).waiting)
  few-of_set = few-from g (tasks_of (pcp g (cluster_of g s) past).waiting) (pcp_grants.waiting_once g (rules_of g valid) (cluster_of g s) made) (λ t h. member t (pair-of t (pcp g (cluster_of g s) past).waiting h))
    where
      member : (t : ℕ) → (r : ℕ) × (has_pair t r (pcp g (cluster_of g s) past).waiting ≡ true) → has t (tasks g) ≡ true
      member t p = (user-task g p.0 t ((pcp_kept g (rules_of g valid) (cluster_of g s) made).waiting t p.0 p.1).user).0

  few-at : AreFewTasks g (waiters_at g s past)
  few-at = by_case (is_pcp (protocol g s))
    where
      by_case : (b : Bool) → AreFewTasks g (if b then tasks_of (pcp g (cluster_of g s) past).waiting else (sem_state g s past).waiting)
      by_case true = few-of_set
      by_case false = few-waiting

pub waiters_are_few : WaitersAreFew
waiters_are_few g past valid made w s u known user k = (
  subst (AreFewTasks g) (sym (tells_waiters g past valid made w s u known user k)) (few-at g past valid made s known),
  subst (λ (y : SemState). AreFewTasks g y.waiting) (sym (tells_state g past valid made w s u known user k)) (few-waiting g past valid made s known),
)
