-- What is pending in a cluster, as its keys and runs change.
use Rattle.std.proofs.Common.{◌≡◌, ℕ, ◌≤◌, Bool, true, false, ◌&&◌, ◌||◌, cond, eqb-true, List, length, set, refl, sym, ◌∙◌, arith}
use Rattle.std.specs.Prelude.{Option, None, Some, is_none}
use Rattle.rt_base.specs.TaskNos.{number_of_task}
use Rattle.rt_base.specs.declared.TaskNo.{TaskNo}
use Rattle.rt_rules.specs.declared.Key.{Key}
use Rattle.rt_rules.specs.Distinct.{IsDistinct}
use Rattle.rt_rules.specs.Numbers.{has, is}
use Rattle.rt_rules.specs.Placing.{is_of, placed, tasks_in}
use Rattle.ready_queue.specs.declared.TopChange.{TopChange}
use Rattle.ready_queue.specs.Exchanges.{IsExchanged}
use Rattle.ready_queue.specs.Queue.{first_tasks}
use Rattle.link_table.specs.Linked.{Linked, CanExchange, IsOfCluster, IsPlacedFor, IsSound}
use Rattle.link_table.proofs.StayLaws.{linked_top-stays, placed_links-stay}
use Rattle.cluster_table.specs.declared.pending.Pending.{Pending}
use Rattle.cluster_table.specs.declared.pending.Pending.TheVariants.{Nothing, One, Several}
use Rattle.cluster_table.specs.Clusters.{KeptCluster, IsStable, after_take, left_by, relinked, with_key}
use Rattle.cluster_table.specs.Pending.{IsPending, after_change, is_nothing}
use Rattle.cluster_table.proofs.FirstTasks.{distinct-first_tasks, few-first_tasks}
use Rattle.cluster_table.proofs.Stable.{stable-run}
use Rattle.cluster_table.proofs.Stays.{stays-after_take, stays-left_by}

-- it is the same as a processor takes an interrupt, and as it comes to run nothing
pub pending-run : (p : Pending) (k : KeptCluster) (q : ℕ) (np : Bool) → IsSound k.linked → k.cpus ≡ length k.linked.runs → IsOfCluster k.linked q → IsPending p k
    → IsPending p (after_take q np k) × IsPending p (left_by q k)
pending-run Nothing k q np sound all of_cluster h = stable-run k q np sound all of_cluster h
pending-run (One e) k q np sound all of_cluster h =
    let s = placed_links-stay k.linked h.0 q np sound of_cluster h.1.once h.1.fits h.1.placed in (
      (h.0, record { once = h.1.once; fits = omega (arith, h.1.fits, (stays-after_take q np).cpus k); placed = s.0 }, h.2),
      (h.0, record { once = h.1.once; fits = omega (arith, h.1.fits, (stays-left_by q).cpus k); placed = s.1 }, h.2),
    )
pending-run Several k q np sound all of_cluster h = (tt, tt)

-- nothing is pending where the links are placed
pub stable-pending : (p : Pending) (k : KeptCluster) → IsPending p k → is_nothing p ≡ true → IsStable k
stable-pending Nothing k h is = h
stable-pending (One e) k h is = cc
stable-pending Several k h is = cc

unchanged : (b : Bool) → (b && true) || false ≡ b
unchanged true = refl
unchanged false = refl

none-is : (u : ℕ) (o : Option TaskNo) → is_none o ≡ true → is u (number_of_task o) ≡ false
none-is u None h = refl
none-is u (Some t) h = cc

module _ (k : KeptCluster) (t : ℕ) (key : Option Key) (e : TopChange) (sound : IsSound k.linked) (all : k.cpus ≡ length k.linked.runs)
    (x : IsExchanged (first_tasks k.cpus k.keys) (first_tasks k.cpus (set k.keys t key)) (number_of_task e.removed) (number_of_task e.added)) where
  few : length (first_tasks k.cpus k.keys) ≤ length k.linked.runs
  few = omega (arith, few-first_tasks k.cpus k.keys, all)

  -- where none left and none came, the same tasks are the first ones
  same : is_none e.removed ≡ true → is_none e.added ≡ true → (u : ℕ) → has u (first_tasks k.cpus k.keys) ≡ has u (first_tasks k.cpus (set k.keys t key))
  same left came u =
      let first = rw (none-is u e.removed left, none-is u e.added came) at (x.first u) in
      sym (first ∙ unchanged (has u (first_tasks k.cpus k.keys)))

  pending-same : is_none e.removed ≡ true → is_none e.added ≡ true → (p : Pending) → IsPending p k → IsPending p (with_key t key k)
  pending-same left came Nothing h = linked_top-stays k.linked (first_tasks k.cpus k.keys) (first_tasks k.cpus (set k.keys t key)) sound (distinct-first_tasks k.cpus k.keys) few (same left came) h
  pending-same left came (One d) h = (h.0, h.1, record { was = h.2.was; was_not = h.2.was_not; first = λ u. sym (same left came u) ∙ h.2.first u })
  pending-same left came Several h = tt

  pending-one : (p : Pending) → IsPending p k → IsPending (cond (is_nothing p) (One e) Several) (with_key t key k)
  pending-one Nothing h = (first_tasks k.cpus k.keys, record { once = distinct-first_tasks k.cpus k.keys; fits = few; placed = h }, x)
  pending-one (One d) h = tt
  pending-one Several h = tt

  -- as a task is given a key
  pub pending-with_key : (p : Pending) → IsPending p k → IsPending (after_change e p) (with_key t key k)
  pending-with_key p h = by_case (is_none e.removed) (is_none e.added) refl refl
    where
      by_case : (a b : Bool) → is_none e.removed ≡ a → is_none e.added ≡ b → IsPending (cond (a && b) p (cond (is_nothing p) (One e) Several)) (with_key t key k)
      by_case true true left came = pending-same left came p h
      by_case true false left came = pending-one p h
      by_case false b left came = pending-one p h

-- ---- one change can be followed alone

no_run : (t : ℕ) (o : Option TaskNo) (us : List ℕ) → is_of us (number_of_task o) ≡ false → is t (number_of_task o) ≡ true → has t us ≡ false
no_run t None us idle h = cc
no_run t (Some u) us idle h = rw (eqb-true t u.0 h) idle

module _ (k : KeptCluster) (e : TopChange) (all : k.cpus ≡ length k.linked.runs) (h : IsPending (One e) k) where
  fits-first : length (first_tasks k.cpus k.keys) ≤ length k.linked.runs
  fits-first = omega (arith, few-first_tasks k.cpus k.keys, all)

  pub can-exchange : is_of (tasks_in k.linked.runs) (number_of_task e.added) ≡ false → CanExchange k.linked (number_of_task e.removed) (number_of_task e.added)
  can-exchange idle = record {
    old = h.0;
    new = first_tasks k.cpus k.keys;
    exchanged = h.2;
    placed = h.1;
    once = distinct-first_tasks k.cpus k.keys;
    fits = fits-first;
    idle = λ t is. no_run t e.added (tasks_in k.linked.runs) idle is;
  }

  -- and gives the links of the tasks that are the first ones now
  pub exchange-links : (new : Linked) → ((old top : List ℕ) → IsExchanged old top (number_of_task e.removed) (number_of_task e.added) → IsPlacedFor old k.linked → length top ≤ length k.linked.runs
      → IsDistinct top → new ≡ record k.linked { links = placed top k.linked.runs k.linked.links }) → new ≡ (relinked k).linked
  exchange-links new gives = gives h.0 (first_tasks k.cpus k.keys) h.2 h.1 fits-first (distinct-first_tasks k.cpus k.keys)
