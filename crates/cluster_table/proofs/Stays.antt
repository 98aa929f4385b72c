-- The processors and the room of a cluster stay the same as its keys, runs and links change.
use Rattle.std.proofs.Common.{◌≡◌, ◌≢◌, ℕ, ◌-◌, Bool, true, false, not, ◌&&◌, cond, ◌⊎◌, inl, inr, length, map, refl, ap, ◌∙◌, arith, length-set}
use Rattle.std.proofs.lemmas.Bool.{cases_eq}
use Rattle.std.specs.Prelude.{Option, None, option_map}
use Rattle.rt_rules.specs.declared.Key.{Key}
use Rattle.link_table.specs.Linked.{Linked, is_deferred, is_pending, link_of, with_run}
use Rattle.cluster_table.specs.Clusters.{KeptCluster, after_take, left_by, relinked, with_key}
use Rattle.cluster_table.specs.Table.{Table, HasProcessor, HasTask, changed_at, cluster_at}
use Rattle.cluster_table.proofs.RowLaws.{at-changed, at-changed_other, at-relinked}

pub record Stays (change : KeptCluster → KeptCluster) : Type 0 where
  pub first : (k : KeptCluster) → (change k).linked.first ≡ k.linked.first
  pub cpus : (k : KeptCluster) → length (change k).linked.runs ≡ length k.linked.runs
  pub room : (k : KeptCluster) → length (change k).keys ≡ length k.keys

pub stays-with_key : (t : ℕ) (key : Option Key) → Stays (with_key t key)
stays-with_key t key = record { first = λ k. refl; cpus = λ k. refl; room = λ k. length-set k.keys t key }

pub stays-left_by : (q : ℕ) → Stays (left_by q)
stays-left_by q = record { first = λ k. refl; cpus = λ k. length-set k.linked.runs (q - k.linked.first) None; room = λ k. refl }

pub stays-after_take : (q : ℕ) (np : Bool) → Stays (after_take q np)
stays-after_take q np = record {
  first = λ k. first k.linked (is_pending k.linked q && not (is_deferred k.linked q np));
  cpus = λ k. cpus k.linked (is_pending k.linked q && not (is_deferred k.linked q np));
  room = λ k. refl;
}
  where
    first : (l : Linked) (b : Bool) → (cond b (with_run l q (link_of l q)) l).first ≡ l.first
    first l true = refl
    first l false = refl

    cpus : (l : Linked) (b : Bool) → length (cond b (with_run l q (link_of l q)) l).runs ≡ length l.runs
    cpus l true = length-set l.runs (q - l.first) (link_of l q)
    cpus l false = refl

pub stays-relinked : Stays relinked
stays-relinked = record { first = λ k. refl; cpus = λ k. refl; room = λ k. refl }

-- ---- what a caller knows of a cluster stays so

processor-of : (change : KeptCluster → KeptCluster) → Stays change → (t new : Table) (d q : ℕ) → cluster_at new d ≡ option_map change (cluster_at t d) → HasProcessor t d q → HasProcessor new d q
processor-of change stays t new d q at h =
    let first = stays.first h.0 in
    let cpus = stays.cpus h.0 in
    (change h.0, at ∙ ap (option_map change) h.1, (omega (arith, first, h.2.0), omega (arith, first, cpus, h.2.1)))

task-of : (change : KeptCluster → KeptCluster) → Stays change → (t new : Table) (d task : ℕ) → cluster_at new d ≡ option_map change (cluster_at t d) → HasTask t d task → HasTask new d task
task-of change stays t new d task at h = let room = stays.room h.0 in (change h.0, at ∙ ap (option_map change) h.1, omega (arith, room, h.2))

pub has-processor-changed : (c : ℕ) (change : KeptCluster → KeptCluster) (t : Table) (d q : ℕ) → Stays change → HasProcessor t d q → HasProcessor (changed_at c change t) d q
has-processor-changed c change t d q stays h = by_place (cases_eq d c)
  where
    by_place : (d ≡ c) ⊎ (d ≢ c) → HasProcessor (changed_at c change t) d q
    by_place (inl same) = processor-of change stays t (changed_at c change t) d q (rw same (at-changed c change t)) h
    by_place (inr apart) = (h.0, at-changed_other c d change t apart ∙ h.1, h.2)

pub has-task-changed : (c : ℕ) (change : KeptCluster → KeptCluster) (t : Table) (d task : ℕ) → Stays change → HasTask t d task → HasTask (changed_at c change t) d task
has-task-changed c change t d task stays h = by_place (cases_eq d c)
  where
    by_place : (d ≡ c) ⊎ (d ≢ c) → HasTask (changed_at c change t) d task
    by_place (inl same) = task-of change stays t (changed_at c change t) d task (rw same (at-changed c change t)) h
    by_place (inr apart) = (h.0, at-changed_other c d change t apart ∙ h.1, h.2)

pub has-processor-relinked : (t : Table) (d q : ℕ) → HasProcessor t d q → HasProcessor (record t { clusters = map (option_map relinked) t.clusters }) d q
has-processor-relinked t d q h = processor-of relinked stays-relinked t (record t { clusters = map (option_map relinked) t.clusters }) d q (at-relinked t d) h

pub has-task-relinked : (t : Table) (d task : ℕ) → HasTask t d task → HasTask (record t { clusters = map (option_map relinked) t.clusters }) d task
has-task-relinked t d task h = task-of relinked stays-relinked t (record t { clusters = map (option_map relinked) t.clusters }) d task (at-relinked t d) h
