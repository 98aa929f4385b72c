-- What can be brought up stays so while tasks are brought up and processors left.
use Rattle.std.proofs.Common.{◌≡◌, ℕ, Bool, true, false, List, [], ◌∷◌, ◌++◌, length, set, eqb-true, length-set, refl, ap, ◌∙◌}
use Rattle.std.specs.Prelude.{◌==◌, Option, None, Some, if◌then◌else◌, option_map, slice_index}
use Rattle.std.proofs.lemmas.Bool.{eqb-false}
use Rattle.std.proofs.lemmas.List.{set-set}
use Rattle.rt_task.specs.declared.Act.{Act}
use Rattle.rt_task.specs.declared.Act.TheVariants as acts
use Rattle.rt_task.specs.declared.Parts.{Parts}
use Rattle.rt_rules.specs.declared.history.Reply.{Reply}
use Rattle.rt_model.specs.Past.{accepted}
use Rattle.group_jobs.specs.Kept.{cpu_of}
use Rattle.cluster_table.specs.Clusters.{KeptCluster, after_take, left_by, with_key}
use Rattle.cluster_table.specs.Table.{Table, HasTask, changed_at}
use Rattle.cluster_table.proofs.RowLaws.{at-changed, at-changed_other}
use Rattle.group_engine.specs.declared.state.GroupState.{GroupState}
use Rattle.group_engine.specs.inside.Touching.{CanUpdate, CanRequeue, all_updated, all_requeued, updated, with_run, home_in, key_now, requeued, run_updated}

-- a change that leaves room for as many keys
has-task-changed : (c d t : ℕ) (change : KeptCluster → KeptCluster) (table : Table)
    → ((k : KeptCluster) → length (change k).keys ≡ length k.keys) → HasTask table d t → HasTask (changed_at c change table) d t
has-task-changed c d t change table same h = by_place (d == c) refl
  where
    by_place : (b : Bool) → d == c ≡ b → HasTask (changed_at c change table) d t
    by_place true e =
        let here : d ≡ c = eqb-true d c e in
        rw here (change h.0, at-changed c change table ∙ ap (option_map change) (rw here at h.1), rw (same h.0) h.2)
    by_place false e = (h.0, at-changed_other c d change table (eqb-false d c e) ∙ h.1, h.2)

-- after another task is brought up
pub can-after : (p : Parts) (t u : ℕ) (s : GroupState) → CanUpdate p t s → CanUpdate p t (updated p u s)
can-after p t u s h = record {
  task = h.task;
  has_base = h.has_base;
  timer_room = let same : length (updated p u s).timers ≡ length s.timers = length-set _ _ _ in rw same h.timer_room;
  at_home = has-task-changed (home_in p u) (home_in p t) t (with_key u (key_now p s.core.facts u)) s.clusters (λ k. length-set _ _ _) h.at_home;
}

-- and after others
pub can-after-all : (p : Parts) (t : ℕ) (us : List ℕ) (s : GroupState) → CanUpdate p t s → CanUpdate p t (all_updated p us s)
can-after-all p t [] s h = h
can-after-all p t (u ∷ us) s h = can-after-all p t us (updated p u s) (can-after p t u s h)

-- once its cluster has what a processor runs
pub has-task-with_run : (q : ℕ) (act : Act) (reply : Reply) (o : Option ℕ) (d t : ℕ) (table : Table) → HasTask table d t → HasTask (run_updated q act reply o table) d t
has-task-with_run q acts.Tick reply o d t table h = h
has-task-with_run q acts.Irq reply o d t table h = by_reply (accepted reply)
  where
    by_reply : (b : Bool) → HasTask (if b then changed_at (slice_index table.homes q) (after_take q false) table else table) d t
    by_reply true = has-task-changed (slice_index table.homes q) d t (after_take q false) table (λ k. refl) h
    by_reply false = h
has-task-with_run q (acts.Arrive u) reply o d t table h = h
has-task-with_run q (acts.Do op) reply None d t table h = has-task-changed (slice_index table.homes q) d t (left_by q) table (λ k. refl) h
has-task-with_run q (acts.Do op) reply (Some u) d t table h = h

pub can-with_run : (p : Parts) (q : ℕ) (act : Act) (reply : Reply) (t : ℕ) (s : GroupState) → CanUpdate p t s → CanUpdate p t (with_run q act reply s)
can-with_run p q act reply t s h = record {
  task = h.task;
  has_base = h.has_base;
  timer_room = h.timer_room;
  at_home = has-task-with_run q act reply (cpu_of s.core.facts.kept q).runs (home_in p t) t s.clusters h.at_home;
}

-- what can be brought up can be put where it stands
pub can-requeue-of : (p : Parts) (t : ℕ) (s : GroupState) → CanUpdate p t s → CanRequeue p t s
can-requeue-of p t s h = record { task = h.task; has_base = h.has_base; at_home = h.at_home }

-- once a task is put where it stands
pub can-requeued : (p : Parts) (t u : ℕ) (s : GroupState) → CanUpdate p t s → CanUpdate p t (requeued p u s)
can-requeued p t u s h = record {
  task = h.task;
  has_base = h.has_base;
  timer_room = h.timer_room;
  at_home = has-task-changed (home_in p u) (home_in p t) t (with_key u (key_now p s.core.facts u)) s.clusters (λ k. length-set _ _ _) h.at_home;
}

-- after another task is put where it stands
pub can-requeue-after : (p : Parts) (t u : ℕ) (s : GroupState) → CanRequeue p t s → CanRequeue p t (requeued p u s)
can-requeue-after p t u s h = record {
  task = h.task;
  has_base = h.has_base;
  at_home = has-task-changed (home_in p u) (home_in p t) t (with_key u (key_now p s.core.facts u)) s.clusters (λ k. length-set _ _ _) h.at_home;
}

-- one more is the last
pub all_requeued-push : (p : Parts) (us : List ℕ) (u : ℕ) (s : GroupState)
    → all_requeued p (us ++ u ∷ []) s ≡ requeued p u (all_requeued p us s)
all_requeued-push p [] u s = refl
all_requeued-push p (t ∷ us) u s = all_requeued-push p us u (requeued p t s)

pub can-requeue-all : (p : Parts) (t : ℕ) (us : List ℕ) (s : GroupState) → CanRequeue p t s → CanRequeue p t (all_requeued p us s)
can-requeue-all p t [] s h = h
can-requeue-all p t (u ∷ us) s h = can-requeue-all p t us (requeued p u s) (can-requeue-after p t u s h)

-- a timer that was taken out is armed anew as one that was not
pub updated-taken : (p : Parts) (u : ℕ) (s : GroupState) → updated p u (record s { timers = set s.timers u None }) ≡ updated p u s
updated-taken p u s = rw set-set

-- one more task is the last
pub all_updated-push : (p : Parts) (us : List ℕ) (u : ℕ) (s : GroupState)
    → all_updated p (us ++ u ∷ []) s ≡ updated p u (all_updated p us s)
all_updated-push p [] u s = refl
all_updated-push p (t ∷ us) u s = all_updated-push p us u (updated p t s)
