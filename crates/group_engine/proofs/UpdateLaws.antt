-- What looking at tasks one after the other makes of the state.
use Rattle.std.proofs.Common.{◌≡◌, ◌≢◌, ℕ, Bool, true, false, List, [], ◌∷◌, eqb-true, get_or, refl, set, sym, ap, ◌∙◌}
use Rattle.std.specs.Prelude.{◌==◌, ◌&&◌, not, is_some, Option, None, Some, if◌then◌else◌, option_map, slice_set}
use Rattle.std.proofs.lemmas.Bool.{eqb-false}
use Rattle.rt_rules.specs.declared.Key.{Key}
use Rattle.rt_task.specs.declared.Parts.{Parts}
use Rattle.rt_rules.specs.Numbers.{has}
use Rattle.rt_rules.proofs.BoolLaws.{or_true}
use Rattle.rt_rules.proofs.MemberLaws.{equal_self}
use Rattle.rt_model.specs.Group.{Group, home, task, tasks, tasks_of}
use Rattle.rt_laws.proofs.GroupLaws.{home-tasks_of, tasks_of-home}
use Rattle.rt_changes.specs.ClusterMoves.{of_cluster}
use Rattle.ready_queue.specs.ReadySet.{kept_key, set_refreshed}
use Rattle.group_jobs.specs.Kept.{Kept, job_of}
use Rattle.group_jobs.specs.Timers.{renewed}
use Rattle.group_jobs.specs.Words.{is_ready}
use Rattle.cluster_table.specs.Clusters.{KeptCluster, with_key}
use Rattle.cluster_table.specs.Table.{Table, cluster_at, changed_at}
use Rattle.cluster_table.proofs.RowLaws.{at-changed, at-changed_other}
use Rattle.group_sems.specs.GroupSems.{GroupSems}
use Rattle.group_engine.specs.declared.state.GroupState.{GroupState}
use Rattle.group_resvs.specs.GroupResvs.{GroupResvs, is_served, is_served_by}
use Rattle.resv_core.specs.Served.{ServerState}
use Rattle.resv_core.specs.Kept.{told_now}
use Rattle.resv_core.specs.Serving.{for_task, told_each}
use Rattle.resv_core.proofs.ServingLaws.{for_task-keeps}
use Rattle.sem_table.specs.Told.{awaits_of}
use Rattle.group_core.specs.Facts.{Facts, told_all}
use Rattle.group_core.specs.Reads.{admits_in, key_in, timer_in}
use Rattle.group_engine.specs.inside.Touching.{all_updated, all_requeued, updated, home_in, key_now, requeued}
use Rattle.group_jobs.specs.GroupJobs.{ready_now, task_in}

-- ---- what stays

-- of what is shared with the ranker the reservations alone change: they are told of these tasks
pub core-brought : (p : Parts) (us : List ℕ) (s : GroupState) → (all_updated p us s).core ≡ record s.core { facts = told_all p us s.core.facts }
core-brought p [] s = refl
core-brought p (u ∷ us) s = core-brought p us (updated p u s)

pub homes-brought : (p : Parts) (us : List ℕ) (s : GroupState) → (all_updated p us s).clusters.homes ≡ s.clusters.homes
homes-brought p [] s = refl
homes-brought p (u ∷ us) s = homes-brought p us (updated p u s)

-- putting tasks where they stand changes the clusters alone
pub record OnlyClusters (s s' : GroupState) : Type 0 where
  pub core_same : s'.core ≡ s.core
  pub timers_same : s'.timers ≡ s.timers
  pub homes_same : s'.clusters.homes ≡ s.clusters.homes

pub others-requeued : (p : Parts) (us : List ℕ) (s : GroupState) → OnlyClusters s (all_requeued p us s)
others-requeued p [] s = record { core_same = refl; timers_same = refl; homes_same = refl }
others-requeued p (u ∷ us) s =
    let rest = others-requeued p us (requeued p u s) in
    record { core_same = rest.core_same; timers_same = rest.timers_same; homes_same = rest.homes_same }

-- ---- the timers and the reservations

pub timers-brought : (p : Parts) (us : List ℕ) (s : GroupState) → (all_updated p us s).timers ≡ renewed (timer_in p s.core.facts.kept) us s.timers
timers-brought p [] s = refl
timers-brought p (u ∷ us) s = timers-brought p us (updated p u s)

-- a call for a task leaves who is served
pub served-told : (w : GroupResvs) (t : ℕ) (change : ServerState → ServerState) (u : ℕ)
    → is_served (record w { resvs = for_task t change w.resvs }) u ≡ is_served w u
served-told w t change u = ap (λ xs. is_served_by (get_or xs u None) w.serves u) (for_task-keeps w.resvs t change).served_by

pub served-told_each : (f : ℕ → Option ℕ) (us : List ℕ) (w : GroupResvs) (u : ℕ)
    → is_served (record w { resvs = told_each f us w.resvs }) u ≡ is_served w u
served-told_each f [] w u = refl
served-told_each f (t ∷ ts) w u =
    served-told_each f ts (record w { resvs = for_task t (told_now (f t) t) w.resvs }) u ∙ served-told w t (told_now (f t) t) u

-- the moments of these tasks alone matter
pub renewed-same : (f f' : ℕ → Option ℕ) (us : List ℕ) (ticks : List (Option ℕ)) → ((u : ℕ) → has u us ≡ true → f u ≡ f' u) → renewed f us ticks ≡ renewed f' us ticks
renewed-same f f' [] ticks same = refl
renewed-same f f' (u ∷ us) ticks same =
    ap (λ o. renewed f us (set ticks u o)) (same u (rw (equal_self u))) ∙ renewed-same f f' us (set ticks u (f' u)) (λ v h. same v (rw h (or_true (v == u))))

-- ---- a cluster

-- the key of a task, where it stands and is served
abbrev key_if : Parts → Kept → GroupSems → Bool → ℕ → Option Key
key_if p k v served t =
    if is_ready k.clock (task_in p.tasks t) (job_of k t) && (not (is_some (awaits_of v.table t)) && (admits_in p v t && served))
    then Some (key_in v t) else None

abbrev pub key_where : Parts → Kept → GroupSems → (ℕ → Bool) → ℕ → Option Key
key_where p k v served t = key_if p k v (served t) t

-- the keys of cluster c once these tasks were looked at
abbrev pub keys_after : Parts → Kept → GroupSems → (ℕ → Bool) → ℕ → List ℕ → List (Option Key) → List (Option Key)
keys_after p k v served c [] keys = keys
keys_after p k v served c (u ∷ us) keys = keys_after p k v served c us (if home_in p u == c then slice_set keys u (key_where p k v served u) else keys)

-- one task
one-cluster : (p : Parts) (u : ℕ) (key : Option Key) (t : Table) (c : ℕ) (k : KeptCluster) → cluster_at t c ≡ Some k
    → cluster_at (changed_at (home_in p u) (with_key u key) t) c ≡ Some (record k { keys = if home_in p u == c then slice_set k.keys u key else k.keys })
one-cluster p u key t c k there = by_case (home_in p u == c) refl
  where
    by_case : (b : Bool) → home_in p u == c ≡ b
        → cluster_at (changed_at (home_in p u) (with_key u key) t) c ≡ Some (record k { keys = if b then slice_set k.keys u key else k.keys })
    by_case true e =
        let same : home_in p u ≡ c = eqb-true _ _ e in
        let here : cluster_at (changed_at (home_in p u) (with_key u key) t) (home_in p u) ≡ Some (with_key u key k) =
        at-changed (home_in p u) (with_key u key) t ∙ ap (option_map (with_key u key)) (ap (cluster_at t) same ∙ there) in
        ap (cluster_at (changed_at (home_in p u) (with_key u key) t)) (sym same) ∙ here
    by_case false e =
        let apart : c ≢ home_in p u = λ h. eqb-false _ _ e (sym h) in
        at-changed_other (home_in p u) c (with_key u key) t apart ∙ there

pub cluster-requeued : (p : Parts) (us : List ℕ) (s : GroupState) (c : ℕ) (k : KeptCluster) → cluster_at s.clusters c ≡ Some k
    → cluster_at (all_requeued p us s).clusters c ≡ Some (record k { keys = keys_after p s.core.facts.kept s.core.facts.sems (is_served s.core.facts.resvs) c us k.keys })
cluster-requeued p [] s c k there = there
cluster-requeued p (u ∷ us) s c k there =
    let key : Option Key = key_now p s.core.facts u in
    cluster-requeued p us (requeued p u s) c (record k { keys = if home_in p u == c then slice_set k.keys u key else k.keys }) (one-cluster p u key s.clusters c k there)

pub cluster-brought : (p : Parts) (us : List ℕ) (s : GroupState) (served : ℕ → Bool) → ((u : ℕ) → is_served s.core.facts.resvs u ≡ served u)
    → (c : ℕ) (k : KeptCluster) → cluster_at s.clusters c ≡ Some k
    → cluster_at (all_updated p us s).clusters c ≡ Some (record k { keys = keys_after p s.core.facts.kept s.core.facts.sems served c us k.keys })
cluster-brought p [] s served same c k there = there
cluster-brought p (u ∷ us) s served same c k there =
    let f : Facts = s.core.facts in
    let key : Option Key = key_where p f.kept f.sems served u in
    let told : (v : ℕ) → is_served (updated p u s).core.facts.resvs v ≡ served v = λ v. served-told f.resvs u (told_now (ready_now p.tasks f.kept u) u) v ∙ same v in
    let there_still = one-cluster p u (key_now p f u) s.clusters c k there
    ∙ ap (λ b. let j : KeptCluster = record k { keys = if home_in p u == c then slice_set k.keys u (key_if p f.kept f.sems b u) else k.keys } in Some j) (same u) in
    cluster-brought p us (updated p u s) served told c (record k { keys = if home_in p u == c then slice_set k.keys u key else k.keys }) there_still

pub home-in : (g : Group) (t : ℕ) → home_in g.setup t ≡ home g t
unfolding home task
home-in g t = refl

-- these keys are those of the cluster's tasks among them, where each is what is kept of its task
pub keys-refreshed : (g : Group) (c : ℕ) (k : Kept) (v : GroupSems) (served : ℕ → Bool) (key : ℕ → Key) (test : ℕ → Bool) (us : List ℕ) (keys : List (Option Key))
    → ((u : ℕ) → has u us ≡ true → (has u (tasks g) ≡ true) × (key_where g.setup k v served u ≡ kept_key key test u))
    → keys_after g.setup k v served c us keys ≡ set_refreshed key test (of_cluster g c us) keys
keys-refreshed g c k v served key test [] keys of = refl
keys-refreshed g c k v served key test (u ∷ us) keys of = by_case (has u (tasks_of g c)) refl (λ keys'. keys-refreshed g c k v served key test us keys' (λ v h. of v (rw h (or_true (v == u)))))
  where
    here : (has u (tasks g) ≡ true) × (key_where g.setup k v served u ≡ kept_key key test u)
    here = of u (rw (equal_self u))

    at_home : (b : Bool) → has u (tasks_of g c) ≡ b → home_in g.setup u == c ≡ b
    at_home true h = let same : home_in g.setup u ≡ c = home-in g u ∙ (tasks_of-home g c u h).1 in rw same (equal_self c)
    at_home false h = out (home_in g.setup u == c) refl
      where
        out : (d : Bool) → home_in g.setup u == c ≡ d → d ≡ false
        out true e =
            let same : home g u ≡ c = sym (home-in g u) ∙ eqb-true _ _ e in
            let member : has u (tasks_of g c) ≡ true = rw (← same) (home-tasks_of g u here.0) in
            cc
        out false e = refl

    by_case : (b : Bool) → has u (tasks_of g c) ≡ b
        → ((keys' : List (Option Key)) → keys_after g.setup k v served c us keys' ≡ set_refreshed key test (of_cluster g c us) keys')
        → keys_after g.setup k v served c us (if home_in g.setup u == c then slice_set keys u (key_where g.setup k v served u) else keys) ≡ set_refreshed key test (if b then u ∷ of_cluster g c us else of_cluster g c us) keys
    by_case true h rest = rw (at_home true h, here.1) (rest (set keys u (kept_key key test u)))
    by_case false h rest = rw (at_home false h) (rest keys)
