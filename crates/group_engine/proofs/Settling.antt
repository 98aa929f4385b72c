-- The state after a move: the tasks that it touched are looked at, and the links are placed anew.
use Rattle.std.proofs.Common.{◌≡◌, ℕ, ◌+◌, ◌-◌, ◌≤◌, Bool, true, false, not, ◌&&◌, List, [], ◌∷◌, length, get_or, refl, set, length-set, sym, ap, ◌∙◌, subst, arith}
use Rattle.std.specs.Prelude.{Option, None, Some, if◌then◌else◌, is_none, is_some, option_map}
use Rattle.rt_base.specs.declared.TheConstants.{MOST_STEPS}
use Rattle.rt_rules.specs.declared.Key.{Key}
use Rattle.rt_rules.specs.Numbers.{has}
use Rattle.rt_rules.proofs.BoolLaws.{both}
use Rattle.rt_rules.proofs.MemberLaws.{has-filter}
use Rattle.rt_model.specs.EffectiveKeys.{effective_key}
use Rattle.rt_model.specs.Group.{Group, clusters, cpus, first_cpu, home, task, tasks, tasks_of}
use Rattle.rt_model.specs.Holders.{awaits}
use Rattle.rt_model.specs.Links.{links, runs_of}
use Rattle.rt_model.specs.Past.{Event, Clock, Acted, Past, did, entries_in, is_work}
use Rattle.rt_model.specs.Reachable.{IsReachable}
use Rattle.rt_model.specs.Releases.{ready}
use Rattle.rt_model.specs.Tops.{eligible, is_admitted, is_served as is_served_by_rules, ranking, top}
use Rattle.rt_model.proofs.Steps.{links-step}
use Rattle.rt_model.proofs.TopLaws.{distinct-tasks_of}
use Rattle.rt_laws.proofs.GroupLaws.{tasks_of-home}
use Rattle.rt_plays.specs.AtHome.{IsHomeTask}
use Rattle.ready_queue.specs.Queue.{first_tasks}
use Rattle.ready_queue.specs.ReadySet.{HoldsJust, kept_key, set_refreshed}
use Rattle.ready_queue.specs.Refreshed.{AgreeBut}
use Rattle.ready_queue.proofs.ReadySets.{set_is_refreshed}
use Rattle.rt_changes.specs.ClusterMoves.{of_cluster}
use Rattle.rt_changes.specs.Clusters.{HoldsEligible}
use Rattle.group_jobs.specs.Kept.{IsKept, Kept, job_of}
use Rattle.group_jobs.specs.Timers.{TimersAreKept, renewed, timer_at}
use Rattle.group_jobs.specs.Ways.{AreWays}
use Rattle.group_jobs.specs.Words.{is_ready}
use Rattle.group_jobs.proofs.TimerMoves.{timer_is_read}
use Rattle.group_jobs.specs.GroupJobs.{task_in}
use Rattle.cluster_table.specs.Clusters.{KeptCluster, relinked}
use Rattle.cluster_table.specs.Table.{HasTask, Table, cluster_at}
use Rattle.cluster_table.proofs.FirstTasks.{first_tasks-holds}
use Rattle.cluster_table.proofs.RowLaws.{at-relinked}
use Rattle.sem_table.specs.Told.{awaits_of}
use Rattle.group_core.specs.Words.{KeepsGroupSems}
use Rattle.group_resvs.specs.GroupResvs.{GroupResvs, IsSettled, is_served, is_served_by}
use Rattle.group_resvs.specs.Kept.{KeepsResvs}
use Rattle.group_resvs.specs.Laws.{AreToldOf}
use Rattle.group_resvs.proofs.KeptLaws.{resvs_are_read}
use Rattle.resv_core.specs.Served.{Served, charged}
use Rattle.resv_core.specs.Kept.{ready_release}
use Rattle.resv_core.specs.Serving as serving
use Rattle.resv_core.specs.Serving.{all_begun, for_task}
use Rattle.resv_core.proofs.ServingLaws.{for_task-keeps}
use Rattle.group_core.proofs.Words.{at_home}
use Rattle.group_core.specs.Facts.{Facts, WithRoom, told_all}
use Rattle.group_core.specs.Reads.{admits_in, key_in, timer_in}
use Rattle.group_core.specs.Standing as core
use Rattle.group_core.proofs.Admitting.{admitted-read}
use Rattle.group_core.proofs.ModelWords.{and-turned, key-read, waits-read}
use Rattle.group_core.proofs.Moves.{at-ended, changed-ended, fit-ended}
use Rattle.group_engine.specs.declared.state.GroupState.{GroupState}
use Rattle.group_engine.specs.Keys.{HoldsKeys}
use Rattle.group_engine.specs.Ending.{HasClusterEnding, HaveEnded, HoldsStanding, IsEnding, stands}
use Rattle.group_engine.specs.Moments.{IsPlayed}
use Rattle.group_engine.specs.State.{AreHomes, HasClusterAt, IsAt, IsFitAt, acts_left}
use Rattle.group_engine.specs.inside.Touching.{CanRequeueAll, all_updated, all_requeued, placed_all}
use Rattle.group_engine.proofs.Bounding.{at-home-in, has-base, task-of}
use Rattle.group_engine.proofs.UpdateLaws.{OnlyClusters, cluster-brought, cluster-requeued, core-brought, homes-brought, key_where, keys-refreshed, others-requeued, renewed-same, timers-brought}
use Rattle.group_engine.proofs.Reading.{IsAlike, stands-ready}

-- ---- the top of a cluster is the first of the tasks that its set holds

pub first-top : (g : Group) (c : ℕ) (past : Past) (keys : List (Option Key)) → HoldsEligible g c past keys → first_tasks (cpus g c) keys ≡ top g c past
unfolding top ranking
first-top g c past keys holds = first_tasks-holds (cpus g c) (tasks_of g c) _ _ keys (distinct-tasks_of g c) holds

-- ---- between the two halves of a move: what the move is has been written down, and no task was looked at yet

-- of a cluster: the keys and links are of the past before, what runs is of the past after
pub record IsClusterBetween (g : Group) (c : ℕ) (e : Event) (past : Past) (k : KeptCluster) : Type 0 where
  pub cpus_are : k.cpus ≡ cpus g c
  pub first_is : k.linked.first ≡ first_cpu g c
  pub room : length k.keys ≡ length g.setup.tasks + 1
  pub keys_are : HoldsEligible g c past k.keys
  pub runs_are : k.linked.runs ≡ runs_of g c (e ∷ past)
  pub links_are : k.linked.links ≡ links g c past

pub record HasClusterBetween (g : Group) (c : ℕ) (e : Event) (past : Past) (t : Table) : Type 0 where
  pub cluster : KeptCluster
  pub there : cluster_at t c ≡ Some cluster
  pub is_between : IsClusterBetween g c e past cluster

-- of the state, where all tasks but those of a list look as before
pub record IsBetween (g : Group) (e : Event) (past : Past) (us : List ℕ) (s : GroupState) : Type 0 where
  pub few : entries_in (e ∷ past) ≤ MOST_STEPS
  pub before : GroupResvs
  pub moved : core.IsMoved g e past before s.core.facts
  pub fit : IsFitAt g (e ∷ past) s.core.facts
  pub timers_are : TimersAreKept g (e ∷ past) (renewed (timer_at g (e ∷ past)) us s.timers)
  pub homes_are : AreHomes g s.clusters.homes
  pub clusters_are : (c : ℕ) → has c (clusters g) ≡ true → HasClusterBetween g c e past s.clusters
  pub inside : (t : ℕ) → has t us ≡ true → has t (tasks g) ≡ true
  pub others : (t : ℕ) → has t (tasks g) ≡ true → has t us ≡ false → IsAlike g t past (e ∷ past)

-- ---- the reservations as a move begins

begun-by : (e : Event) (past : Past) (v : Served) → (all_begun e past v).served_by ≡ v.served_by
begun-by (Clock tick) past v = refl
begun-by (Acted d) past v = by_task d.task
  where
    by_work : (t : ℕ) (b : Bool) → (if b then for_task t charged v else v).served_by ≡ v.served_by
    by_work t true = (for_task-keeps v t charged).served_by
    by_work t false = refl

    by_task : (o : Option ℕ) → (serving.charged_for o (Acted d) v).served_by ≡ v.served_by
    by_task None = refl
    by_task (Some t) = by_work t (is_work (did t (Acted d)))

served-begun : (e : Event) (past : Past) (w : GroupResvs) (t : ℕ) → is_served (record w { resvs = all_begun e past w.resvs }) t ≡ is_served w t
served-begun e past w t = ap (λ xs. is_served_by (get_or xs t None) w.serves t) (begun-by e past w.resvs)

-- ---- what is kept of a task

not-some : (o : Option ℕ) → not (is_some o) ≡ is_none o
not-some None = refl
not-some (Some x) = refl

and-four : (a b c d : Bool) → a && (b && (c && d)) ≡ (a && (b && c)) && d
and-four true true c d = refl
and-four true false c d = refl
and-four false b c d = refl

-- whether it stands
stands-kept : (g : Group) (past : Past) (f : Facts) → IsReachable g past → IsKept g past f.kept → KeepsGroupSems g past f.sems → AreWays g past f.sems.ways → IsPlayed g
    → (t : ℕ) → has t (tasks g) ≡ true
    → is_ready f.kept.clock (task_in g.setup.tasks t) (job_of f.kept t) && (not (is_some (awaits_of f.sems.table t)) && admits_in g.setup f.sems t) ≡ stands g t past
unfolding task
stands-kept g past f made kept sems ways played t h =
    let job = kept.jobs_are t h in
    let clock = kept.clock_is in
    let waits : not (is_some (awaits_of f.sems.table t)) ≡ is_none (awaits g t past) = ap not (waits-read g past f.kept kept played.valid made f.sems sems t h) ∙ not-some (awaits g t past) in
    let admitted = admitted-read g played.valid past made f.sems sems.locks ways t h in
    rw (clock, job, waits, admitted) (sym (stands-ready g past t))

-- its key, where it stands and is served
pub key-kept : (g : Group) (past : Past) (f : Facts) → IsReachable g past → IsKept g past f.kept → KeepsGroupSems g past f.sems → AreWays g past f.sems.ways → IsPlayed g
    → (served : ℕ → Bool) (t : ℕ) → has t (tasks g) ≡ true
    → key_where g.setup f.kept f.sems served t ≡ kept_key (λ u. effective_key g u past) (λ u. stands g u past && served u) t
key-kept g past f made kept sems ways played served t h =
    let r : Bool = is_ready f.kept.clock (task_in g.setup.tasks t) (job_of f.kept t) in
    let n : Bool = not (is_some (awaits_of f.sems.table t)) in
    ap (λ b. if b then Some (key_in f.sems t) else None) (and-four r n (admits_in g.setup f.sems t) (served t) ∙ ap (λ b. b && served t) (stands-kept g past f made kept sems ways played t h))
    ∙ ap (λ k. if stands g t past && served t then Some k else None) (sym (key-read g past f.kept kept played.valid made f.sems sems t h))

pub timer-kept : (g : Group) (past : Past) (k : Kept) → IsKept g past k → (t : ℕ) → has t (tasks g) ≡ true → timer_in g.setup k t ≡ timer_at g past t
unfolding task
timer-kept g past k kept t h = sym (timer_is_read g past k kept t h)

pub length-refreshed : (key : ℕ → Key) (test : ℕ → Bool) (us : List ℕ) (keys : List (Option Key)) → length (set_refreshed key test us keys) ≡ length keys
length-refreshed key test [] keys = refl
length-refreshed key test (u ∷ us) keys = length-refreshed key test us (set keys u (kept_key key test u)) ∙ length-set _ _ _

-- ---- the tasks of a cluster that stand and are served

-- where the tests agree on these tasks
pub holds-same : (ts : List ℕ) (key : ℕ → Key) (test test' : ℕ → Bool) (keys : List (Option Key)) → ((t : ℕ) → has t ts ≡ true → test t ≡ test' t)
    → HoldsJust ts key test keys → HoldsJust ts key test' keys
holds-same ts key test test' keys same holds = record { room = holds.room; is_in = λ t. holds.is_in t ∙ by_member t (has t ts) refl }
  where
    by_member : (t : ℕ) (b : Bool) → has t ts ≡ b → (if b && test t then Some (key t) else None) ≡ (if b && test' t then Some (key t) else None)
    by_member t true h = ap (λ c. if c then Some (key t) else None) (same t h)
    by_member t false h = refl

-- a task is eligible where it stands and is served by what is kept
pub eligible-served : (g : Group) → IsPlayed g → (past : Past) (w : GroupResvs) → KeepsResvs g past w → (t : ℕ) → has t (tasks g) ≡ true
    → eligible g t past ≡ stands g t past && is_served w t
unfolding eligible
eligible-served g played past w kept t h =
    let read = resvs_are_read g t past w played.valid kept h in
    ap (λ b. ready g t past && (is_none (awaits g t past) && b)) (and-turned (is_served_by_rules g g.setup.plugin t past) (is_admitted g g.setup.plugin t past) ∙ ap (λ b. is_admitted g g.setup.plugin t past && b) (sym read.served))
    ∙ and-four (ready g t past) (is_none (awaits g t past)) (is_admitted g g.setup.plugin t past) (is_served w t)

of_cluster-inside : (g : Group) (c : ℕ) (us : List ℕ) (t : ℕ) → has t (of_cluster g c us) ≡ true → has t (tasks_of g c) ≡ true
of_cluster-inside g c us t h = (both (has t us) (has t (tasks_of g c)) (sym (has-filter (λ u. has u (tasks_of g c)) t us) ∙ h)).1

of_cluster-outside : (g : Group) (c : ℕ) (us : List ℕ) (t : ℕ) → has t (tasks_of g c) ≡ true → has t (of_cluster g c us) ≡ false → has t us ≡ false
of_cluster-outside g c us t h k = by_case (has t us) refl
  where
    by_case : (b : Bool) → has t us ≡ b → b ≡ false
    by_case true e = let all : has t (of_cluster g c us) ≡ true = has-filter (λ u. has u (tasks_of g c)) t us ∙ rw (e, h) refl in cc
    by_case false e = refl

module _ (g : Group) (played : IsPlayed g) (e : Event) (past : Past) (us : List ℕ) (s : GroupState) (between : IsBetween g e past us s) where
  abbrev brought_state : GroupState
  brought_state = all_updated g.setup us s

  abbrev f : Facts
  f = s.core.facts

  abbrev w : GroupResvs
  w = between.before

  timers-settled : TimersAreKept g (e ∷ past) brought_state.timers
  timers-settled =
      subst (TimersAreKept g (e ∷ past))
      (sym (timers-brought g.setup us s ∙ renewed-same (timer_in g.setup f.kept) (timer_at g (e ∷ past)) us s.timers (λ u h. timer-kept g (e ∷ past) f.kept between.moved.kept u (between.inside u h))))
      between.timers_are

  -- who is served is who was before
  served-before : (t : ℕ) → is_served f.resvs t ≡ is_served w t
  served-before t = ap (λ v. is_served v t) between.moved.resvs_are ∙ served-begun e past w t

  cluster-ending : (c : ℕ) → HasClusterBetween g c e past s.clusters → HasClusterEnding g c (e ∷ past) w brought_state.clusters
  cluster-ending c was =
      let k : KeptCluster = was.cluster in
      let key : ℕ → Key = λ u. effective_key g u (e ∷ past) in
      let test : ℕ → Bool = λ u. stands g u (e ∷ past) && is_served w u in
      let keys : List (Option Key) = set_refreshed key test (of_cluster g c us) k.keys in
      let keys_same = keys-refreshed g c f.kept f.sems (is_served w) key test us k.keys (λ u h. (between.inside u h, key-between u (between.inside u h))) in
      let next : KeptCluster = record k { keys = keys } in
      let brought : cluster_at brought_state.clusters c ≡ Some next = cluster-brought g.setup us s (is_served w) served-before c k was.there ∙ ap (λ ks. let x : KeptCluster = record k { keys = ks } in Some x) keys_same in
      let were : HoldsStanding g c past w k.keys = holds-same (tasks_of g c) (λ u. effective_key g u past) (λ u. eligible g u past) (λ u. stands g u past && is_served w u) k.keys (λ t h. eligible-served g played past w between.moved.resvs_were t (tasks_of-home g c t h).0) was.is_between.keys_are in
      let agree : AgreeBut (of_cluster g c us) (tasks_of g c) (λ u. effective_key g u past) key (λ u. stands g u past && is_served w u) test = record {
        inside = of_cluster-inside g c us;
        tests = λ t h m. ap (λ b. b && is_served w t) (sym (alike c t h m).stands_same);
        keys = λ t h m x. sym (alike c t h m).key_same;
      } in
      record {
        cluster = next;
        there = brought;
        is_ending = record {
          cpus_are = was.is_between.cpus_are;
          first_is = was.is_between.first_is;
          room = length-refreshed key test (of_cluster g c us) k.keys ∙ was.is_between.room;
          keys_are = set_is_refreshed (of_cluster g c us) (tasks_of g c) (λ u. effective_key g u past) key (λ u. stands g u past && is_served w u) test k.keys agree were;
          runs_are = was.is_between.runs_are;
          links_become = rw was.is_between.links_are (sym (links-step g c e past));
        };
      }
    where
      alike : (c t : ℕ) → has t (tasks_of g c) ≡ true → has t (of_cluster g c us) ≡ false → IsAlike g t past (e ∷ past)
      alike c t h m = between.others t (tasks_of-home g c t h).0 (of_cluster-outside g c us t h m)

      key-between : (u : ℕ) → has u (tasks g) ≡ true → key_where g.setup f.kept f.sems (is_served w) u ≡ kept_key (λ v. effective_key g v (e ∷ past)) (λ v. stands g v (e ∷ past) && is_served w v) u
      key-between u h = key-kept g (e ∷ past) f between.moved.reachable between.moved.kept between.moved.sems_are between.moved.ways_are played (is_served w) u h

  told-of : AreToldOf g (λ t. ready_release g t past) (e ∷ past) us
  told-of = record { inside = between.inside; others = λ t h k. (between.others t h k).told_same }

  ends : (z : Facts) → z.kept ≡ brought_state.core.facts.kept → z.sems ≡ brought_state.core.facts.sems → IsSettled brought_state.core.facts.resvs z.resvs
      → HaveEnded g (e ∷ past) w z
  ends z kept sems settled =
      let all : brought_state.core.facts ≡ told_all g.setup us f = ap (λ (x : WithRoom). x.facts) (core-brought g.setup us s) in
      let k : z.kept ≡ f.kept = kept ∙ ap (λ (x : Facts). x.kept) all in
      let v : z.sems ≡ f.sems = sems ∙ ap (λ (x : Facts). x.sems) all in
      let end : IsSettled (told_all g.setup us f).resvs z.resvs = subst (λ (x : Facts). IsSettled x.resvs z.resvs) all settled in
      record {
        at = at-ended g played.valid e past w f between.moved us told-of z k v end;
        fit = fit-ended g played.valid e past w f between.moved us told-of z k v end (acts_left (e ∷ past)) (acts_left (e ∷ past)) between.fit;
        changed = changed-ended g played.valid e past w f between.moved us told-of z k v end;
      }

  -- once they were looked at
  pub brought : IsEnding g (e ∷ past) brought_state
  brought = record {
    few = between.few;
    before = w;
    core_ends = ends;
    timers_are = timers-settled;
    homes_are = rw (homes-brought g.setup us s) between.homes_are;
    clusters_are = λ c h. cluster-ending c (between.clusters_are c h);
  }

-- ---- the end

module _ (g : Group) (played : IsPlayed g) (past : Past) (s : GroupState) (ending : IsEnding g past s) (z : WithRoom) (kept : z.facts.kept ≡ s.core.facts.kept) (sems : z.facts.sems ≡ s.core.facts.sems)
    (settled : IsSettled s.core.facts.resvs z.facts.resvs) where
  abbrev settled_state : GroupState
  settled_state = record s { core = z }

  abbrev settled_resvs : GroupResvs
  settled_resvs = z.facts.resvs

  ended-core : HaveEnded g past ending.before z.facts
  ended-core = ending.core_ends z.facts kept sems settled

  -- what putting the changed clients where they stand rests on
  pub can-requeue : CanRequeueAll g.setup settled_resvs.changed settled_state
  can-requeue t k =
      let h : has t (tasks g) ≡ true = ended-core.changed.inside t k in
      let fit = ended-core.fit in
      let home_of : IsHomeTask g t = at_home g played.valid t h in
      let was : HasClusterEnding g (home g t) past ending.before s.clusters = ending.clusters_are (home g t) home_of.cluster_there in
      let there : HasTask s.clusters (home g t) t = (was.cluster, was.there, omega (arith, was.is_ending.room, home_of.high)) in
      record {
        task = task-of g played.valid t h (MOST_STEPS - acts_left past) z.facts.kept (omega arith) fit.read;
        has_base = has-base g played.valid t h z.facts.kept z.facts.sems fit.based;
        at_home = at-home-in g played.valid t h s there;
      }

  cluster-ended : (c : ℕ) → HasClusterEnding g c past ending.before s.clusters → HasClusterAt g c past (placed_all (all_requeued g.setup settled_resvs.changed settled_state)).clusters
  cluster-ended c was =
      let k : KeptCluster = was.cluster in
      let key : ℕ → Key = λ u. effective_key g u past in
      let test : ℕ → Bool = λ u. stands g u past && is_served settled_resvs u in
      let keys : List (Option Key) = set_refreshed key test (of_cluster g c settled_resvs.changed) k.keys in
      let keys_same = keys-refreshed g c z.facts.kept z.facts.sems (is_served settled_resvs) key test settled_resvs.changed k.keys
      (λ u h. let m : has u (tasks g) ≡ true = ended-core.changed.inside u h in
      (m, key-kept g past z.facts ended-core.at.reachable ended-core.at.kept ended-core.at.sems_are ended-core.at.ways_are played (is_served settled_resvs) u m)) in
      let next : KeptCluster = record k { keys = keys } in
      let requeued_row : cluster_at (all_requeued g.setup settled_resvs.changed settled_state).clusters c ≡ Some next = cluster-requeued g.setup settled_resvs.changed settled_state c k was.there ∙ ap (λ ks. let x : KeptCluster = record k { keys = ks } in Some x) keys_same in
      let agree : AgreeBut (of_cluster g c settled_resvs.changed) (tasks_of g c) key key (λ u. stands g u past && is_served ending.before u) test = record {
        inside = of_cluster-inside g c settled_resvs.changed;
        tests = λ t h m. ap (λ b. stands g t past && b) (sym (ended-core.changed.others t (tasks_of-home g c t h).0 (of_cluster-outside g c settled_resvs.changed t h m)));
        keys = λ t h m x. refl;
      } in
      let stand : HoldsStanding g c past settled_resvs keys = set_is_refreshed (of_cluster g c settled_resvs.changed) (tasks_of g c) key key (λ u. stands g u past && is_served ending.before u) test k.keys agree was.is_ending.keys_are in
      let holds : HoldsEligible g c past keys = holds-same (tasks_of g c) key test (λ u. eligible g u past) keys (λ t h. sym (eligible-served g played past settled_resvs ended-core.at.resvs_are t (tasks_of-home g c t h).0)) stand in
      record {
        cluster = relinked next;
        there = at-relinked (all_requeued g.setup settled_resvs.changed settled_state).clusters c ∙ ap (option_map relinked) requeued_row;
        is_at = record {
          cpus_are = was.is_ending.cpus_are;
          first_is = was.is_ending.first_is;
          room = length-refreshed key test (of_cluster g c settled_resvs.changed) k.keys ∙ was.is_ending.room;
          keys_are = holds;
          runs_are = was.is_ending.runs_are;
          links_are =
              let first : first_tasks k.cpus keys ≡ top g c past = ap (λ m. first_tasks m keys) was.is_ending.cpus_are ∙ first-top g c past keys holds in
              rw (first, was.is_ending.runs_are) was.is_ending.links_become;
        };
      }

  -- once the changed clients are where they stand, and the links placed
  pub ended : IsAt g past (placed_all (all_requeued g.setup settled_resvs.changed settled_state))
  ended =
      let only : OnlyClusters settled_state (all_requeued g.setup settled_resvs.changed settled_state) = others-requeued g.setup settled_resvs.changed settled_state in
      record {
        few = ending.few;
        core_at = rw only.core_same ended-core.at;
        core_fit = rw only.core_same ended-core.fit;
        timers_are = rw only.timers_same ending.timers_are;
        homes_are = rw only.homes_same ending.homes_are;
        clusters_are = λ c h. cluster-ended c (ending.clusters_are c h);
      }

-- the table of keys holds those of the group's tasks
pub keys-held : (g : Group) → IsPlayed g → (past : Past) (s : GroupState) → IsAt g past s → HoldsKeys g past s.core.facts.sems.waits
keys-held g played past s at = record {
  told = λ t h. has-base g played.valid t h s.core.facts.kept s.core.facts.sems at.core_fit.based;
  keys = λ t h. sym (key-read g past s.core.facts.kept at.core_at.kept played.valid at.core_at.reachable s.core.facts.sems at.core_at.sems_are t h);
}
