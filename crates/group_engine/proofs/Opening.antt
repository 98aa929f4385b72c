-- The state at opening.
use Rattle.std.proofs.Common.{◌≡◌, ℕ, zero, suc, ◌+◌, ◌<◌, Bool, true, false, ◌&&◌, List, [], ◌∷◌, length, map, replicate, refl, sym, ap, ◌∙◌, subst, arith}
use Rattle.std.specs.Prelude.{Option, None, Some, if◌then◌else◌}
use Rattle.rt_base.specs.declared.TheConstants.{MOST_STEPS}
use Rattle.rt_rules.specs.declared.Key.{Key}
use Rattle.rt_rules.specs.Numbers.{has, numbers_from}
use Rattle.rt_rules.specs.Placing.{placed}
use Rattle.rt_rules.proofs.BoolLaws.{both}
use Rattle.rt_rules.proofs.MemberLaws.{has-filter}
use Rattle.rt_rules.proofs.NumberLaws.{numbers_from-below}
use Rattle.rt_model.specs.EffectiveKeys.{effective_key}
use Rattle.rt_model.specs.Group.{Group, clusters, cpus, first_cpu, home, in_group, processors, tasks, tasks_of}
use Rattle.rt_model.specs.Links.{links, runs_of}
use Rattle.rt_model.specs.Reachable.{opened}
use Rattle.rt_model.specs.Runs.{runs}
use Rattle.rt_model.specs.Tops.{top}
use Rattle.rt_laws.proofs.GroupLaws.{tasks_of-home}
use Rattle.rt_plays.specs.Limits.{IsInLimits}
use Rattle.rt_plays.specs.AtHome.{IsHomeTask}
use Rattle.rt_plays.proofs.AtHomeLaws.{tasks_are_at_home}
use Rattle.rt_plays.proofs.SetLimits.{sets_are_in_limits}
use Rattle.ready_queue.specs.ReadySet.{HoldsJust, set_refreshed}
use Rattle.ready_queue.specs.Refreshed.{AgreeBut}
use Rattle.ready_queue.proofs.ReadySets.{set_is_refreshed}
use Rattle.rt_changes.specs.ClusterMoves.{of_cluster}
use Rattle.group_jobs.specs.Timers.{TimersAreKept, timer_at}
use Rattle.group_jobs.proofs.KeptMoves.{length-replicated, replicated}
use Rattle.group_jobs.proofs.TimerMoves.{timers_at_opening}
use Rattle.group_jobs.proofs.WayMoves.{ways_at_opening}
use Rattle.cluster_table.specs.Clusters.{KeptCluster, fresh, homes_from, rows_from}
use Rattle.cluster_table.specs.Table.{HasTask, cluster_at}
use Rattle.cluster_table.proofs.RowLaws.{home-at, length-homes, processor-low, row-at}
use Rattle.group_sems.specs.GroupSems.{GroupSems}
use Rattle.group_resvs.specs.GroupResvs.{GroupResvs, IsSettled, is_served}
use Rattle.group_resvs.specs.Laws.{AreToldOf}
use Rattle.group_resvs.specs.Laws as laws
use Rattle.resv_core.specs.Kept.{ready_release}
use Rattle.group_core.specs.Facts.{AreOpened, Facts, IsUntold, WithRoom, at_opening, resvs_at_opening, told_all}
use Rattle.group_core.specs.Reads.{timer_in}
use Rattle.group_core.proofs.Counting.{read-opened}
use Rattle.group_core.proofs.Openings.{at-first, based_first, fit-first, kept_first, resvs_first, sems_first}
use Rattle.group_engine.specs.declared.state.GroupState.{GroupState}
use Rattle.group_engine.specs.Ending.{HasClusterEnding, HaveEnded, HoldsStanding, IsEnding, stands}
use Rattle.group_engine.specs.Moments.{IsPlayed}
use Rattle.group_engine.specs.State.{acts_left}
use Rattle.group_engine.specs.inside.Touching.{AreNumbered, all_updated}
use Rattle.group_engine.proofs.Bounding.{can_update, number-is}
use Rattle.group_engine.proofs.UpdateLaws.{cluster-brought, core-brought, homes-brought, keys-refreshed, renewed-same, served-told_each, timers-brought}
use Rattle.group_engine.proofs.Settling.{holds-same, key-kept, length-refreshed, timer-kept}

-- before any task was looked at
abbrev pub empty_state : Group → WithRoom → GroupState
empty_state g x = record {
  core = x;
  timers = replicate (length g.setup.tasks + 1) None;
  clusters = record { homes = homes_from 0 g.setup.clusters; clusters = rows_from g.number (length g.setup.tasks + 1) 0 g.setup.clusters };
}

no-runs : (a n : ℕ) → map (λ q. runs q []) (numbers_from a n) ≡ replicate n None
unfolding runs
no-runs a zero = refl
no-runs a (suc n) = ap (λ os. None ∷ os) (no-runs (suc a) n)

runs_of-none : (g : Group) (c : ℕ) → runs_of g c [] ≡ replicate (cpus g c) None
unfolding runs_of processors
runs_of-none g c = no-runs (first_cpu g c) (cpus g c)

links-first : (g : Group) (c : ℕ) → links g c [] ≡ placed (top g c []) (runs_of g c []) (runs_of g c [])
unfolding links
links-first g c = refl

cluster-row : (g : Group) (c : ℕ) → has c (clusters g) ≡ true → (c < length g.setup.clusters) × (in_group g c ≡ true)
unfolding clusters
cluster-row g c h =
    let parts = both (has c (numbers_from 0 (length g.setup.clusters))) (in_group g c) (rw has-filter at h) in
    let low : c < 0 + length g.setup.clusters = numbers_from-below c 0 (length g.setup.clusters) parts.0 in
    (omega (arith, low), parts.1)

module _ (g : Group) (played : IsPlayed g) (room : ℕ) (v : GroupSems) (new : IsUntold g v) where
  abbrev f : Facts
  f = at_opening g v

  abbrev s0 : GroupState
  s0 = empty_state g (record { facts = f; room = room })

  abbrev w : GroupResvs
  w = laws.at_opening g (tasks g)

  limits : IsInLimits g.setup
  limits = sets_are_in_limits g.setup played.valid

  row : (c : ℕ) → has c (clusters g) ≡ true → cluster_at s0.clusters c ≡ Some (fresh (first_cpu g c) (cpus g c) (length g.setup.tasks + 1))
  row c h = let p = cluster-row g c h in row-at g (length g.setup.tasks + 1) c p.0 ∙ rw p.1 refl

  can-opened : AreNumbered g.setup (tasks g) s0
  can-opened t h =
      let home_of : IsHomeTask g t = tasks_are_at_home g t played.valid h in
      let n : length (replicate {A = Option ℕ} (length g.setup.tasks + 1) None) ≡ length g.setup.tasks + 1 = length-replicated (length g.setup.tasks + 1) None in
      let m : length (replicate {A = Option Key} (length g.setup.tasks + 1) None) ≡ length g.setup.tasks + 1 = length-replicated (length g.setup.tasks + 1) None in
      let there : HasTask s0.clusters (home g t) t = (fresh (first_cpu g (home g t)) (cpus g (home g t)) (length g.setup.tasks + 1), row (home g t) home_of.cluster_there, omega (arith, home_of.high, m)) in
      (can_update g played.valid t h MOST_STEPS s0 (omega arith) (read-opened MOST_STEPS g.setup limits) (based_first g played.valid v new) (omega (arith, home_of.high, n)) there, number-is g played.valid t h)

  -- the tasks that stand and are served before the reservations are settled
  abbrev test : ℕ → Bool
  test u = stands g u [] && is_served (resvs_at_opening g) u

  holds : (c : ℕ) → HoldsStanding g c [] (resvs_at_opening g) (set_refreshed (λ u. effective_key g u []) test (of_cluster g c (tasks g)) (replicate (length g.setup.tasks + 1) None))
  holds c = set_is_refreshed (of_cluster g c (tasks g)) (tasks_of g c) (λ u. effective_key g u []) (λ u. effective_key g u []) (λ u. false) test (replicate (length g.setup.tasks + 1) None) agree nothing
    where
      agree : AgreeBut (of_cluster g c (tasks g)) (tasks_of g c) (λ u. effective_key g u []) (λ u. effective_key g u []) (λ u. false) test
      agree = record {
        inside = λ t h. (both (has t (tasks g)) (has t (tasks_of g c)) (rw has-filter at h)).1;
        tests = λ t h k. absurd (let all : has t (of_cluster g c (tasks g)) ≡ true = rw (has-filter, (tasks_of-home g c t h).0, h) refl in cc);
        keys = λ t h k e. refl;
      }

      nothing : HoldsJust (tasks_of g c) (λ u. effective_key g u []) (λ u. false) (replicate (length g.setup.tasks + 1) None)
      nothing = record {
        room = λ t h.
            let home_of : IsHomeTask g t = tasks_are_at_home g t played.valid (tasks_of-home g c t h).0 in
            let m : length (replicate {A = Option Key} (length g.setup.tasks + 1) None) ≡ length g.setup.tasks + 1 = length-replicated (length g.setup.tasks + 1) None in
            omega (arith, home_of.high, m);
        is_in = λ t. replicated (length g.setup.tasks + 1) t None ∙ either-way (has t (tasks_of g c)) (effective_key g t []);
      }
        where
          either-way : (b : Bool) (k : Key) → None ≡ (if b && false then Some k else None)
          either-way true k = refl
          either-way false k = refl

  abbrev opened_state : GroupState
  opened_state = all_updated g.setup (tasks g) s0

  -- being told leaves who is served
  served-told : (t : ℕ) → is_served w t ≡ is_served (resvs_at_opening g) t
  served-told t = served-told_each (λ u. ready_release g u []) (tasks g) (resvs_at_opening g) t

  cluster-opened : (c : ℕ) → has c (clusters g) ≡ true → HasClusterEnding g c [] w opened_state.clusters
  cluster-opened c h =
      let k : KeptCluster = fresh (first_cpu g c) (cpus g c) (length g.setup.tasks + 1) in
      let keys : List (Option Key) = set_refreshed (λ u. effective_key g u []) test (of_cluster g c (tasks g)) k.keys in
      let keys_same = keys-refreshed g c f.kept f.sems (is_served f.resvs) (λ u. effective_key g u []) test (tasks g) k.keys
      (λ u m. (m, key-kept g [] f opened (kept_first g played.valid v new) (sems_first g played.valid v new) (rw new.ways (ways_at_opening g)) played (is_served f.resvs) u m)) in
      let next : KeptCluster = record k { keys = keys } in
      let brought : cluster_at opened_state.clusters c ≡ Some next = cluster-brought g.setup (tasks g) s0 (is_served f.resvs) (λ u. refl) c k (row c h) ∙ ap (λ ks. let x : KeptCluster = record k { keys = ks } in Some x) keys_same in
      let m : length (replicate {A = Option Key} (length g.setup.tasks + 1) None) ≡ length g.setup.tasks + 1 = length-replicated (length g.setup.tasks + 1) None in
      record {
        cluster = next;
        there = brought;
        is_ending = record {
          cpus_are = refl;
          first_is = refl;
          room = length-refreshed (λ u. effective_key g u []) test (of_cluster g c (tasks g)) k.keys ∙ m;
          keys_are = holds-same (tasks_of g c) (λ u. effective_key g u []) test (λ u. stands g u [] && is_served w u) keys (λ t n. ap (λ b. stands g t [] && b) (sym (served-told t))) (holds c);
          runs_are = sym (runs_of-none g c);
          links_become = rw (links-first g c, runs_of-none g c) refl;
        };
      }

  told-of : AreToldOf g (λ t. None) [] (tasks g)
  told-of = record { inside = λ t h. h; others = λ t h k. absurd (let no : true ≡ false = sym h ∙ k in cc) }

  ends : (z : Facts) → z.kept ≡ opened_state.core.facts.kept → z.sems ≡ opened_state.core.facts.sems → IsSettled opened_state.core.facts.resvs z.resvs → HaveEnded g [] w z
  ends z kept sems settled =
      let all : opened_state.core.facts ≡ told_all g.setup (tasks g) f = ap (λ (x : WithRoom). x.facts) (core-brought g.setup (tasks g) s0) in
      let k : z.kept ≡ f.kept = kept ∙ ap (λ (x : Facts). x.kept) all in
      let u : z.sems ≡ f.sems = sems ∙ ap (λ (x : Facts). x.sems) all in
      let end : IsSettled (told_all g.setup (tasks g) f).resvs z.resvs = subst (λ (x : Facts). IsSettled x.resvs z.resvs) all settled in
      record {
        at = at-first g played.valid v new (tasks g) told-of z k u end;
        fit = fit-first g played.valid v new (tasks g) told-of z k u end (acts_left []) (omega arith);
        changed = (resvs_first g played.valid v new (tasks g) told-of z k u end).1;
      }

  ending-opened : IsEnding g [] opened_state
  ending-opened = record {
    few = omega arith;
    before = w;
    core_ends = ends;
    timers_are =
        subst (TimersAreKept g [])
        (sym (timers-brought g.setup (tasks g) s0 ∙ renewed-same (timer_in g.setup f.kept) (timer_at g []) (tasks g) s0.timers (λ u h. timer-kept g [] f.kept (kept_first g played.valid v new) u h)))
        (timers_at_opening g (length g.setup.tasks + 1) (omega arith));
    homes_are = rw (homes-brought g.setup (tasks g) s0) (record {
      there = λ q h. omega (arith, processor-low g q h, length-homes 0 g.setup.clusters);
      are = λ q h. home-at g q (processor-low g q h);
    });
    clusters_are = cluster-opened;
  }

-- so it is of what was opened
module _ (g : Group) (played : IsPlayed g) (room : ℕ) (x : WithRoom) (new : AreOpened g room x) where
  pub can-all : AreNumbered g.setup (tasks g) (empty_state g x)
  can-all = subst (λ (y : Facts). AreNumbered g.setup (tasks g) (empty_state g (record { facts = y; room = x.room }))) (sym new.opened) (can-opened g played x.room new.sems new.untold)

  pub opened-at : IsEnding g [] (all_updated g.setup (tasks g) (empty_state g x))
  opened-at =
      subst (λ (y : Facts). IsEnding g [] (all_updated g.setup (tasks g) (empty_state g (record { facts = y; room = x.room })))) (sym new.opened)
      (ending-opened g played x.room new.sems new.untold)
