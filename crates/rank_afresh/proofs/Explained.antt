-- What explains a state is what the definitions say of the past.
use Rattle.std.proofs.Common.{◌≡◌, ◌∙◌, ℕ, ◌^◌, ◌<◌, ◌≤◌, Bool, true, false, length, refl, sym, ap, subst, arith}
use Rattle.std.specs.Prelude.{Option, None, Some, IfNone, IfSome, unwrap_or}
use Rattle.rt_base.specs.TaskNos.{number_of_task}
use Rattle.rt_base.specs.declared.TaskNo.{TaskNo}
use Rattle.rt_task.specs.RuleWords.{is_p_res}
use Rattle.rt_task.specs.Validity.{IsValid}
use Rattle.rt_task.specs.declared.Parts.{Parts}
use Rattle.rt_rules.specs.Numbers.{has}
use Rattle.rt_model.specs.EffectiveKeys.{waits_for}
use Rattle.rt_model.specs.Group.{Group, clusters, in_group, resv, sems, task, tasks}
use Rattle.rt_model.specs.Holders.{holder}
use Rattle.rt_model.specs.Jobs.{used}
use Rattle.rt_model.specs.Past.{Past}
use Rattle.rt_model.specs.Releases.{release}
use Rattle.rt_model.specs.Reservations.{front, last}
use Rattle.rt_model.specs.Sleep.{wakes}
use Rattle.rt_model.specs.Tops.{eligible, ranking}
use Rattle.rt_plays.proofs.Unreserved.{no_resvs}
use Rattle.resv_core.specs.Served.{IsFront, IsResv, has_ready, last_of, server}
use Rattle.resv_core.specs.Kept.{IsShown}
use Rattle.resv_core.proofs.ShownLaws.{state_is_shown}
use Rattle.sem_table.specs.Told.{state_of, waits_for_of}
use Rattle.sem_table.proofs.Waits.{tells_waits}
use Rattle.group_jobs.specs.Facts.{JobFacts, job_facts}
use Rattle.group_jobs.specs.Kept.{job_of}
use Rattle.group_jobs.specs.Words.{AreRead, release_of}
use Rattle.group_jobs.proofs.KeptMoves.{words_of_kept}
use Rattle.group_jobs.specs.GroupJobs.{task_in}
use Rattle.group_jobs.proofs.ReleaseBounds.{release-low}
use Rattle.group_sems.proofs.ReadRefusals.{holder_is_read}
use Rattle.group_core.specs.Facts as core
use Rattle.group_core.specs.Reads.{is_candidate}
use Rattle.group_core.proofs.ModelWords.{eligible-read, resvs-read}
use Rattle.rank_afresh.specs.Facts.{cluster_at, core_of}
use Rattle.rank_afresh.specs.Standing.{IsAt, IsFit, Standing, group_of}
use Rattle.rank_afresh.proofs.SetLists.{cluster-inside}
use Rattle.rank_afresh.proofs.Shown.{resv-here, task-of}

-- ---- at a past

module _ (v : Standing) (room : ℕ) (fit : IsFit (group_of v) v.facts room v.spare) (f : core.Facts) (same : f ≡ core_of v.facts) where
  abbrev g : Group
  g = group_of v

  -- a release is far below the limit of its type
  some-low : (o : Option ℕ) → unwrap_or o 0 < 2 ^ 62 → IfSome o (λ r. r < 2 ^ 62)
  some-low None h = tt
  some-low (Some r) h = h

  pub release-bound : (t : ℕ) → has t (tasks g) ≡ true → (p : Parts) → p ≡ v.setup → (o : Option ℕ) → o ≡ release_of (task_in p.tasks t) (job_of f.kept t) → IfSome o (λ r. r < 2 ^ 62)
  release-bound t there p is o told =
      some-low o (subst (λ (x : Option ℕ). unwrap_or x 0 < 2 ^ 62) (sym told) (release-low f.kept p.tasks t (task-of v room fit f same t there p is)))

  module _ (t : ℕ) (there : has t (tasks g) ≡ true) (past : Past) (at : IsAt v past) where
    words : AreRead g t past v.facts.kept.clock (job_of v.facts.kept t)
    words = words_of_kept g past v.facts.kept at.core_at.kept t there

    job : job_of f.kept t ≡ job_facts t past
    job = rw same (at.core_at.kept.jobs_are t there)

    pub eligible-shown : (p : Parts) → p ≡ v.setup → (b : Bool) → b ≡ is_candidate p f.kept f.sems f.resvs t → b ≡ eligible g t past
    eligible-shown p is b told =
        told ∙ rw (same, is) (sym (eligible-read g past v.facts.kept at.core_at.kept fit.core_fit.valid at.core_at.reachable v.facts.sems at.core_at.sems_are at.core_at.ways_are v.facts.resvs (resvs-read g past v.facts.resvs fit.core_fit.valid at.core_at.resvs_are) t there))

    pub release-shown : (p : Parts) → p ≡ v.setup → (o : Option ℕ) → o ≡ release_of (task_in p.tasks t) (job_of f.kept t) → o ≡ release g t past
    unfolding task
    release-shown p is o told = told ∙ rw (same, is) (sym words.release_is)

    pub used-shown : (n : ℕ) → n ≡ (job_of f.kept t).used → n ≡ used t past
    used-shown n told = told ∙ ap (λ (j : JobFacts). j.used) job

    pub wakes-shown : (n : ℕ) → n ≡ (job_of f.kept t).wakes → n ≡ wakes t past
    wakes-shown n told = told ∙ ap (λ (j : JobFacts). j.wakes) job

    pub waits_for-shown : (o : Option ℕ) → o ≡ waits_for_of f.sems.table t → o ≡ waits_for g t past
    waits_for-shown o told =
        told ∙ rw same (tells_waits g past fit.core_fit.valid at.core_at.reachable v.facts.sems.table t there at.core_at.sems_are.locks.sems_are at.core_at.sems_are.locks.rows_are)

  pub holder-shown : (s : ℕ) → has s (sems g) ≡ true → (past : Past) → IsAt v past → (o : Option ℕ) → o ≡ (state_of f.sems.table s).holder → o ≡ holder g s past
  holder-shown s known past at o told =
      told ∙ rw same (holder_is_read g past fit.core_fit.valid at.core_at.reachable v.facts.sems s known at.core_at.sems_are.locks)

-- ---- the eligible tasks of a cluster

module _ (v : Standing) (room : ℕ) (fit : IsFit (group_of v) v.facts room v.spare) (c : ℕ) (there : has c (clusters (group_of v)) ≡ true) where
  pub cluster-there : c < length v.facts.clusters
  cluster-there = let i = cluster-inside (group_of v) c there in let n = fit.all_clusters in omega (arith, i, n)

  pub ranking-shown : (past : Past) → IsAt v past → (cluster_at v.facts.clusters c).ranked ≡ ranking (group_of v) c past
  ranking-shown past at = (at.ranked_are c there).ranked_are

-- ---- of a reservation

module _ (v : Standing) (valid : IsValid v.setup) (f : core.Facts) (same : f ≡ core_of v.facts) (r : ℕ) (low : 1 ≤ r) (high : r ≤ length v.setup.resvs) (here : in_group (group_of v) (resv (group_of v) r).cluster.0 ≡ true) (past : Past) (at : IsAt v past) where
  reserved : (b : Bool) → is_p_res v.setup.plugin ≡ b → IsShown (group_of v) r past (server v.facts.resvs.resvs r)
  reserved true is =
      let are = at.core_at.resvs_are.reserved is in
      let there : IsResv v.facts.resvs.resvs r = record { low = low; high = omega (arith, high, are.serving.numbers) } in
      state_is_shown (group_of v) r past (server v.facts.resvs.resvs r) (are.serving.each r there (resv-here (group_of v) valid r low high here))
  reserved false is =
      let none : length v.setup.resvs ≡ 0 = ap length (no_resvs v.setup valid is) in
      absurd (omega (arith, low, high, none))

  shown : IsShown (group_of v) r past (server v.facts.resvs.resvs r)
  shown = reserved (is_p_res v.setup.plugin) refl

  pub last-shown : (o : Option ℕ) → o ≡ last_of (server f.resvs.resvs r) → o ≡ last (group_of v) r past
  last-shown o told = told ∙ rw same shown.last_is

  pub front-shown : (o : Option TaskNo) → IfSome o (λ t. IsFront (server f.resvs.resvs r).releases t.0) → IfNone o (has_ready (server f.resvs.resvs r).releases ≡ false) → number_of_task o ≡ front (group_of v) r past
  front-shown None some none = sym (shown.no_front (rw same at none))
  front-shown (Some t) some none = sym (shown.front_is t.0 (subst (λ (x : core.Facts). IsFront (server x.resvs.resvs r).releases t.0) same some))
