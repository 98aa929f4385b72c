-- What is shown of tasks and reservations is what the definitions say of the past.
use Rattle.std.proofs.Common.{◌≡◌, ◌∙◌, ℕ, zero, suc, ◌-◌, ◌<◌, ◌≤◌, Bool, true, false, List, [], ◌∷◌, ◌&&◌, length, refl, sym, ap, subst, arith, ltb-true, leb-true, get_or}
use Rattle.std.specs.Prelude.{Some, filter, nat_le, nat_lt, slice_get, slice_index_or, ◌==◌}
use Rattle.std.proofs.lemmas.List.{get_or-map, length-map}
use Rattle.rt_base.specs.declared.TheConstants.{MOST_CLUSTERS, MOST_CPUS, MOST_RESVS, MOST_SEMS, MOST_STEPS, MOST_TASKS}
use Rattle.rt_task.specs.Draft.{draft_cluster, draft_of, draft_resv}
use Rattle.rt_task.specs.Lookups.{cpus as cpus_of_set}
use Rattle.rt_task.specs.RangeRules.{resv_range}
use Rattle.rt_task.specs.RuleWords.{is_p_res, is_prio, is_span, within}
use Rattle.rt_task.specs.SlotRules.{slots_in_range}
use Rattle.rt_task.specs.SizeRules.{horizon_fits, whole_size}
use Rattle.rt_task.specs.Validity.{IsValid}
use Rattle.rt_task.specs.declared.Cluster.{Cluster}
use Rattle.rt_task.specs.declared.Parts.{Parts}
use Rattle.rt_task.specs.declared.draft.Draft.{Draft}
use Rattle.rt_task.specs.declared.draft.DraftResv.{DraftResv}
use Rattle.rt_rules.specs.declared.Key.{Key}
use Rattle.rt_rules.specs.Numbers.{has, is, is_empty, numbers_from}
use Rattle.rt_model.specs.BaseKeys.{base_key}
use Rattle.rt_model.specs.EffectiveKeys.{effective_key}
use Rattle.rt_model.specs.Group.{Group, task, cluster, in_group, no_cluster, no_resv, resv, sems, tasks}
use Rattle.rt_model.specs.Holders.{holder, holds}
use Rattle.rt_model.specs.Jobs.{done}
use Rattle.rt_model.specs.NonPreemptive.{non_preemptive}
use Rattle.rt_model.specs.Past.{Past}
use Rattle.rt_model.specs.Releases.{exists}
use Rattle.rt_model.specs.Reservations.{left}
use Rattle.rt_model.specs.Sleep.{sleeps}
use Rattle.rt_laws.proofs.ValidSets.{keeps_rows}
use Rattle.rt_changes.proofs.Lists.{filter-same}
use Rattle.rt_plays.proofs.Unreserved.{no_resvs}
use Rattle.rt_plays.proofs.ValidRows.{passes_rows}
use Rattle.resv_core.specs.Served.{IsResv, is_cluster_here, is_here, left_of, server}
use Rattle.resv_core.proofs.ShownLaws.{state_is_shown}
use Rattle.sem_table.specs.Told.{held_of, state_of}
use Rattle.group_jobs.specs.Facts.{JobFacts, job_facts}
use Rattle.group_jobs.specs.Kept.{job_of}
use Rattle.group_jobs.specs.Words.{AreRead, is_asleep, is_there}
use Rattle.group_jobs.proofs.KeptMoves.{task-range, words_of_kept}
use Rattle.group_jobs.specs.GroupJobs.{IsTaskOf, task_in}
use Rattle.group_sems.specs.Telling.{HasBase}
use Rattle.prio_inherit.specs.Waits as kept_keys
use Rattle.group_sems.proofs.Reading.{holding_is_read}
use Rattle.group_sems.proofs.ReadRefusals.{holder_is_read}
use Rattle.group_core.specs.Facts as core
use Rattle.group_core.specs.Reads.{CanRead, base_in}
use Rattle.group_core.proofs.Bases.{have-bases}
use Rattle.group_core.proofs.Counting.{read-more}
use Rattle.group_core.proofs.ModelWords.{base-read, key-read}
use Rattle.group_core.proofs.Reading.{is-task}
use Rattle.rank_afresh.specs.Facts.{core_of}
use Rattle.rank_afresh.specs.Standing.{IsAt, IsFit, Standing, group_of}

-- ---- of a task

module _ (v : Standing) (room : ℕ) (fit : IsFit (group_of v) v.facts room v.spare) (f : core.Facts) (same : f ≡ core_of v.facts) (t : ℕ) (there : has t (tasks (group_of v)) ≡ true) where
  abbrev g : Group
  g = group_of v

  can_read : CanRead MOST_STEPS v.setup v.facts.kept
  can_read = read-more (MOST_STEPS - v.spare) MOST_STEPS v.setup v.facts.kept (omega arith) fit.core_fit.read

  pub reads : (p : Parts) → p ≡ v.setup → CanRead MOST_STEPS p f.kept
  reads p is = rw (is, same) can_read

  pub low : 1 ≤ t
  low = (task-range g t there).0

  pub high : (p : Parts) → p ≡ v.setup → t ≤ length p.tasks
  high p is = rw is (task-range g t there).1

  pub task-of : (p : Parts) → p ≡ v.setup → IsTaskOf f.kept p.tasks t
  task-of p is = is-task MOST_STEPS p f.kept (reads p is) t low (high p is) (omega arith) p.tasks refl

  pub in-jobs : t ≤ length f.kept.jobs
  in-jobs = let n = task-of v.setup refl in n.high

  pub done-few : (n : ℕ) → n ≡ (job_of f.kept t).done → n ≤ MOST_STEPS
  done-few n told = let of = task-of v.setup refl in let counts = of.bounded.counts in omega (arith, told, counts)

  pub has-base : HasBase f.sems.waits.bases t
  has-base = rw same (have-bases v.setup v.facts.kept v.facts.sems fit.core_fit.based t low (high v.setup refl))

  module _ (past : Past) (at : IsAt v past) where
    words : AreRead g t past v.facts.kept.clock (job_of v.facts.kept t)
    words = words_of_kept g past v.facts.kept at.core_at.kept t there

    job : job_of f.kept t ≡ job_facts t past
    job = rw same (at.core_at.kept.jobs_are t there)

    pub exists-shown : (p : Parts) → p ≡ v.setup → (b : Bool) → b ≡ is_there f.kept.clock (task_in p.tasks t) (job_of f.kept t) → b ≡ exists g t past
    unfolding task
    exists-shown p is b told = told ∙ rw (same, is) (sym words.there_is)

    pub sleeps-shown : (b : Bool) → b ≡ is_asleep f.kept.clock (job_of f.kept t) → b ≡ sleeps t past
    sleeps-shown b told = told ∙ rw same (sym words.asleep_is)

    pub np-shown : (b : Bool) → b ≡ (job_of f.kept t).np → b ≡ non_preemptive t past
    np-shown b told = told ∙ ap (λ (j : JobFacts). j.np) job

    pub done-shown : (n : ℕ) → n ≡ (job_of f.kept t).done → n ≡ done t past
    done-shown n told = told ∙ ap (λ (j : JobFacts). j.done) job

    pub base-shown : (p : Parts) → p ≡ v.setup → (key : Key) → key ≡ base_in p f.kept t → key ≡ base_key g t past
    base-shown p is key told = told ∙ rw (is, same) (sym (base-read g past v.facts.kept at.core_at.kept t there))

    pub key-shown : (key : Key) → key ≡ kept_keys.effective_key f.sems.waits t → key ≡ effective_key g t past
    key-shown key told = told ∙ rw same (sym (key-read g past v.facts.kept at.core_at.kept fit.core_fit.valid at.core_at.reachable v.facts.sems at.core_at.sems_are t there))

    -- the semaphores that it holds
    empty-is : (xs : List ℕ) → is_empty xs ≡ true → xs ≡ []
    empty-is [] h = refl
    empty-is (x ∷ xs) h = cc

    pub none-held : (b : Bool) → b ≡ true → b ≡ (held_of f.sems.table t == 0) → holds g t past ≡ []
    none-held b sure told =
        let read : (held_of v.facts.sems.table t == 0) ≡ is_empty (holds g t past) = (holding_is_read g past fit.core_fit.valid at.core_at.reachable v.facts.sems t there at.core_at.sems_are.locks).0 in
        let none : (held_of f.sems.table t == 0) ≡ true = sym told ∙ sure in
        empty-is (holds g t past) (sym (subst (λ (x : core.Facts). (held_of x.sems.table t == 0) ≡ is_empty (holds g t past)) (sym same) read) ∙ none)

    pub held-shown : (n : ℕ) → n ≡ length v.setup.sems → filter (λ s. is t (state_of f.sems.table s).holder) (numbers_from 1 n) ≡ holds g t past
    unfolding holds sems
    held-shown n all =
        ap (λ m. filter (λ s. is t (state_of f.sems.table s).holder) (numbers_from 1 m)) all
        ∙ filter-same (λ s. is t (state_of f.sems.table s).holder) (λ s. is t (holder g s past)) (numbers_from 1 (length v.setup.sems))
        (λ s known. rw same (ap (is t) (holder_is_read g past fit.core_fit.valid at.core_at.reachable v.facts.sems s known at.core_at.sems_are.locks)))

-- ---- the semaphores of a set are few

fourth : (a b c d e : Bool) → a && (b && (c && (d && e))) ≡ true → d ≡ true
fourth true true true true e h = refl
fourth true true true false e h = cc
fourth true true false d e h = cc
fourth true false c d e h = cc
fourth false b c d e h = cc

pub few-sems : (p : Parts) → IsValid p → length p.sems ≤ MOST_SEMS
unfolding whole_size
few-sems p valid =
    let d : Draft = draft_of p in
    leb-true (length p.sems) MOST_SEMS
    (fourth (nat_le (length d.clusters) MOST_CLUSTERS) (nat_le (cpus_of_set d) MOST_CPUS) (nat_le (length d.tasks) MOST_TASKS) (nat_le (length p.sems) MOST_SEMS)
    (nat_le (length d.resvs) MOST_RESVS && horizon_fits d d.drive) (passes_rows p valid).size)

-- ---- of a reservation

cluster-low : (p : Parts) → IsValid p → (i : ℕ) → i < length p.resvs → (slice_index_or p.resvs i no_resv).cluster.0 < length p.clusters
unfolding resv_range
cluster-low p valid i inside =
    let k = (keeps_rows p valid).resv i (draft_resv no_resv) (rw (length-map p.resvs draft_resv) inside) in
    let x : DraftResv = slice_index_or (draft_of p).resvs i (draft_resv no_resv) in
    let is : x.cluster ≡ (slice_index_or p.resvs i no_resv).cluster.0 = ap (λ (d : DraftResv). d.cluster) (get_or-map draft_resv p.resvs i no_resv (draft_resv no_resv) inside) in
    let low : nat_lt x.cluster (length (draft_of p).clusters) ≡ true =
    fourth (is_span x.period) (within 1 x.period x.budget) (is_prio x.prio) (nat_lt x.cluster (length (draft_of p).clusters)) (slots_in_range x.kind x.period x.budget x.slots) k.keeps in
    let below = ltb-true x.cluster (length (draft_of p).clusters) low in
    omega (arith, below, is, length-map p.clusters draft_cluster)

cluster-here : (cs : List Cluster) (c n : ℕ) → c < length cs → (get_or cs c no_cluster).group.0 == n ≡ true → (k : Cluster) × (slice_get cs c ≡ Some k) × (k.group.0 == n ≡ true)
cluster-here [] c n low h = absurd (omega arith)
cluster-here (k ∷ ks) zero n low h = (k, refl, h)
cluster-here (k ∷ ks) (suc c) n low h = cluster-here ks c n (omega arith) h

pub resv-here : (g : Group) → IsValid g.setup → (r : ℕ) → 1 ≤ r → r ≤ length g.setup.resvs → in_group g (resv g r).cluster.0 ≡ true → is_here g.setup g.number (resv g r) ≡ true
unfolding in_group cluster resv
resv-here g valid r low high inside =
    let k = cluster-here g.setup.clusters (get_or g.setup.resvs (r - 1) no_resv).cluster.0 g.number (cluster-low g.setup valid (r - 1) (omega arith)) inside in
    ap (is_cluster_here g.setup g.number) k.1 ∙ k.2

module _ (v : Standing) (valid : IsValid v.setup) (f : core.Facts) (same : f ≡ core_of v.facts) (r : ℕ) (low : 1 ≤ r) (high : r ≤ length v.setup.resvs) (here : in_group (group_of v) (resv (group_of v) r).cluster.0 ≡ true) (past : Past) (at : IsAt v past) where
  reserved : (b : Bool) → is_p_res v.setup.plugin ≡ b → IsResv v.facts.resvs.resvs r × (left_of (server v.facts.resvs.resvs r) ≡ left (group_of v) r past)
  reserved true is =
      let are = at.core_at.resvs_are.reserved is in
      let there : IsResv v.facts.resvs.resvs r = record { low = low; high = omega (arith, high, are.serving.numbers) } in
      (there, (state_is_shown (group_of v) r past (server v.facts.resvs.resvs r) (are.serving.each r there (resv-here (group_of v) valid r low high here))).left_is)
  reserved false is =
      let none : length v.setup.resvs ≡ 0 = ap length (no_resvs v.setup valid is) in
      absurd (omega (arith, low, high, none))

  pub resv-there : IsResv f.resvs.resvs r
  resv-there = rw same (reserved (is_p_res v.setup.plugin) refl).0

  pub left-shown : (n : ℕ) → n ≡ left_of (server f.resvs.resvs r) → n ≡ left (group_of v) r past
  left-shown n told = told ∙ rw same (reserved (is_p_res v.setup.plugin) refl).1
