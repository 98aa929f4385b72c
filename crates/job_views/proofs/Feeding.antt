-- A table is fed an act.
use Rattle.std.proofs.Common.{◌≡◌, ◌∙◌, ℕ, ◌+◌, ◌<◌, ◌≤◌, ◌≢◌, Bool, true, false, List, ◌∷◌, ◌&&◌, length, get_or, refl, sym, ap, arith, subst, eqb-true, get_or-set_other, get_or-set_same, inl, inr, []}
use Rattle.std.proofs.lemmas.Bool.{cases_lt}
use Rattle.std.proofs.lemmas.List.{get_or-replicate, get_or_past, length-replicate}
use Rattle.std.specs.Prelude.{Option, None, replicate, if◌then◌else◌, ◌==◌, is_some}
use Rattle.std.proofs.Math.ListN.{set}
use Rattle.std.proofs.lemmas.Bool.{false≢true}
use Rattle.rt_base.specs.TaskNos.{number_of_task}
use Rattle.rt_base.specs.declared.TaskNo.{TaskNo}
use Rattle.rt_base.specs.declared.TheConstants.{MOST_CPUS, MOST_STEPS}
use Rattle.rt_rules.proofs.MemberLaws.{equal_self}
use Rattle.rt_model.specs.Blocking.{requests}
use Rattle.rt_model.specs.Past.{Acted, Past, PastAct}
use Rattle.job_facts.specs.Deeds.{Scene, jobs_arrived, jobs_ended, jobs_fed, jobs_run, jobs_taken, locks, worker_after}
use Rattle.job_facts.specs.Kept.{scene_at}
use Rattle.job_facts.specs.Tallies.{Jobs, jobs_at, no_jobs}
use Rattle.job_facts.specs.Workers.{worker}
use Rattle.job_facts.proofs.Few.{current-few, requests-by, requests-few}
use Rattle.job_facts.proofs.Jobs.{jobs_are_kept}
use Rattle.job_views.specs.declared.table.JobTable.{JobTable}
use Rattle.job_views.specs.declared.task_jobs.TaskJobs.{TaskJobs}
use Rattle.job_views.specs.Tables.{CanFeed, Keeps, worker_in}
use Rattle.job_views.specs.Told.{HasRoom, jobs_in}

module _ (v : JobTable) (past : Past) (clock : ℕ) (d : PastAct) (can : CanFeed v past clock d) where
  abbrev old : List TaskJobs
  old = v.tasks.items

  -- the counts of the tasks' current jobs are low
  pub moves-room : (t : ℕ) → t < length old → (jobs_in old t).current.moves ≤ MOST_STEPS
  moves-room t low =
      let same : (jobs_in old t).current.moves ≡ (jobs_at t past).current.moves = ap (λ (r : Jobs). r.current.moves) (can.kept.tasks_are t low) in
      omega (arith, same, (current-few t past).moves_few, can.few)

  pub run-room : (xs0 xs1 : List TaskJobs) → xs0 ≡ old → length xs1 ≡ length xs0 → ((t : ℕ) → t < length xs0 → jobs_in xs1 t ≡ jobs_taken t d (jobs_in xs0 t)) → (t : ℕ) → t < length xs1 → HasRoom (jobs_in xs1 t).current
  run-room xs0 xs1 same long after t within =
      let low : t < length old = omega (arith, within, long, ap length same) in
      let is : jobs_in xs1 t ≡ jobs_taken t d (jobs_at t past) = after t (omega (arith, within, long)) ∙ ap (λ xs. jobs_taken t d (jobs_in xs t)) same ∙ ap (jobs_taken t d) (can.kept.tasks_are t low) in
      subst (λ (r : Jobs). HasRoom r.current) (sym is) (record {
        units_few = omega (arith, (current-few t past).units_few, can.few);
        preemptions_few = omega (arith, (current-few t past).preemptions_few, can.few);
        migrations_few = omega (arith, (current-few t past).migrations_few, can.few);
        queued_few = omega (arith, (current-few t past).queued_few, can.few);
      })

  -- the scene is that of the past
  abbrev told : Option TaskNo → Scene
  told w = record { clock = clock; asked = v.asked; worker = number_of_task w }

  scene-same : (w : Option TaskNo) → number_of_task w ≡ worker d.cpu past → told w ≡ scene_at d.cpu past
  scene-same w is = λ i. record { clock = can.clock_is i; asked = can.kept.asked_is i; worker = is i }

  module _ (w : Option TaskNo) (is : number_of_task w ≡ worker d.cpu past) (xs0 xs1 xs2 xs3 xs4 : List TaskJobs) (same : xs0 ≡ old) where
    pub fed-tasks : length xs1 ≡ length xs0 → length xs2 ≡ length xs1 → length xs3 ≡ length xs2
        → ((t : ℕ) → t < length xs0 → jobs_in xs1 t ≡ jobs_taken t d (jobs_in xs0 t))
        → ((t : ℕ) → t < length xs1 → jobs_in xs2 t ≡ jobs_run (told w) t d (jobs_in xs1 t))
        → ((t : ℕ) → t < length xs2 → jobs_in xs3 t ≡ jobs_arrived clock t d (jobs_in xs2 t))
        → ((t : ℕ) → t < length xs3 → jobs_in xs4 t ≡ jobs_ended clock t d (jobs_in xs3 t))
        → (t : ℕ) → t < length old → jobs_in xs4 t ≡ jobs_at t (Acted d ∷ past)
    fed-tasks long1 long2 long3 h1 h2 h3 h4 t low =
        let low0 : t < length xs0 = omega (arith, low, ap length same) in
        let low1 : t < length xs1 = omega (arith, low0, long1) in
        let low2 : t < length xs2 = omega (arith, low1, long2) in
        let low3 : t < length xs3 = omega (arith, low2, long3) in
        h4 t low3 ∙ ap (jobs_ended clock t d) (h3 t low2 ∙ ap (jobs_arrived clock t d) (h2 t low1 ∙ ap (jobs_run (told w) t d) (h1 t low0)))
        ∙ ap (λ xs. jobs_fed (told w) t d (jobs_in xs t)) same
        ∙ ap (λ (at : Scene). jobs_fed at t d (jobs_in old t)) (scene-same w is)
        ∙ ap (jobs_fed (scene_at d.cpu past) t d) (can.kept.tasks_are t low)
        ∙ sym (subst (λ (x : PastAct). jobs_at t (Acted x ∷ past) ≡ jobs_fed (scene_at d.cpu past) t x (jobs_at t past)) (sym can.act_is) (jobs_are_kept.acted can.group d.cpu can.act t past can.reachable))

  pub fed-workers : (w : Option TaskNo) → number_of_task w ≡ worker_after d.act d.reply d.task (worker d.cpu past) → length v.workers ≡ MOST_CPUS
      → (q : ℕ) → q < MOST_CPUS → worker_in (set v.workers d.cpu w) q ≡ worker q (Acted d ∷ past)
  unfolding worker
  fed-workers w is long q low = by_case (d.cpu == q) refl
    where
      within : d.cpu < length v.workers
      within = omega (arith, can.processor, long)

      by_case : (b : Bool) → d.cpu == q ≡ b → worker_in (set v.workers d.cpu w) q ≡ (if b then worker_after d.act d.reply d.task (worker q past) else worker q past)
      by_case true m =
          let same : d.cpu ≡ q = eqb-true d.cpu q m in
          ap (λ p. worker_in (set v.workers d.cpu w) p) (sym same) ∙ ap number_of_task (get_or-set_same v.workers d.cpu w None within) ∙ is
          ∙ ap (λ p. worker_after d.act d.reply d.task (worker p past)) same
      by_case false m =
          let other : q ≢ d.cpu = λ e. false≢true (sym m ∙ ap (λ p. d.cpu == p) e ∙ equal_self d.cpu) in
          ap number_of_task (get_or-set_other v.workers d.cpu q w None other) ∙ can.kept.workers_are q low

  pub fed-asked : (b : Bool) → is_some d.task && locks d.act d.reply ≡ b → (if b then v.asked + 1 else v.asked) ≡ length (requests (Acted d ∷ past))
  fed-asked b m =
      ap (λ n. if b then n + 1 else n) can.kept.asked_is ∙ sym (requests-by d past ∙ ap (λ c. if c then length (requests past) + 1 else length (requests past)) m)

  pub asked-low : v.asked ≤ MOST_STEPS
  asked-low = omega (arith, can.kept.asked_is, requests-few past, can.few)

-- so the table is of the past with the act
pub record IsFed (v : JobTable) (clock : ℕ) (d : PastAct) (w : Option TaskNo) (w' : Option TaskNo) (xs0 xs1 xs2 xs3 xs4 : List TaskJobs) : Type 0 where
  pub same : xs0 ≡ v.tasks.items
  pub long1 : length xs1 ≡ length xs0
  pub long2 : length xs2 ≡ length xs1
  pub long3 : length xs3 ≡ length xs2
  pub long4 : length xs4 ≡ length xs3
  pub taken : (t : ℕ) → t < length xs0 → jobs_in xs1 t ≡ jobs_taken t d (jobs_in xs0 t)
  pub ran : (t : ℕ) → t < length xs1 → let at : Scene = record { clock = clock; asked = v.asked; worker = number_of_task w } in jobs_in xs2 t ≡ jobs_run at t d (jobs_in xs1 t)
  pub arrived : (t : ℕ) → t < length xs2 → jobs_in xs3 t ≡ jobs_arrived clock t d (jobs_in xs2 t)
  pub ended : (t : ℕ) → t < length xs3 → jobs_in xs4 t ≡ jobs_ended clock t d (jobs_in xs3 t)
  pub worker_is : w ≡ get_or v.workers d.cpu None
  pub workers_long : length v.workers ≡ MOST_CPUS
  pub worker_then : number_of_task w' ≡ worker_after d.act d.reply d.task (number_of_task w)

module _ (v v' : JobTable) (clock : ℕ) (d : PastAct) (w w' : Option TaskNo) (xs0 xs1 xs2 xs3 xs4 : List TaskJobs) (fed : IsFed v clock d w w' xs0 xs1 xs2 xs3 xs4) where
  pub kept-after : v'.tasks.items ≡ xs4 → v'.workers ≡ set v.workers d.cpu w' → (b : Bool) → is_some d.task && locks d.act d.reply ≡ b → v'.asked ≡ (if b then v.asked + 1 else v.asked)
      → (past : Past) → CanFeed v past clock d → Keeps v' (Acted d ∷ past)
  kept-after tasks workers b asks asked past can =
      let is : number_of_task w ≡ worker d.cpu past = ap number_of_task fed.worker_is ∙ can.kept.workers_are d.cpu can.processor in
      let then_is : number_of_task w' ≡ worker_after d.act d.reply d.task (worker d.cpu past) = fed.worker_then ∙ ap (worker_after d.act d.reply d.task) is in
      record {
        tasks_are = λ t within. ap (λ xs. jobs_in xs t) tasks
            ∙ fed-tasks v past clock d can w is xs0 xs1 xs2 xs3 xs4 fed.same fed.long1 fed.long2 fed.long3 fed.taken fed.ran fed.arrived fed.ended t (omega (arith, within, ap length tasks, fed.long4, fed.long3, fed.long2, fed.long1, ap length fed.same));
        workers_are = λ q low. ap (λ ws. worker_in ws q) workers ∙ fed-workers v past clock d can w' then_is fed.workers_long q low;
        asked_is = asked ∙ fed-asked v past clock d can b asks;
      }

-- at opening the table is of no moves
pub kept-opening : (v : JobTable) → ((t : ℕ) → t < length v.tasks.items → jobs_in v.tasks.items t ≡ no_jobs) → ((q : ℕ) → worker_in v.workers q ≡ None) → v.asked ≡ 0 → Keeps v []
unfolding worker requests
kept-opening v unbegun nobody asked = record {
  tasks_are = λ t low. unbegun t low ∙ sym (jobs_are_kept.opening t);
  workers_are = λ q low. nobody q;
  asked_is = asked;
}

-- an array of nobody
pub nobody : (n q : ℕ) → worker_in (replicate n None) q ≡ None
nobody n q = elim (cases_lt q n) [ inl low ↦ ap number_of_task (get_or-replicate n q None None low) | inr high ↦ ap number_of_task (get_or_past (replicate n None) q None (omega (arith, high, length-replicate {A = Option TaskNo} n None))) ]
