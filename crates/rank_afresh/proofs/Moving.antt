-- The end of a move, step by step: what its calls rest on, and what they come to.
use Rattle.std.proofs.Common.{◌≡◌, ℕ, ◌+◌, ◌-◌, ◌<◌, ◌≤◌, ◌⊎◌, inl, inr, Bool, true, false, List, length, set, get_or, get_or-set_other, eqb-true, leb-true, ltb-true, refl, sym, ap, ◌∙◌, subst, arith}
use Rattle.std.specs.Prelude.{None, Option, Some, if◌then◌else◌, nat_le, nat_lt, ◌==◌}
use Rattle.std.proofs.lemmas.Bool.{eqb-false}
use Rattle.std.proofs.lemmas.Bool.Decides.{nat_tests}
use Rattle.rt_base.specs.declared.TheConstants.{MOST_STEPS, TICK_END}
use Rattle.rt_base.specs.declared.CpuNo.{CpuNo}
use Rattle.rt_task.specs.declared.Act.{Act}
use Rattle.rt_task.specs.declared.Act.TheVariants as acts
use Rattle.rt_task.specs.declared.Op.{Op}
use Rattle.rt_task.specs.declared.Parts.{Parts}
use Rattle.rt_task.specs.declared.Task.{Task}
use Rattle.rt_rules.specs.declared.history.Reply.{Reply}
use Rattle.rt_rules.specs.Numbers.{has, numbers_from}
use Rattle.rt_rules.proofs.BoolLaws.{both, clash}
use Rattle.rt_rules.proofs.MemberLaws.{has-filter}
use Rattle.rt_rules.proofs.NumberLaws.{has-numbers_from, numbers_from-below}
use Rattle.rt_model.specs.Past.{accepted}
use Rattle.rt_model.specs.Releases.{has_come}
use Rattle.release_queue.specs.Timers.{tick_at}
use Rattle.group_jobs.specs.Facts.{CpuFacts, idle_cpu}
use Rattle.group_jobs.specs.Kept.{Kept, after_act, cpu_of, has_acted}
use Rattle.group_jobs.specs.Timers.{renewed}
use Rattle.group_jobs.specs.GroupJobs.{IsTaskOf}
use Rattle.group_resvs.specs.GroupResvs.{IsSettled}
use Rattle.group_core.specs.Facts as core
use Rattle.group_core.specs.Facts.{told_all}
use Rattle.group_core.specs.Reads.{CanRead, timer_in}
use Rattle.group_core.proofs.Counting.{read-clock}
use Rattle.group_core.proofs.Reading.{is-task}
use Rattle.rank_afresh.specs.Clusters.{ClusterFacts, HasRenewed, IsPlaced, RunBut, has_cpu, runs_in}
use Rattle.rank_afresh.specs.Facts.{ArePlaced, ArePlacedBut, CanEnd, CanRenew, Facts, HasEnded, HaveRenewed, WithRoom, cluster_at, core_of, with_core}
use Rattle.rank_afresh.specs.declared.ran.Ran.TheVariants as rans
use Rattle.rank_afresh.specs.Moments.{due_in}
use Rattle.rank_afresh.specs.Ranks.{AreTasks}
use Rattle.rank_afresh.proofs.Fitting.{positions-stay}
use Rattle.rank_afresh.proofs.ModelWords.{map-same}
use Rattle.rank_afresh.proofs.SetLists.{mapped-but}

-- a task of the set can be read
pub task-of : (p : Parts) (k : Kept) (t : ℕ) → CanRead MOST_STEPS p k → (1 ≤ t) × (t ≤ length p.tasks) → IsTaskOf k p.tasks t
task-of p k t read range = is-task MOST_STEPS p k read t range.0 range.1 (omega arith) p.tasks refl

-- those whose moment has come are tasks of the set
pub due-are : (p : Parts) (clock : ℕ) (ticks : List (Option ℕ)) → length ticks ≡ length p.tasks + 1 → AreTasks p (due_in clock ticks)
due-are p clock ticks count t h =
    let there : has t (numbers_from 1 (length ticks - 1)) ≡ true = (both _ _ (sym (has-filter (λ u. has_come clock (tick_at ticks u)) t (numbers_from 1 (length ticks - 1))) ∙ h)).0 in
    (has-numbers_from t 1 (length ticks - 1) there, let b = numbers_from-below t 1 (length ticks - 1) there in omega (arith, b, count))

pub renewed-as : (p : Parts) (x x' : core.Facts) (ts ts' : List ℕ) (old old' new : ClusterFacts) → x ≡ x' → ts ≡ ts' → old ≡ old' → HasRenewed p x ts old new → HasRenewed p x' ts' old' new
renewed-as p x x' ts ts' old old' new facts tasks before is =
    subst (λ (y : core.Facts). HasRenewed p y ts' old' new) facts
    (subst (λ (us : List ℕ). HasRenewed p x us old' new) tasks (subst (λ (c : ClusterFacts). HasRenewed p x ts c new) before is))

pub ended-of : (p : Parts) (f : Facts) (x : core.Facts) (room : ℕ) (mid new : WithRoom) → x.kept ≡ f.kept → x.sems ≡ f.sems → IsSettled (told_all p f.looked (core_of f)).resvs x.resvs
    → HaveRenewed p x f.looked f.clusters mid.facts.clusters → length mid.facts.clusters ≡ length f.clusters
    → mid ≡ record { facts = record (with_core x f) { clusters = mid.facts.clusters }; room = room }
    → new ≡ record mid { facts = record mid.facts { moments = renewed (timer_in p mid.facts.kept) mid.facts.looked mid.facts.moments } }
    → HasEnded p f new.facts
ended-of p f x room mid new kept sems settled clusters count rest moments =
    let shared : core_of new.facts ≡ x = ap (λ (w : WithRoom). core_of w.facts) moments ∙ ap (λ (w : WithRoom). core_of w.facts) rest in
    let same : new.facts.clusters ≡ mid.facts.clusters = ap (λ (w : WithRoom). w.facts.clusters) moments in
    record {
      kept_same = ap (λ (y : core.Facts). y.kept) shared ∙ kept;
      sems_same = ap (λ (y : core.Facts). y.sems) shared ∙ sems;
      settled = rw (ap (λ (y : core.Facts). y.resvs) shared) settled;
      count_same = ap length same ∙ count;
      renewed_are = subst (λ (y : core.Facts). HaveRenewed p y f.looked f.clusters new.facts.clusters) (sym shared) (subst (HaveRenewed p x f.looked f.clusters) (sym same) clusters);
      moments_are =
          ap (λ (w : WithRoom). w.facts.moments) moments
          ∙ ap (λ (w : WithRoom). renewed (timer_in p w.facts.kept) w.facts.looked w.facts.moments) rest
          ∙ ap (λ (k : Kept). renewed (timer_in p k) f.looked f.moments) kept;
    }

-- once the clock has moved, and the tasks that are due are listed
pub end-clocked : (p : Parts) (tick clock : ℕ) (f : Facts) (x : core.Facts) (left : List (Option ℕ)) (due : List ℕ) → CanRenew p f → tick < TICK_END → x ≡ core.clocked tick (core_of f)
    → length left ≡ length f.moments → due ≡ due_in clock f.moments → CanEnd p (record (with_core x f) { moments = left; looked = due })
end-clocked p tick clock f x left due can low clocked count listed =
    let moved : CanRenew p (record (with_core (core.clocked tick (core_of f)) f) { moments = left; looked = due }) = record {
      read = read-clock MOST_STEPS MOST_STEPS p f.kept (omega arith) can.read tick low;
      keys = can.keys;
      positions = positions-stay p f.kept (core.clocked tick (core_of f)).kept f.clusters refl can.positions;
      moments = count ∙ can.moments;
    } in
    record {
      renew = subst (λ (y : core.Facts). CanRenew p (record (with_core y f) { moments = left; looked = due })) (sym clocked) moved;
      looked_are = rw listed (due-are p clock f.moments can.moments);
    }

-- ---- what runs after an act

-- the processors are as before, or one of them is new
abbrev IsOneNew : ℕ → Kept → Kept → Type 0
IsOneNew q k k' = (k'.cpus ≡ k.cpus) ⊎ ((cpu : CpuFacts) × (k'.cpus ≡ set k.cpus q cpu))

one-new : (all : List Task) (q : ℕ) (act : Act) (reply : Reply) (none : Bool) (k : Kept) → IsOneNew q k (has_acted all q act reply none k)
one-new all q act reply none k = by_case (accepted reply)
  where
    by_runs : (op : Op) (o : Option ℕ) → IsOneNew q k (after_act all q (acts.Do op) o reply none k)
    by_runs op None = inl refl
    by_runs op (Some t) = inr (_, refl)

    by_act : (a : Act) → IsOneNew q k (after_act all q a (cpu_of k q).runs reply none k)
    by_act acts.Tick = inl refl
    by_act acts.Irq = inr (_, refl)
    by_act (acts.Arrive t) = inl refl
    by_act (acts.Do op) = by_runs op (cpu_of k q).runs

    by_case : (b : Bool) → IsOneNew q k (if b then after_act all q act (cpu_of k q).runs reply none k else k)
    by_case true = by_act act
    by_case false = inl refl

module _ (all : List Task) (q : ℕ) (act : Act) (reply : Reply) (none : Bool) (k : Kept) where
  abbrev k' : Kept
  k' = has_acted all q act reply none k

  others-run : (r : ℕ) → r == q ≡ false → (cpu_of k' r).runs ≡ (cpu_of k r).runs
  others-run r apart = by_new (one-new all q act reply none k)
    where
      by_new : IsOneNew q k k' → (cpu_of k' r).runs ≡ (cpu_of k r).runs
      by_new (inl all_same) = ap (λ (cs : List CpuFacts). (get_or cs r idle_cpu).runs) all_same
      by_new (inr new) =
          ap (λ (cs : List CpuFacts). (get_or cs r idle_cpu).runs) new.1
          ∙ ap (λ (c : CpuFacts). c.runs) (get_or-set_other k.cpus q r new.0 idle_cpu (eqb-false r q apart))

  -- where it is none of these, or runs what it ran
  runs-stay : (first n : ℕ) → (has q (numbers_from first n) ≡ true → (cpu_of k' q).runs ≡ (cpu_of k q).runs) → runs_in k' first n ≡ runs_in k first n
  runs-stay first n here = map-same (λ r. (cpu_of k r).runs) (λ r. (cpu_of k' r).runs) (numbers_from first n) (λ r h. by_case r h (r == q) refl)
    where
      by_case : (r : ℕ) → has r (numbers_from first n) ≡ true → (b : Bool) → r == q ≡ b → (cpu_of k' r).runs ≡ (cpu_of k r).runs
      by_case r h true e =
          let same : r ≡ q = eqb-true r q e in
          ap (λ m. (cpu_of k' m).runs) same ∙ here (subst (λ m. has m (numbers_from first n) ≡ true) same h) ∙ ap (λ m. (cpu_of k m).runs) (sym same)
      by_case r h false e = others-run r e

  -- and where it is one of these
  runs-but : (first n : ℕ) → first ≤ q → q < first + n → set (runs_in k first n) (q - first) (cpu_of k' q).runs ≡ runs_in k' first n
  runs-but first n = mapped-but (λ r. (cpu_of k r).runs) (λ r. (cpu_of k' r).runs) q others-run first n

  run-at : (c : ClusterFacts) → c.runs ≡ runs_in k c.first (length c.links) → (b : Bool) → has_cpu c q ≡ b
      → (if b then set c.runs (q - c.first) (cpu_of k' q).runs else c.runs) ≡ runs_in k' c.first (length c.links)
  run-at c runs true e =
      let p = both (nat_le c.first q) (nat_lt (q - c.first) (length c.links)) e in
      let low : c.first ≤ q = leb-true c.first q p.0 in
      let high : q - c.first < length c.links = ltb-true (q - c.first) (length c.links) p.1 in
      ap (λ (rs : List (Option ℕ)). set rs (q - c.first) (cpu_of k' q).runs) runs ∙ runs-but c.first (length c.links) low (omega (arith, low, high))
  run-at c runs false e = runs ∙ sym (runs-stay c.first (length c.links) (λ h. absurd (clash _ (inside h) e)))
    where
      inside : has q (numbers_from c.first (length c.links)) ≡ true → has_cpu c q ≡ true
      inside h =
          let low : c.first ≤ q = has-numbers_from q c.first (length c.links) h in
          let high : q < c.first + length c.links = numbers_from-below q c.first (length c.links) h in
          grind (arith, nat_tests, low, high)

pub placed-acted : (all : List Task) (q : CpuNo) (act : Act) (reply : Reply) (none : Bool) (k : Kept) (cs : List ClusterFacts) → ArePlaced k cs → (b : Bool)
    → (b ≡ true → (cpu_of (has_acted all q.0 act reply none k) q.0).runs ≡ (cpu_of k q.0).runs)
    → ArePlacedBut (if b then rans.Nowhere else rans.At q) (has_acted all q.0 act reply none k) cs
placed-acted all q act reply none k cs placed b same n inside =
    let is : IsPlaced k (cluster_at cs n) = placed n inside in
    record { top_is = is.top_is; runs_are = by_case (cluster_at cs n) is.runs_are b same }
  where
    by_case : (c : ClusterFacts) → c.runs ≡ runs_in k c.first (length c.links) → (b : Bool)
        → (b ≡ true → (cpu_of (has_acted all q.0 act reply none k) q.0).runs ≡ (cpu_of k q.0).runs)
        → RunBut (if b then rans.Nowhere else rans.At q) (has_acted all q.0 act reply none k) c
    by_case c runs true same = runs ∙ sym (runs-stay all q.0 act reply none k c.first (length c.links) (λ h. same refl))
    by_case c runs false same = run-at all q.0 act reply none k c runs (has_cpu c q.0) refl
