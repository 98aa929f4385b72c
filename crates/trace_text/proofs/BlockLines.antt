-- The lines of the requests of a group's history are lines of the grammar: their tasks and semaphores are the set's, and their counts
-- and bounds are small.
use Rattle.std.proofs.Common.{◌≡◌, ℕ, ◌+◌, ◌*◌, ◌<◌, ◌≤◌, inl, inr, Bool, true, false, ◌&&◌, List, [], ◌∷◌, length, leb-true, refl, ap, arith}
use Rattle.std.specs.Prelude.{All, Option, Some, if◌then◌else◌, nat_le}
use Rattle.std.proofs.lemmas.Bool.{cases_lt}
use Rattle.std.proofs.lemmas.List.{get_or_past, length-map}
use Rattle.std.proofs.lemmas.List.Elements.{All-map, All-nil, All-push, All-weaker}
use Rattle.rt_base.specs.declared.TheConstants.{MOST_CLUSTERS, MOST_CPUS, MOST_SEMS, MOST_STEPS, MOST_TASKS}
use Rattle.rt_task.specs.declared.Act.{Act}
use Rattle.rt_task.specs.declared.Act.TheVariants as acts
use Rattle.rt_task.specs.declared.Cluster.{Cluster}
use Rattle.rt_task.specs.declared.Op.TheVariants as ops
use Rattle.rt_task.specs.declared.Parts.{Parts}
use Rattle.rt_task.specs.declared.Protocol.{Protocol}
use Rattle.rt_task.specs.declared.Protocol.TheVariants.{Fmlp, Mpcp, Omlp, Pcp, Srp}
use Rattle.rt_task.specs.declared.draft.Draft.{Draft}
use Rattle.rt_task.specs.Draft.{draft_of}
use Rattle.rt_task.specs.Lookups as lookups
use Rattle.rt_task.specs.SizeRules.{whole_size}
use Rattle.rt_task.specs.Validity.{IsValid}
use Rattle.rt_rules.specs.declared.history.Entry.{Entry}
use Rattle.rt_rules.specs.Numbers.{has}
use Rattle.rt_rules.specs.SemState.{Asks, Frees, Neither, SemAct}
use Rattle.rt_rules.proofs.BoolLaws.{both}
use Rattle.rt_rules.proofs.NumberLaws.{has-numbers_from, numbers_from-below}
use Rattle.rt_model.specs.Blocking.{Asked, asked_by, bound, bound_by, ends, ends_all, frees, is_blocked, is_open, requests}
use Rattle.rt_model.specs.Group.{Group, cluster, cpus, home, no_cluster, protocol, sems, tasks}
use Rattle.rt_model.specs.Histories.{past_of}
use Rattle.rt_model.specs.Past.{Acted, Clock, Event, Past, entries_in, is_act, sem_act}
use Rattle.rt_model.specs.Reachable.{IsReachable, opened}
use Rattle.rt_model.specs.Runs.{runs}
use Rattle.rt_model.specs.Steps.{IsActOf}
use Rattle.rt_model.proofs.PastLaws.{made-from}
use Rattle.rt_model.proofs.Steps.{length-past_from, number_of-le}
use Rattle.rt_laws.proofs.semaphores.Asked.{IsAsked, asked}
use Rattle.rt_laws.proofs.Moves.{IsMove, by_moves, clock_moves, cpu_acts}
use Rattle.rt_laws.proofs.jobs.Running.{IsRunning, running}
use Rattle.rt_laws.proofs.ValidSets.{rules_of}
use Rattle.rt_plays.proofs.AtHomeLaws.{tasks_are_at_home}
use Rattle.rt_plays.proofs.SetLimits.{sets_are_in_limits}
use Rattle.rt_plays.proofs.ValidRows.{passes_rows}
use Rattle.block_counts.specs.GroupRequests.{NamesKnown}
use Rattle.block_counts.proofs.Limits.{can_bound}
use Rattle.block_counts.proofs.UserLaws.{users-all, users-few}
use Rattle.trace_lines.specs.declared.format.Version.{Version}
use Rattle.trace_lines.specs.Known.{BoundIsKnown, IsLine, IsNumberOf, Known, known_of}
use Rattle.trace_text.specs.TraceText.{block_lines, block_of}

-- ---- what is of a set

-- a task of a group is one of its set's
pub task-numbered : (g : Group) (t : ℕ) → IsValid g.setup → has t (tasks g) ≡ true → IsNumberOf (length g.setup.tasks) t
task-numbered g t valid there =
    let at_home = tasks_are_at_home g t valid there in
    record { low = at_home.low; high = at_home.high; fits = omega (arith, at_home.high, (sets_are_in_limits g.setup valid).few_tasks) }

-- a valid set has few semaphores
sems-few : (p : Parts) → IsValid p → length p.sems ≤ MOST_SEMS
unfolding whole_size
sems-few p valid =
    let d : Draft = draft_of p in
    let by_clusters = both (nat_le (length d.clusters) MOST_CLUSTERS) _ (passes_rows p valid).size in
    let by_cpus = both (nat_le (lookups.cpus d) MOST_CPUS) _ by_clusters.1 in
    let by_tasks = both (nat_le (length d.tasks) MOST_TASKS) _ by_cpus.1 in
    let by_sems = both (nat_le (length d.sems) MOST_SEMS) _ by_tasks.1 in
    leb-true (length d.sems) MOST_SEMS by_sems.0

-- a semaphore that is there is one of the set's
pub sem-numbered : (g : Group) (s : ℕ) → IsValid g.setup → has s (sems g) ≡ true → IsNumberOf (length g.setup.sems) s
unfolding sems
sem-numbered g s valid there =
    let high : s < 1 + length g.setup.sems = numbers_from-below s 1 (length g.setup.sems) there in
    let few : length g.setup.sems ≤ MOST_SEMS = sems-few g.setup valid in
    record { low = has-numbers_from s 1 (length g.setup.sems) there; high = omega arith; fits = omega arith }

-- ---- counts and bounds

-- a critical section ends at an entry
one-more : (s : ℕ) (e : Event) (b : Bool) (n : ℕ) (past : Past) → n ≤ entries_in past → (if frees s (sem_act e) && b then n + 1 else n) ≤ entries_in (e ∷ past)
one-more s (Clock tick) b n past h = h
one-more s (Acted d) b n past h = by_case (frees s (sem_act (Acted d)) && b)
  where
    by_case : (c : Bool) → (if c then n + 1 else n) ≤ entries_in past + 1
    by_case true = omega (arith, h)
    by_case false = omega (arith, h)

pub ends-few : (g : Group) (r t s : ℕ) (past : Past) → ends g r t s past ≤ entries_in past
unfolding ends
ends-few g r t s [] = omega arith
ends-few g r t s (e ∷ past) = one-more s e (is_open g r t s past && is_blocked g t past) (ends g r t s past) past (ends-few g r t s past)

pub ends_all-few : (g : Group) (r t s : ℕ) (past : Past) → ends_all g r t s past ≤ entries_in past
unfolding ends_all
ends_all-few g r t s [] = omega arith
ends_all-few g r t s (e ∷ past) = one-more s e (is_open g r t s past) (ends_all g r t s past) past (ends_all-few g r t s past)

cpus-few : (g : Group) (c : ℕ) → IsValid g.setup → cpus g c ≤ 64
unfolding cpus cluster
cpus-few g c valid =
    elim (cases_lt c (length g.setup.clusters)) [
      | inl low ↦ (can_bound g.setup valid).few_cpus c low
      | inr high ↦ omega (arith, ap (λ (k : Cluster). k.cpus) (get_or_past g.setup.clusters c no_cluster high))
    ]

pub bound-known : (g : Group) (t s : ℕ) → IsValid g.setup → BoundIsKnown (bound g t s)
unfolding bound bound_by
bound-known g t s valid = by_protocol (protocol g s)
  where
    by_protocol : (p : Protocol) → BoundIsKnown (bound_by g p t s)
    by_protocol Omlp = omega (arith, cpus-few g (home g t) valid)
    by_protocol Fmlp = omega (arith, users-few g s (length g.setup.tasks), ap (λ (us : List ℕ). length us) (users-all g s), (sets_are_in_limits g.setup valid).few_tasks)
    by_protocol Pcp = tt
    by_protocol Mpcp = tt
    by_protocol Srp = tt

-- ---- requests

-- a request's number is below that of the entries, and its task and semaphore are there
pub record IsKnownRequest (g : Group) (most : ℕ) (r : Asked) : Type 0 where
  pub below : r.no < most
  pub task_there : has r.task (tasks g) ≡ true
  pub sem_there : has r.sem (sems g) ≡ true

pub requests-known : (g : Group) → IsValid g.setup → {past : Past} → IsReachable g past → All (IsKnownRequest g (entries_in past)) (requests past)
unfolding requests
requests-known g valid made = by_moves g (λ past. All (IsKnownRequest g (entries_in past)) (requests past)) (All-nil (IsKnownRequest g 0)) step made
  where
    step : (past : Past) (e : Event) → IsReachable g past → IsMove g past e → All (IsKnownRequest g (entries_in past)) (requests past) → All (IsKnownRequest g (entries_in (e ∷ past))) (requests (e ∷ past))
    step past e made (clock_moves tick) before = before
    step past e made (cpu_acts q a) before =
        by_act (sem_act e) (asked g (rules_of g valid) made (cpu_acts q a))
        (All-weaker (IsKnownRequest g (entries_in past)) (IsKnownRequest g (entries_in past + 1)) (λ r k. record { below = omega (arith, k.below); task_there = k.task_there; sem_there = k.sem_there }) (requests past) before)
      where
        by_act : (x : SemAct) → ((t s : ℕ) → x ≡ Asks t s → IsAsked g t s past) → All (IsKnownRequest g (entries_in past + 1)) (requests past) → All (IsKnownRequest g (entries_in past + 1)) (asked_by x (entries_in past) (requests past))
        by_act (Asks t s) asks all =
            let k : IsAsked g t s past = asks t s refl in
            All-push (IsKnownRequest g (entries_in past + 1)) (requests past) (record { no = entries_in past; task = t; sem = s }) all (record { below = omega arith; task_there = k.member; sem_there = k.known })
        by_act (Frees t s) asks all = all
        by_act Neither asks all = all

-- ---- their lines

pub entries-few : (g : Group) (es : List Entry) → length es ≤ MOST_STEPS → entries_in (past_of g es) ≤ 2 * MOST_STEPS
unfolding past_of
entries-few g es few = omega (arith, number_of-le is_act (past_of g es), length-past_from g es [], few)

pub reachable-past_of : (g : Group) (es : List Entry) → IsReachable g (past_of g es)
unfolding past_of
reachable-past_of g es = made-from g es opened

-- each line of a request is one of the grammar
pub block_lines-known : (v : Version) (g : Group) (es : List Entry) → IsValid g.setup → length es ≤ MOST_STEPS → All (IsLine (known_of v g.setup)) (block_lines g (past_of g es))
unfolding block_lines
block_lines-known v g es valid few =
    All-map (IsLine k) (block_of g past) (requests past) (All-weaker (IsKnownRequest g (entries_in past)) (λ (r : Asked). IsLine k (block_of g past r)) known (requests past) (requests-known g valid (reachable-past_of g es)))
  where
    k : Known
    k = known_of v g.setup

    past : Past
    past = past_of g es

    known : (r : Asked) → IsKnownRequest g (entries_in past) r → IsLine k (block_of g past r)
    known r h =
        let low : entries_in past ≤ 2 * MOST_STEPS = entries-few g es few in
        let task : IsNumberOf (length g.setup.tasks) r.task = task-numbered g r.task valid h.task_there in
        let count : length k.names ≡ length g.setup.tasks = length-map _ _ in
        record {
          number = omega (arith, h.below, low);
          task_known = record { low = task.low; high = omega (arith, task.high, count); fits = task.fits };
          sem_known = sem-numbered g r.sem valid h.sem_there;
          ends_fit = omega (arith, ends-few g r.no r.task r.sem past, low);
          all_fit = omega (arith, ends_all-few g r.no r.task r.sem past, low);
          bound_fits = bound-known g r.task r.sem valid;
        }

-- ---- acts

-- who asks for a semaphore, and which, are the set's
pub names-known : (g : Group) (q : ℕ) (act : Act) {past : Past} → IsValid g.setup → IsReachable g past → IsActOf g act → NamesKnown g.setup act (runs q past)
names-known g q act {past} valid made of_group = by_act act (runs q past) of_group (running g (rules_of g valid) made q)
  where
    by_act : (a : Act) (o : Option ℕ) → IsActOf g a → ((t : ℕ) → o ≡ Some t → IsRunning g q t past) → NamesKnown g.setup a o
    by_act (acts.Do (ops.Lock s)) (Some t) h runs_it =
        let task = task-numbered g t valid (runs_it t refl).member in
        let sem = sem-numbered g s.0 valid h in
        ((task.low, task.high), (sem.low, sem.high))
    by_act _ _ h runs_it = tt
