-- What tasks hold and wait for.
use Rattle.std.proofs.Common.{◌≡◌, ◌∙◌, ◌<◌, ◌≤◌, ◌+◌, ◌||◌, ℕ, zero, suc, Bool, true, false, List, [], ◌∷◌, refl, sym, ap, eqb-true, arith, length, map, subst}
use Rattle.std.specs.Prelude.{◌==◌, Option, None, Some, is_none, slice_set, slice_index_or}
use Rattle.std.proofs.lemmas.List.{length-map}
use Rattle.rt_task.specs.declared.Task.{Task}
use Rattle.rt_task.specs.declared.Protocol.{Protocol}
use Rattle.rt_task.specs.declared.Protocol.TheVariants.{Fmlp, Mpcp, Omlp, Pcp, Srp}
use Rattle.rt_rules.specs.Distinct.{IsDistinct}
use Rattle.rt_rules.specs.Numbers.{has, same}
use Rattle.rt_rules.specs.SemState.{Asks}
use Rattle.rt_model.specs.Answers.{is_granted}
use Rattle.rt_model.specs.BaseKeys.{base_key}
use Rattle.rt_model.specs.Group.{Group, task, home, no_task, protocol, sems, tasks}
use Rattle.rt_model.specs.Holders.{awaits, holder, holds}
use Rattle.rt_model.specs.Reachable.{IsReachable}
use Rattle.rt_model.specs.Past.{Event, Past, sem_act}
use Rattle.rt_model.specs.Semaphores.{cluster_of}
use Rattle.rt_rules.proofs.BoolLaws.{both, clash, unless}
use Rattle.rt_rules.proofs.DistinctLaws.{length-distinct}
use Rattle.rt_rules.proofs.MemberLaws.{equal_self, has-filter}
use Rattle.rt_rules.proofs.NumberLaws.{distinct-numbers_from, length-numbers_from}
use Rattle.rt_laws.proofs.semaphores.Asked.{IsAsked}
use Rattle.rt_laws.proofs.GroupLaws.{user-home, pcp-shares}
use Rattle.rt_laws.proofs.semaphores.Holding.{one-holds}
use Rattle.rt_laws.proofs.Moves.{IsMove, last_move}
use Rattle.rt_laws.proofs.Next.{next}
use Rattle.rt_laws.proofs.Rules.{MeetsRules}
use Rattle.rt_laws.proofs.ValidSets.{rules_of}
use Rattle.rt_laws.proofs.semaphores.Waiting.{nobody-waits, none-waits}
use Rattle.rt_laws.proofs.jobs.Engaged.{nobody-engaged, holder-engaged}
use Rattle.rt_changes.specs.HoldChanges.{IsGrant, IsQueueing, KeepsHolds}
use Rattle.rt_changes.specs.SemChanges.{LeavesSems}
use Rattle.rt_changes.proofs.Apart.{asks-holds_not}
use Rattle.rt_changes.proofs.HoldChanges.{lock_grants, lock_queues}
use Rattle.rt_changes.proofs.SemChanges.{quiet_move_leaves_sems}
use Rattle.sem_table.specs.declared.any_sem.AnySem.{AnySem}
use Rattle.sem_table.specs.declared.any_sem.AnySem.TheVariants as any
use Rattle.sem_table.specs.declared.row.Row.{Row}
use Rattle.sem_table.specs.Opened.{new_row}
use Rattle.sem_table.specs.Asked as asks
use Rattle.sem_table.specs.Asked.{after_ask, is_free, one_more, row_asked}
use Rattle.sem_table.specs.SemTable.{SemTable, no_row, row_at, sem_at, set_at}
use Rattle.sem_table.specs.Keeping.{AskRows, NewRows, QuietRows}
use Rattle.sem_table.specs.KeptRows.{KeepsRow}
use Rattle.sem_table.specs.KeptSems.{KeepsSem, KeepsSems}
use Rattle.sem_table.specs.Telling.{GrantsAsRules}
use Rattle.sem_table.proofs.Conditions.{distinct-holds, set-here, tells}
use Rattle.sem_table.proofs.Lists.{at-other, at-same, still-below}
use Rattle.sem_table.proofs.NewRows.{between}
use Rattle.sem_table.proofs.ClusterSets.{passes-as-rules}

-- ---- counting

distinct-sems : (g : Group) → IsDistinct (sems g)
unfolding sems
distinct-sems g = distinct-numbers_from 1 (length g.setup.sems)

length-sems : (g : Group) → length (sems g) ≡ length g.setup.sems
unfolding sems
length-sems g = length-numbers_from 1 (length g.setup.sems)

-- a task holds no more than there is
pub holds-few : (g : Group) (t : ℕ) (past : Past) → length (holds g t past) ≤ length g.setup.sems
holds-few g t past = let m : length (holds g t past) ≤ length (sems g) = length-distinct (holds g t past) (sems g) (distinct-holds g t past) (distinct-sems g) (λ r h. (one-holds g t r past h).0) in omega (arith, length-sems g)

-- one more member
pub length-more : (s : ℕ) (xs ys : List ℕ) → IsDistinct xs → IsDistinct ys → has s xs ≡ false → ((r : ℕ) → has r ys ≡ r == s || has r xs) → length ys ≡ length xs + 1
length-more s xs ys d e out same =
    let low : length (s ∷ xs) ≤ length ys = length-distinct (s ∷ xs) ys (out, d) e (λ r h. same r ∙ h) in
    let high : length ys ≤ length (s ∷ xs) = length-distinct ys (s ∷ xs) e (out, d) (λ r h. sym (same r) ∙ h) in
    omega arith

pub one-more : (n m : ℕ) → m ≡ n + 1 → m < 4294967296 → one_more n ≡ m
one-more n m e h = omega arith

-- ---- a request is granted where the rules grant it

free-none : (o : Option ℕ) → is_free o ≡ is_none o
free-none None = refl
free-none (Some t) = refl

module _ (g : Group) (rules : MeetsRules g) (e : Event) (past : Past) (made : IsReachable g past) (move : IsMove g past e) (w : SemTable) (k : KeepsSems g past w) (t s : ℕ) (h : sem_act e ≡ Asks t s) where
  a : IsAsked g t s past
  a = (next g rules made move).asked t s h

  granted-is : (p : Protocol) (x : AnySem) → protocol g s ≡ p → KeepsSem g s past p x → asks.is_granted_by t (base_key g t past) w.sets x ≡ is_granted g p s t past
  unfolding is_granted holder
  granted-is Fmlp (any.Fmlp l) q v = free-none _ ∙ ap (λ y. is_none y.holder) (tells g rules past w k s t a.known a.user Fmlp (any.Fmlp l) q v)
  granted-is Omlp (any.Omlp l) q v = free-none _ ∙ ap (λ y. is_none y.holder) (tells g rules past w k s t a.known a.user Omlp (any.Omlp l) q v)
  granted-is Mpcp (any.Mpcp l) q v = free-none _ ∙ ap (λ y. is_none y.holder) (tells g rules past w k s t a.known a.user Mpcp (any.Mpcp l) q v)
  granted-is Pcp (any.Pcp c) q v =
      let at-home : home g t ≡ cluster_of g s = user-home g rules s t (pcp-shares g.setup.plugin (protocol g s) (rw q refl)) a.user in
      rw at-home (passes-as-rules g rules e past made move (cluster_of g s) (set_at w.sets c.0) (set-here g rules past w k s t a.known a.user (rw q refl) c.0 v) t s h at-home (rw q refl))
  granted-is Srp (any.Srp c) q v = refl
  granted-is p x q v = absurd v

pub grants_as_rules : GrantsAsRules
grants_as_rules g e past valid made w t s h k =
    let last = last_move g made in
    let a : IsAsked g t s past = (next g (rules_of g valid) last.0 last.1).asked t s h in
    granted-is g (rules_of g valid) e past last.0 last.1 w k t s h (protocol g s) (sem_at w.sems s) refl (k.kept s a.known)

-- ---- rows

pub keeps-row : (g : Group) (t : ℕ) (e : Event) (past : Past) (r : Row) → awaits g t (e ∷ past) ≡ awaits g t past → holds g t (e ∷ past) ≡ holds g t past → KeepsRow g t past r → KeepsRow g t (e ∷ past) r
keeps-row g t e past r a h k = record { home_is = k.home_is; awaited = k.awaited ∙ sym a; held = k.held ∙ ap length (sym h) }

pub quiet_rows : QuietRows
quiet_rows g e past valid made w h k =
    let q : LeavesSems g e past = quiet_move_leaves_sems g e past valid made h in
    record { small = k.small; row_room = k.row_room; rows = λ t there. keeps-row g t e past (row_at w.rows t) (q.awaited t) (q.held t) (k.rows t there) }

pub ask_rows : AskRows
ask_rows g e past valid made w t s h sems_kept k = record {
  small = k.small;
  row_room = λ u there. still-below w.rows t u _ (k.row_room u there);
  rows = λ u there. by_task u there (t == u) refl;
}
  where
    last : IsReachable g past × IsMove g past e
    last = last_move g made

    a : IsAsked g t s past
    a = (next g (rules_of g valid) last.0 last.1).asked t s h

    granted : asks.is_granted t (base_key g t past) s w ≡ is_granted g (protocol g s) s t past
    granted = grants_as_rules g e past valid made w t s h sems_kept

    waited-none : awaits g t past ≡ None
    waited-none = none-waits g t past a.waits_none

    out : has s (holds g t past) ≡ false
    out = unless _ (λ m. clash _ (one-holds g t s past m).1 (asks-holds_not g t s past a))

    own : (b : Bool) → is_granted g (protocol g s) s t past ≡ b → KeepsRow g t (e ∷ past) (row_asked b s (row_at w.rows t))
    own true m =
        let q : IsGrant g t s e past = lock_grants g e past valid made t s h m in
        let n : length (holds g t (e ∷ past)) ≡ length (holds g t past) + 1 = length-more s (holds g t past) (holds g t (e ∷ past)) (distinct-holds g t past) (distinct-holds g t (e ∷ past)) out q.gains in
        let r : KeepsRow g t past (row_at w.rows t) = k.rows t a.member in
        record {
          home_is = r.home_is;
          awaited = r.awaited ∙ waited-none ∙ sym q.waits_not;
          held = one-more (row_at w.rows t).held (length (holds g t (e ∷ past))) (omega (arith, n, r.held)) (omega (arith, holds-few g t (e ∷ past), k.small));
        }
    own false m =
        let q : IsQueueing g t s e past = lock_queues g e past valid made t s h m in
        let r : KeepsRow g t past (row_at w.rows t) = k.rows t a.member in
        record { home_is = r.home_is; awaited = sym q.waits; held = r.held ∙ ap length (sym (q.held t)) }

    other : (u : ℕ) → u == t ≡ false → (b : Bool) → is_granted g (protocol g s) s t past ≡ b → KeepsRow g u past (row_at w.rows u) → KeepsRow g u (e ∷ past) (row_at w.rows u)
    other u ne true m r = let q : KeepsHolds g u e past = (lock_grants g e past valid made t s h m).others u ne in keeps-row g u e past (row_at w.rows u) q.awaited q.held r
    other u ne false m r = let q : IsQueueing g t s e past = lock_queues g e past valid made t s h m in keeps-row g u e past (row_at w.rows u) (q.others u ne) (q.held u) r

    by_task : (u : ℕ) → has u (tasks g) ≡ true → (b : Bool) → t == u ≡ b → KeepsRow g u (e ∷ past) (row_at (slice_set w.rows t (row_asked (asks.is_granted t (base_key g t past) s w) s (row_at w.rows t))) u)
    by_task u there true m =
        let new : Row = row_asked (asks.is_granted t (base_key g t past) s w) s (row_at w.rows t) in
        let here : KeepsRow g t (e ∷ past) (row_asked (asks.is_granted t (base_key g t past) s w) s (row_at w.rows t)) = rw granted (own (is_granted g (protocol g s) s t past) refl) in
        rw (at-same w.rows t u (row_asked (asks.is_granted t (base_key g t past) s w) s (row_at w.rows t)) no_row m (k.row_room t a.member)) (subst (λ (n : ℕ). KeepsRow g n (e ∷ past) (row_asked (asks.is_granted t (base_key g t past) s w) s (row_at w.rows t))) (eqb-true t u m) here)
    by_task u there false m = rw (at-other w.rows t u (row_asked (asks.is_granted t (base_key g t past) s w) s (row_at w.rows t)) no_row m) (other u (turn u m) (is_granted g (protocol g s) s t past) refl (k.rows u there))
      where
        turn : (v : ℕ) → t == v ≡ false → v == t ≡ false
        turn v n = unless _ (λ z. let same : v ≡ t = eqb-true v t z in clash _ (equal_self t) (rw same at n))

-- ---- at first

read-rows : (ts : List Task) (n : ℕ) → n < length ts → slice_index_or (map new_row ts) n no_row ≡ new_row (slice_index_or ts n no_task)
read-rows [] n h = absurd (omega arith)
read-rows (x ∷ ts) zero h = refl
read-rows (x ∷ ts) (suc n) h = read-rows ts n (omega arith)

task-at : (g : Group) (t : ℕ) → has t (tasks g) ≡ true → (1 ≤ t) × (t < 1 + length g.setup.tasks)
unfolding tasks
task-at g t h = between t 1 (length g.setup.tasks) (both _ _ (rw has-filter at h)).0

row-new : (g : Group) (t : ℕ) → 1 ≤ t → t < 1 + length g.setup.tasks → row_at (no_row ∷ map new_row g.setup.tasks) t ≡ new_row (task g t)
unfolding task
row-new g zero a b = absurd (omega arith)
row-new g (suc n) a b = read-rows g.setup.tasks n (omega arith) ∙ ap (λ (m : ℕ). new_row (slice_index_or g.setup.tasks m no_task)) (omega arith)

empty-length : (xs : List ℕ) → ((r : ℕ) → has r xs ≡ true → ⊥) → length xs ≡ 0
empty-length [] h = refl
empty-length (x ∷ xs) h = absurd (h x (rw (equal_self x) refl))

first-row : (g : Group) (t : ℕ) → KeepsRow g t [] (new_row (task g t))
unfolding home
first-row g t = record {
  home_is = refl;
  awaited = sym (none-waits g t [] (λ s there. nobody-waits g t s));
  held = sym (empty-length (holds g t []) (λ r m. clash _ (holder-engaged g t r [] (one-holds g t r [] m).1) (nobody-engaged g t r)));
}

pub new_rows : NewRows
new_rows g w valid o = record {
  small = o.small;
  row_room = λ t there. let b = task-at g t there in let m : length (map new_row g.setup.tasks) ≡ length g.setup.tasks = length-map _ _ in omega (arith, ap length o.rows, m);
  rows = λ t there. let b = task-at g t there in rw (ap (λ (rs : List Row). row_at rs t) o.rows ∙ row-new g t b.0 b.1) (first-row g t);
}
