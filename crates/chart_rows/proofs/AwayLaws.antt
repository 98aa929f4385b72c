-- What a state shows of tasks whose job is not there yet stays as the clock moves, until their release, and until an act touches them.
use Rattle.std.proofs.Common.{◌≡◌, ◌∙◌, ℕ, zero, suc, ◌<◌, ◌≤◌, Bool, true, false, not, ◌&&◌, ◌||◌, List, [], ◌∷◌, ◌⊎◌, inl, inr, refl, sym, ap, subst, arith}
use Rattle.std.specs.Prelude.{◌==◌, nat_lt, nat_le, Option, None, Some, if◌then◌else◌, replicate, slice_index_or, slice_set}
use Rattle.std.proofs.lemmas.Bool.Decides.{nat_tests}
use Rattle.rt_task.specs.Validity.{IsValid}
use Rattle.rt_rules.specs.Numbers.{is}
use Rattle.rt_rules.proofs.BoolLaws.{clash, neither}
use Rattle.rt_rules.proofs.MemberLaws.{some-is}
use Rattle.rt_rules.specs.SemState.{Asks}
use Rattle.rt_model.specs.Blocking.{is_blocked}
use Rattle.rt_model.specs.Group.{Group, task}
use Rattle.rt_model.specs.Holders.{awaits}
use Rattle.rt_model.specs.Jobs.{done}
use Rattle.rt_model.specs.Outcomes.{past_act}
use Rattle.rt_model.specs.Past.{Acted, Clock, Event, Past, PastAct, now, sem_act}
use Rattle.rt_model.specs.Reachable.{IsReachable}
use Rattle.rt_model.specs.Releases.{exists, has_come, is_released, opens_early, release}
use Rattle.rt_model.specs.Runs.{runs}
use Rattle.rt_model.specs.Sleep.{sleeps}
use Rattle.rt_laws.proofs.Moves.{IsMove, clock_moves, cpu_acts, last_move}
use Rattle.rt_laws.proofs.semaphores.Requests.{asks}
use Rattle.rt_changes.specs.Touched.{SameJob, arriving}
use Rattle.rt_changes.proofs.rankings.TouchedTasks.{clock-none, facts-none, job-none, other-none}
use Rattle.trace_views.specs.Cells.{TaskCell, cell_away}
use Rattle.trace_views.specs.Cells as cells
use Rattle.chart_cells.specs.Kept.{later, rank, state_cell}
use Rattle.chart_rows.specs.AwayTasks.{AreAway, IsAwayUntil, IsNotBefore, ticks_untouched, without_tick}
use Rattle.chart_rows.specs.Looks.{doing_by, state_doing, there_by}
use Rattle.chart_rows.specs.Rows.{TaskKept, task_seen}
use Rattle.chart_rows.specs.UpTo.{touches}
use Rattle.chart_rows.proofs.Looks.{for-rank, state-cell}
use Rattle.chart_rows.proofs.ReadyTasks.{awake-later}
use Rattle.chart_rows.proofs.Waits.{stays-free}

-- ---- the list

set-where : (ticks : List ℕ) (t u tick : ℕ) → (slice_index_or (slice_set ticks t tick) u 0 ≡ slice_index_or ticks u 0) ⊎ ((t ≡ u) × (slice_index_or (slice_set ticks t tick) u 0 ≡ tick))
set-where [] t u tick = inl refl
set-where (x ∷ xs) zero zero tick = inr (refl, refl)
set-where (x ∷ xs) zero (suc u) tick = inl refl
set-where (x ∷ xs) (suc t) zero tick = inl refl
set-where (x ∷ xs) (suc t) (suc u) tick = further (set-where xs t u tick)
  where
    further : (slice_index_or (slice_set xs t tick) u 0 ≡ slice_index_or xs u 0) ⊎ ((t ≡ u) × (slice_index_or (slice_set xs t tick) u 0 ≡ tick))
        → (slice_index_or (slice_set xs t tick) u 0 ≡ slice_index_or xs u 0) ⊎ ((suc t ≡ suc u) × (slice_index_or (slice_set xs t tick) u 0 ≡ tick))
    further (inl h) = inl h
    further (inr h) = inr (ap suc h.0, h.1)

none-known : (z n t : ℕ) → slice_index_or (replicate n z) t z ≡ z
none-known z zero t = refl
none-known z (suc n) zero = refl
none-known z (suc n) (suc t) = none-known z n t

pub none-away : (g : Group) (past : Past) (n : ℕ) → AreAway g past (replicate n 0)
none-away g past n t known = absurd (omega (arith, known, none-known 0 n t))

dropped : (ticks : List ℕ) (u t : ℕ) → 0 < slice_index_or (slice_set ticks u 0) t 0 → (t == u ≡ false) × (slice_index_or (slice_set ticks u 0) t 0 ≡ slice_index_or ticks t 0)
dropped [] u t h = absurd (omega arith)
dropped (x ∷ xs) zero zero h = absurd (omega arith)
dropped (x ∷ xs) zero (suc t) h = (grind (arith, nat_tests), refl)
dropped (x ∷ xs) (suc u) zero h = (grind (arith, nat_tests), refl)
dropped (x ∷ xs) (suc u) (suc t) h = let p = dropped xs u t h in (grind (arith, nat_tests, p.0), p.1)

tick-left : (o : Option ℕ) (ticks : List ℕ) (t : ℕ) → 0 < slice_index_or (without_tick o ticks) t 0 → (is t o ≡ false) × (slice_index_or (without_tick o ticks) t 0 ≡ slice_index_or ticks t 0)
tick-left None ticks t h = (refl, refl)
tick-left (Some u) ticks t h = dropped ticks u t h

-- ---- what such a task shows

module _ (g : Group) (past : Past) (t tick : ℕ) where
  not-come : (o : Option ℕ) → IsNotBefore tick o → now past < tick → has_come (now past) o ≡ false
  not-come None h low = refl
  not-come (Some r) h low = grind (arith, nat_tests, h, low)

  not-there : IsAwayUntil g past t tick → now past < tick → exists g t past ≡ false
  unfolding exists is_released opens_early
  not-there a low = let come = not-come (release g t past) a.not_before low in rw come (by_early (task g t).early (nat_lt 0 (done t past)) a.not_early)
    where
      by_early : (a b : Bool) → a && b ≡ false → a && (b && true) ≡ false
      by_early true true h = h
      by_early true false h = refl
      by_early false b h = refl

  away-cell : IsAwayUntil g past t tick → now past < tick → state_cell g t past ≡ cell_away g
  away-cell a low = let there = not-there a low in rw (a.awaits_none, a.awake, there) refl

pub away-still : (g : Group) (past : Past) (ticks : List ℕ) (k : TaskKept) → AreAway g past ticks → now past < slice_index_or ticks k.task 0 → k ≡ task_seen g past k
away-still g past ticks k all low =
    let known : 0 < slice_index_or ticks k.task 0 = omega (arith, low) in
    let cell = away-cell g past k.task (slice_index_or ticks k.task 0) (all k.task known) low in
    let stays : later k.kept (cell_away g) ≡ k.kept = (let no : nat_lt (rank k.kept.doing) 0 ≡ false = grind (arith, nat_tests) in rw no refl) in
    ap (λ (c : TaskCell). let x : TaskKept = record k { kept = c } in x) (sym (ap (later k.kept) cell ∙ stays))

-- ---- how it is known

there-away : (a b : Bool) → there_by a b ≡ cells.away → (a ≡ false) × (b ≡ false)
there-away true b h = cc
there-away false true h = cc
there-away false false h = (refl, refl)

not-released : (a early ended : Bool) → a || (early && (ended && not a)) ≡ false → early && ended ≡ false
not-released true early ended h = cc
not-released false true true h = h
not-released false true false h = refl
not-released false false ended h = refl

module _ (g : Group) (past : Past) (t : ℕ) where
  waiting-not : (s : ℕ) (b : Bool) → (if b then cells.blocked s else cells.waits s) ≡ cells.away → ⊥
  waiting-not s true h = cc
  waiting-not s false h = cc

  waits-none : (o : Option ℕ) → doing_by g t past o ≡ cells.away → (o ≡ None) × (sleeps t past ≡ false) × (exists g t past ≡ false)
  waits-none (Some s) h = absurd (waiting-not s (is_blocked g t past) h)
  waits-none None h = let p = there-away (sleeps t past) (exists g t past) h in (refl, p.0, p.1)

  away-known : (tick : ℕ) → IsNotBefore tick (release g t past) → state_doing g t past ≡ cells.away → IsAwayUntil g past t tick
  unfolding exists is_released opens_early
  away-known tick not_before h =
      let p = waits-none (awaits g t past) h in
      record { awake = p.1; awaits_none = p.0; not_early = not-released (has_come (now past) (release g t past)) (task g t).early (nat_lt 0 (done t past)) p.2; not_before = not_before }

  pub away-learnt : (ticks : List ℕ) (tick : ℕ) → IsNotBefore tick (release g t past) → state_doing g t past ≡ cells.away → AreAway g past ticks → AreAway g past (slice_set ticks t tick)
  away-learnt ticks tick not_before h all u known = by_place (set-where ticks t u tick)
    where
      by_place : (slice_index_or (slice_set ticks t tick) u 0 ≡ slice_index_or ticks u 0) ⊎ ((t ≡ u) × (slice_index_or (slice_set ticks t tick) u 0 ≡ tick)) → IsAwayUntil g past u (slice_index_or (slice_set ticks t tick) u 0)
      by_place (inl m) = subst (IsAwayUntil g past u) (sym m) (all u (omega (arith, known, m)))
      by_place (inr m) = subst (IsAwayUntil g past u) (sym m.1) (subst (λ n. IsAwayUntil g past n tick) m.0 (away-known tick not_before h))

-- a row that has seen the state and shows no job shows what that does
pub shown-away : (g : Group) (past : Past) (k new : TaskKept) → new ≡ task_seen g past k → new.kept.doing ≡ cells.away → state_doing g k.task past ≡ cells.away
shown-away g past k new is away = no-rank (state_doing g k.task past) (sym (for-rank g k.task past (state_doing g k.task past)) ∙ sym (ap (λ (c : TaskCell). rank c.doing) (state-cell g k.task past)) ∙ low)
  where
    by_test : (b : Bool) → nat_lt (rank k.kept.doing) (rank (state_cell g k.task past).doing) ≡ b → (if b then state_cell g k.task past else k.kept).doing ≡ cells.away → rank (state_cell g k.task past).doing ≡ 0
    by_test true h shown = ap rank shown
    by_test false h shown = let none : rank k.kept.doing ≡ 0 = ap rank shown in grind (arith, nat_tests, h, none)

    low : rank (state_cell g k.task past).doing ≡ 0
    low = by_test _ refl (sym (ap (λ (x : TaskKept). x.kept.doing) is) ∙ away)

    no-rank : (d : cells.Doing) → rank d ≡ 0 → d ≡ cells.away
    no-rank (cells.works qs) h = absurd (omega arith)
    no-rank (cells.blocked s) h = absurd (omega arith)
    no-rank (cells.waits s) h = absurd (omega arith)
    no-rank cells.sleeping h = absurd (omega arith)
    no-rank (cells.running qs) h = absurd (omega arith)
    no-rank cells.ready h = absurd (omega arith)
    no-rank cells.away h = refl

-- ---- from move to move

module _ (g : Group) (past : Past) (t tick : ℕ) where
  stays-away : (e : Event) → ((s : ℕ) → sem_act e ≡ Asks t s → ⊥) → SameJob g t past (e ∷ past) → sleeps t (e ∷ past) ≡ false → IsAwayUntil g past t tick → IsAwayUntil g (e ∷ past) t tick
  stays-away e asks_not s awake a = record {
    awake = awake;
    awaits_none = stays-free g t e past asks_not a.awaits_none;
    not_early = ap (λ n. (task g t).early && nat_lt 0 n) s.done_same ∙ a.not_early;
    not_before = subst (IsNotBefore tick) (sym s.release_same) a.not_before;
  }

  act-keeps : {e : Event} → IsMove g past e → (d : PastAct) → e ≡ Acted d → touches d t ≡ false → IsAwayUntil g past t tick → IsAwayUntil g (e ∷ past) t tick
  unfolding past_act
  act-keeps (clock_moves n) d same h a = cc
  act-keeps (cpu_acts q act) d same h a =
      let act_is : past_act g q act past ≡ d = cc in
      let p = neither (is t (runs q past)) (is t (arriving act)) (ap (λ (x : PastAct). touches x t) act_is ∙ h) in
      let facts = facts-none g t (past_act g q act past) past (other-none g q act past t p.0 p.1) in
      stays-away (Acted (past_act g q act past)) (λ s k. clash _ (some-is t (runs q past) (asks g q act past t s k).runs_it) p.0) facts.same_job (facts.same_ready.sleeps_same ∙ a.awake) a

  clock-keeps : (n : ℕ) → IsAwayUntil g past t tick → IsAwayUntil g (Clock n ∷ past) t tick
  clock-keeps n a =
      let s : SameJob g t past (Clock n ∷ past) = job-none g t (Clock n) past (clock-none n t past) in
      stays-away (Clock n) (λ s k. cc) s (awake-later g past t n s a.awake) a

pub away-after-act : (g : Group) (d : PastAct) (past : Past) (ticks : List ℕ) → IsReachable g (Acted d ∷ past) → AreAway g past ticks → AreAway g (Acted d ∷ past) (ticks_untouched d ticks)
away-after-act g d past ticks made all t known =
    let a = tick-left (arriving d.act) (without_tick d.task ticks) t known in
    let b = tick-left d.task ticks t (omega (arith, known, a.1)) in
    let same = a.1 ∙ b.1 in
    subst (IsAwayUntil g (Acted d ∷ past) t) (sym same) (act-keeps g past t (slice_index_or ticks t 0) (last_move g made).1 d refl (rw (b.0, a.0)) (all t (omega (arith, known, same))))

pub away-after-clock : (g : Group) (tick : ℕ) (past : Past) (ticks : List ℕ) → AreAway g past ticks → AreAway g (Clock tick ∷ past) ticks
away-after-clock g tick past ticks all t known = clock-keeps g past t (slice_index_or ticks t 0) tick (all t known)
