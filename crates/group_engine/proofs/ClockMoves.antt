-- The state as the clock moves.
use Rattle.std.proofs.Common.{◌≡◌, ℕ, ◌<◌, max, Bool, true, false, ◌&&◌, ◌||◌, List, [], ◌∷◌, length, length-set, set, eqb-true, refl, sym, ap, ◌∙◌, subst, arith}
use Rattle.std.specs.Prelude.{◌==◌, Option, None, Some, if◌then◌else◌}
use Rattle.rt_base.specs.declared.TheConstants.{TICK_END}
use Rattle.rt_task.specs.Validity.{IsValid}
use Rattle.rt_task.specs.declared.Parts.{Parts}
use Rattle.rt_rules.specs.Numbers.{has}
use Rattle.rt_rules.proofs.BoolLaws.{both, or_true}
use Rattle.rt_rules.proofs.MemberLaws.{equal_self}
use Rattle.rt_model.specs.Group.{Group, home, tasks}
use Rattle.rt_model.specs.Holders.{awaits}
use Rattle.rt_model.specs.Past.{Clock, Past, now}
use Rattle.rt_model.specs.Reachable.{clocked as clocked-too}
use Rattle.rt_laws.proofs.Moves.{clock_moves}
use Rattle.rt_laws.proofs.ValidSets.{rules_of}
use Rattle.release_queue.specs.Timers.{tick_at}
use Rattle.rt_changes.specs.Touched.{comes_due}
use Rattle.rt_changes.proofs.rankings.QuietMoves.{base_key-same, key-quiet}
use Rattle.rt_changes.proofs.rankings.SameClusters.{runs-clock}
use Rattle.rt_changes.proofs.rankings.SameEligibility.{awaits-quiet, srp-quiet}
use Rattle.rt_changes.proofs.rankings.TouchedTasks.{clock_keeps_jobs, clock_touches_due}
use Rattle.group_jobs.specs.Timers.{AreDue, AreMoved, TimersAreKept, renewed, ticks_without, timer_at}
use Rattle.group_jobs.proofs.TimerMoves.{timers_after_clock}
use Rattle.group_jobs.proofs.TimerSets.{length-without, tick-set, tick-without}
use Rattle.group_core.specs.Words.{GroupAt}
use Rattle.group_core.specs.Facts.{clocked}
use Rattle.group_core.specs.Standing as core
use Rattle.group_core.proofs.Admitting.{admitted-over}
use Rattle.group_core.proofs.Moves.{at-clocked, fit-clocked}
use Rattle.group_engine.specs.declared.state.GroupState.{GroupState}
use Rattle.group_engine.specs.Moments.{CanEnd, CanMove}
use Rattle.group_engine.specs.State.{HasClusterAt, IsAt, IsFitAt, acts_left}
use Rattle.group_engine.specs.inside.Touching.{CanUpdateAll, all_updated}
use Rattle.group_engine.proofs.Bounding.{can-look}
use Rattle.group_engine.proofs.Reading.{IsAlike}
use Rattle.group_engine.proofs.Settling.{HasClusterBetween, IsBetween, brought}

-- ---- timers that are set again need not be taken out

pub length-renewed : (f : ℕ → Option ℕ) (us : List ℕ) (ticks : List (Option ℕ)) → length (renewed f us ticks) ≡ length ticks
length-renewed f [] ticks = refl
length-renewed f (u ∷ us) ticks = length-renewed f us (set ticks u (f u)) ∙ length-set _ _ _

pub tick-renewed : (f : ℕ → Option ℕ) (us : List ℕ) (ticks : List (Option ℕ)) (t : ℕ) → ((u : ℕ) → has u us ≡ true → u < length ticks)
    → tick_at (renewed f us ticks) t ≡ (if has t us then f t else tick_at ticks t)
tick-renewed f [] ticks t room = refl
tick-renewed f (u ∷ us) ticks t room =
    tick-renewed f us (set ticks u (f u)) t (λ v k. let r : v < length ticks = room v (rw k (or_true (v == u))) in omega (arith, r, length-set ticks u (f u)))
    ∙ by_cases (has t us) (t == u) refl
  where
    there : u < length ticks
    there = room u (rw (equal_self u))

    by_cases : (b c : Bool) → t == u ≡ c → (if b then f t else tick_at (set ticks u (f u)) t) ≡ (if c || b then f t else tick_at ticks t)
    by_cases true true e = refl
    by_cases true false e = refl
    by_cases false true e = let same : t ≡ u = eqb-true t u e in tick-set ticks u t (f u) there ∙ rw e (ap f (sym same))
    by_cases false false e = tick-set ticks u t (f u) there ∙ rw e refl

timers-again : (g : Group) (past : Past) (us : List ℕ) (ticks : List (Option ℕ)) → ((u : ℕ) → has u us ≡ true → u < length ticks)
    → TimersAreKept g past (renewed (timer_at g past) us (ticks_without us ticks)) → TimersAreKept g past (renewed (timer_at g past) us ticks)
timers-again g past us ticks room kept = record {
  room = λ t h. omega (arith, kept.room t h, length-renewed (timer_at g past) us (ticks_without us ticks), length-without us ticks, length-renewed (timer_at g past) us ticks);
  armed = λ t. same t ∙ kept.armed t;
}
  where
    same : (t : ℕ) → tick_at (renewed (timer_at g past) us ticks) t ≡ tick_at (renewed (timer_at g past) us (ticks_without us ticks)) t
    same t =
        tick-renewed (timer_at g past) us ticks t room
        ∙ by_case (has t us) refl
        ∙ sym (tick-renewed (timer_at g past) us (ticks_without us ticks) t (λ u h. omega (arith, room u h, length-without us ticks)))
      where
        by_case : (b : Bool) → has t us ≡ b → (if has t us then timer_at g past t else tick_at ticks t) ≡ (if has t us then timer_at g past t else tick_at (ticks_without us ticks) t)
        by_case true e = rw e refl
        by_case false e = rw (e, tick-without us ticks t room, e) refl

-- ---- the move

rest-false : (a b c : Bool) → c ≡ a && b → a ≡ true → c ≡ false → b ≡ false
rest-false true b c h k m = sym h ∙ m
rest-false false b c h k m = cc

-- whoever waits for a moment is a task of the group
pub armed-member : (g : Group) (past : Past) (ticks : List (Option ℕ)) → TimersAreKept g past ticks → (t tick : ℕ) → tick_at ticks t ≡ Some tick → has t (tasks g) ≡ true
armed-member g past ticks kept t tick h = by_case (has t (tasks g)) refl
  where
    by_case : (b : Bool) → has t (tasks g) ≡ b → b ≡ true
    by_case true e = refl
    by_case false e = let none : tick_at ticks t ≡ None = kept.armed t ∙ rw e refl in cc

-- the state whose clock has moved, before the tasks that are due are looked at
abbrev pub clocked_state : ℕ → GroupState → GroupState
clocked_state tick s = record s { core = record s.core { facts = clocked tick s.core.facts } }

module _ (g : Group) (past : Past) (s : GroupState) (at : IsAt g past s) (tick : ℕ) (low : tick < TICK_END) where
  valid : IsValid g.setup
  valid = at.core_fit.valid

  moved : core.IsMoved g (Clock tick) past s.core.facts.resvs (clocked tick s.core.facts)
  moved = at-clocked g s.core.facts (acts_left past) (acts_left past) at.core_fit tick past at.core_at

  fit : IsFitAt g (Clock tick ∷ past) (clocked tick s.core.facts)
  fit = fit-clocked g s.core.facts (acts_left past) (acts_left past) at.core_fit tick low

  -- each task of the group can be looked at then
  pub can-clocked : CanUpdateAll g.setup (tasks g) (clocked_state tick s)
  can-clocked t h = can-look g past s at (record s.core { facts = clocked tick s.core.facts }) (acts_left past) (acts_left past) fit t h

  module _ (us : List ℕ) (due : AreDue (max (now past) tick) s.timers us) where
    ticks : AreMoved g tick past s.timers us
    ticks = timers_after_clock g past valid at.core_at.reachable tick s.timers us at.timers_are due

    inside : (t : ℕ) → has t us ≡ true → has t (tasks g) ≡ true
    inside t h = (both (has t (tasks g)) (comes_due g tick t past) (sym (ticks.due t) ∙ h)).0

    -- a task that does not come due is as before
    alike : (t : ℕ) → comes_due g tick t past ≡ false → IsAlike g t past (Clock tick ∷ past)
    alike t out =
        let still = clock_touches_due g past valid at.core_at.reachable tick t out in
        let job = clock_keeps_jobs g past valid at.core_at.reachable tick t in
        let waits : awaits g t (Clock tick ∷ past) ≡ awaits g t past = awaits-quiet g t (Clock tick) past refl in
        let admitted = admitted-over g (rules_of g valid) at.core_at.reachable (clock_moves tick) t (refl, refl) (srp-quiet g (home g t) (Clock tick) past refl) in
        record {
          stands_same = rw (still.ready_same, waits, admitted) refl;
          key_same = key-quiet g valid (Clock tick) past (clocked-too tick at.core_at.reachable) refl t (base_key-same g t past (Clock tick ∷ past) job);
          told_same = rw (still.ready_same, job.release_same) refl;
        }

    between : {c : ℕ} → HasClusterAt g c past s.clusters → HasClusterBetween g c (Clock tick) past s.clusters
    between {c} was = record {
      cluster = was.cluster;
      there = was.there;
      is_between = record {
        cpus_are = was.is_at.cpus_are;
        first_is = was.is_at.first_is;
        room = was.is_at.room;
        keys_are = was.is_at.keys_are;
        runs_are = was.is_at.runs_are ∙ sym (runs-clock g c tick past);
        links_are = was.is_at.links_are;
      };
    }

    between-clock : IsBetween g (Clock tick) past us (clocked_state tick s)
    between-clock = record {
      few = at.few;
      before = s.core.facts.resvs;
      moved = moved;
      fit = fit;
      timers_are = timers-again g (Clock tick ∷ past) us s.timers (λ u h. at.timers_are.room u (inside u h)) ticks.kept;
      homes_are = at.homes_are;
      clusters_are = λ c h. between (at.clusters_are c h);
      inside = inside;
      others = λ t h k. alike t (rest-false (has t (tasks g)) (comes_due g tick t past) (has t us) (ticks.due t) h k);
    }

-- once those that are due were looked at, the move is to be ended
pub clock-ends : (at : GroupAt) (tick : ℕ) (p : Parts) (s : GroupState) (s1 s2 : GroupState) (us : List ℕ) → CanMove at tick p s → s1 ≡ clocked_state tick s
    → AreDue s1.core.facts.kept.clock s.timers us → s2 ≡ all_updated p us s1 → CanEnd (record { group = at.group; past = Clock tick ∷ at.past }) p s2
clock-ends at tick p s s1 s2 us can clocked_is due is =
    let clock : s1.core.facts.kept.clock ≡ max (now at.past) tick = ap (λ (x : GroupState). x.core.facts.kept.clock) clocked_is ∙ ap (λ n. max n tick) can.kept.core_at.kept.clock_is in
    let due_then : AreDue (max (now at.past) tick) s.timers us = subst (λ n. AreDue n s.timers us) clock due in
    let all = brought at.group can.played (Clock tick) at.past us (clocked_state tick s) (between-clock at.group at.past s can.kept tick can.tick_low us due_then) in
    record { played = can.played; ending = rw (is, clocked_is, can.parts_are) all; parts_are = can.parts_are }
