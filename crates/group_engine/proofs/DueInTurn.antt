-- The loop that brings up the tasks that are due, turn by turn.
use Rattle.std.proofs.Common.{◌≡◌, ℕ, ◌<◌, Bool, true, false, refl, sym, ap, ◌∙◌, subst}
use Rattle.std.proofs.Common.{List, [], ◌∷◌, ◌++◌, set, append-nil, append_assoc, eqb-true, get_or-set_other}
use Rattle.std.specs.Prelude.{◌==◌, None, Some}
use Rattle.std.proofs.lemmas.Bool.{eqb-false}
use Rattle.rt_task.specs.declared.Parts.{Parts}
use Rattle.rt_rules.specs.Numbers.{has}
use Rattle.release_queue.specs.Timers.{IsNextDue, NothingDue, tick_at}
use Rattle.group_jobs.specs.Kept.{job_of}
use Rattle.group_jobs.specs.Timers.{AreDue}
use Rattle.group_jobs.specs.GroupJobs.{task_in}
use Rattle.group_core.specs.Reads.{timer_in}
use Rattle.group_engine.specs.declared.state.GroupState.{GroupState}
use Rattle.group_engine.specs.inside.Touching.{AreArmedOnly, CanUpdate, CanUpdateAll, all_updated, updated}
use Rattle.group_engine.proofs.Updating.{all_updated-push, can-after}
use Rattle.group_engine.proofs.DueAgain.{IsLater, due-again, due_count, fewer-due, later-timer}

-- some tasks that were due have been brought up, and those that are due now are the others
pub record AreInTurn (p : Parts) (start s : GroupState) : Type 0 where
  pub clock_is : s.core.facts.kept.clock ≡ start.core.facts.kept.clock
  pub tasks : List ℕ
  pub can : CanUpdateAll p tasks s
  pub armed : AreArmedOnly tasks s
  pub us : List ℕ
  pub state_is : s ≡ all_updated p us start
  pub goes_on : (vs : List ℕ) → AreDue start.core.facts.kept.clock s.timers vs → AreDue start.core.facts.kept.clock start.timers (us ++ vs)

pub in-turn-none : (p : Parts) (s : GroupState) → (ts : List ℕ) × CanUpdateAll p ts s × AreArmedOnly ts s → AreInTurn p s s
in-turn-none p s h = record {
  clock_is = refl;
  tasks = h.0;
  can = h.1;
  armed = h.2;
  us = [];
  state_is = refl;
  goes_on = λ vs d. d;
}

-- the next that is due
module _ (p : Parts) (start s : GroupState) (u : ℕ) (h : AreInTurn p start s) (next : IsNextDue s.timers start.core.facts.kept.clock u) where
  next-can : CanUpdate p u s
  next-can = h.can u (h.armed u next.tick next.armed)

  -- it waits for a moment after the clock then
  later-now : IsLater start.core.facts.kept.clock (timer_in p s.core.facts.kept u)
  later-now = rw (← h.clock_is) (later-timer s.core.facts.kept.clock (task_in p.tasks u) (job_of s.core.facts.kept u))

  pub in-turn-more : AreInTurn p start (updated p u s)
  in-turn-more = record {
    clock_is = h.clock_is;
    tasks = h.tasks;
    can = λ t k. can-after p t u s (h.can t k);
    armed = armed;
    us = h.us ++ u ∷ [];
    state_is = ap (updated p u) h.state_is ∙ sym (all_updated-push p h.us u start);
    goes_on = goes_on;
  }
    where
      armed : (t n : ℕ) → tick_at (set s.timers u (timer_in p s.core.facts.kept u)) t ≡ Some n → has t h.tasks ≡ true
      armed t n e = by_place (t == u) refl
        where
          by_place : (b : Bool) → t == u ≡ b → has t h.tasks ≡ true
          by_place true same = rw (eqb-true t u same) (h.armed u next.tick next.armed)
          by_place false other =
              h.armed t n (sym (get_or-set_other s.timers u t (timer_in p s.core.facts.kept u) None (eqb-false t u other)) ∙ e)

      goes_on : (vs : List ℕ) → AreDue start.core.facts.kept.clock (set s.timers u (timer_in p s.core.facts.kept u)) vs
          → AreDue start.core.facts.kept.clock start.timers ((h.us ++ u ∷ []) ++ vs)
      goes_on vs due =
          let others = due-again start.core.facts.kept.clock vs s.timers u (timer_in p s.core.facts.kept u) later-now due in
          rw append_assoc (h.goes_on (u ∷ vs) (next, others))

  -- each turn leaves fewer that are due
  pub in-turn-fewer : due_count start.core.facts.kept.clock (updated p u s).timers < due_count start.core.facts.kept.clock s.timers
  in-turn-fewer = fewer-due start.core.facts.kept.clock s.timers u (timer_in p s.core.facts.kept u) next-can.timer_room next later-now

pub in-turn-all : (p : Parts) (start s : GroupState) → AreInTurn p start s → NothingDue s.timers start.core.facts.kept.clock
    → (us : List ℕ) × AreDue start.core.facts.kept.clock start.timers us × (s ≡ all_updated p us start)
in-turn-all p start s h none =
    (h.us, subst (AreDue start.core.facts.kept.clock start.timers) (append-nil h.us) (h.goes_on [] none), h.state_is)
