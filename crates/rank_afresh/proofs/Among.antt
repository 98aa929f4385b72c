-- Ranked tasks that are of a list, each once, as one is taken out or put in.
use Rattle.std.proofs.Common.{◌≡◌, ℕ, suc, ◌<◌, ◌≤◌, Bool, true, false, cond, List, [], ◌∷◌, length, inl, inr, refl, sym, ap, ◌∙◌, arith, eqb-true}
use Rattle.std.specs.Prelude.{◌==◌, ◌||◌, Option, None, Some}
use Rattle.std.proofs.lemmas.List.{length-map}
use Rattle.rt_rules.specs.declared.Key.{Key}
use Rattle.rt_rules.specs.Distinct.{IsDistinct}
use Rattle.rt_rules.specs.Keys.{Ranked, inserted}
use Rattle.rt_rules.specs.Numbers.{has}
use Rattle.rt_rules.specs.Rankings.{tasks_of, without_task}
use Rattle.rt_rules.proofs.BoolLaws.{clash, either}
use Rattle.rt_rules.proofs.DistinctLaws.{length-distinct}
use Rattle.rt_rules.proofs.MemberLaws.{equal_self}
use Rattle.rt_rules.proofs.RankedLaws.{distinct-inserted, has-inserted}
use Rattle.ready_queue.proofs.OrderedLaws.{in_order-inserted, in_order-without}
use Rattle.ready_queue.proofs.SplitLaws.{has-without}
use Rattle.rank_afresh.specs.Candidates.{with_key}
use Rattle.rank_afresh.specs.Ranks.{AreAmong}

still-there : (t u : ℕ) (rs : List Ranked) → IsDistinct (tasks_of rs) → has u (tasks_of (without_task t rs)) ≡ true → has u (tasks_of rs) ≡ true
still-there t u rs once h = by_case (u == t) (sym (has-without t u rs once) ∙ h)
  where
    by_case : (b : Bool) → cond b false (has u (tasks_of rs)) ≡ true → has u (tasks_of rs) ≡ true
    by_case true k = cc
    by_case false k = k

pub gone : (t : ℕ) (rs : List Ranked) → IsDistinct (tasks_of rs) → has t (tasks_of (without_task t rs)) ≡ false
gone t rs once = has-without t t rs once ∙ ap (λ b. cond b false (has t (tasks_of rs))) (equal_self t)

distinct-without : (t : ℕ) (rs : List Ranked) → IsDistinct (tasks_of rs) → IsDistinct (tasks_of (without_task t rs))
distinct-without t [] once = tt
distinct-without t (r ∷ rs) once = by_case (r.task == t) (distinct-without t rs once.1)
  where
    absent : (b : Bool) → has r.task (tasks_of (without_task t rs)) ≡ b → b ≡ false
    absent true e = absurd (clash _ (still-there t r.task rs once.1 e) once.0)
    absent false e = refl

    by_case : (b : Bool) → IsDistinct (tasks_of (without_task t rs)) → IsDistinct (tasks_of (cond b rs (r ∷ without_task t rs)))
    by_case true rest = once.1
    by_case false rest = (absent (has r.task (tasks_of (without_task t rs))) refl, rest)

module _ (ts : List ℕ) (t : ℕ) (rs : List Ranked) (are : AreAmong ts rs) where
  pub among-without : AreAmong ts (without_task t rs)
  among-without = record {
    once = distinct-without t rs are.once;
    inside = λ u h. are.inside u (still-there t u rs are.once h);
    order = in_order-without t rs are.order;
  }

  module _ (there : has t ts ≡ true) where
    -- there is room for it
    pub room-left : IsDistinct ts → length (without_task t rs) < length ts
    room-left each =
        let few : suc (length (tasks_of (without_task t rs))) ≤ length ts = length-distinct (t ∷ tasks_of (without_task t rs)) ts (gone t rs are.once, among-without.once) each inside in
        omega (arith, few, length-map (without_task t rs) (λ (r : Ranked). r.task))
      where
        inside : (u : ℕ) → has u (t ∷ tasks_of (without_task t rs)) ≡ true → has u ts ≡ true
        inside u h = by_case (u == t) refl h
          where
            by_case : (b : Bool) → u == t ≡ b → b || has u (tasks_of (without_task t rs)) ≡ true → has u ts ≡ true
            by_case true e k = rw (eqb-true u t e) there
            by_case false e k = among-without.inside u k

    pub among-inserted : (a : Ranked) → a.task ≡ t → AreAmong ts (inserted a (without_task t rs))
    among-inserted a is = record {
      once = distinct-inserted a (without_task t rs) (rw is (gone t rs are.once)) among-without.once;
      inside = λ u h. elim (either (u == a.task) (has u (tasks_of (without_task t rs))) (sym (has-inserted u a (without_task t rs)) ∙ h))
          [ inl e ↦ rw (eqb-true u a.task e, is) there | inr k ↦ among-without.inside u k ];
      order = in_order-inserted a (without_task t rs) among-without.order;
    }

    pub among-with : (o : Option Key) → AreAmong ts (with_key t o (without_task t rs))
    among-with None = among-without
    among-with (Some k) = among-inserted (record { key = k; task = t }) refl
