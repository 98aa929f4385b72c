-- A ranking is kept by taking out the tasks that were touched, and putting back those that pass.
use Rattle.std.proofs.Common.{◌≡◌, ℕ, Bool, true, false, not, ◌&&◌, cond, eqb-true, List, [], ◌∷◌, refl, sym, ap, ◌∙◌}
use Rattle.std.specs.Prelude.{◌==◌}
use Rattle.rt_rules.specs.declared.Key.{Key}
use Rattle.rt_rules.specs.Numbers.{has}
use Rattle.rt_rules.specs.Distinct.{IsDistinct}
use Rattle.rt_rules.specs.Keys.{Ranked}
use Rattle.rt_rules.proofs.BoolLaws.{and_false, or_true, neither}
use Rattle.rt_rules.proofs.MemberLaws.{equal_self, turned}
use Rattle.rt_rules.proofs.RankedLaws.{tasks_ranked}
use Rattle.rt_rules.specs.Rankings.{without_task, ranked_by}
use Rattle.rt_rules.proofs.RankedByLaws.{ranked_by-same, ranked_by-with, ranked_by-less, has-ranked_by}
use Rattle.ready_queue.specs.Refreshed.{AgreeBut, put_back, refreshed, RankingIsRefreshed}

-- a task that is not there is not taken out
pub without-absent : (t : ℕ) (rs : List Ranked) → has t (tasks_ranked rs) ≡ false → without_task t rs ≡ rs
without-absent t [] h = refl
without-absent t (r ∷ rs) h = let q = neither (t == r.task) _ h in let other : r.task == t ≡ false = turned r.task t ∙ q.0 in rw other (ap (λ xs. r ∷ xs) (without-absent t rs q.1))

-- all but one task pass as before
abbrev pub others : ℕ → (ℕ → Bool) → ℕ → Bool
others t test u = not (u == t) && test u

-- the ranking with one task taken out
pub ranked_by-others : (key : ℕ → Key) (test : ℕ → Bool) (t : ℕ) (ts : List ℕ) → IsDistinct ts → has t ts ≡ true → ranked_by key (others t test) ts ≡ without_task t (ranked_by key test ts)
ranked_by-others key test t ts d there = by_case (test t) refl
  where
    out : test t ≡ false → (u : ℕ) (b : Bool) → u == t ≡ b → not b && test u ≡ test u
    out e u true k = rw (eqb-true u t k) (sym e)
    out e u false k = refl

    by_case : (b : Bool) → test t ≡ b → ranked_by key (others t test) ts ≡ without_task t (ranked_by key test ts)
    by_case true e = ranked_by-less key test (others t test) t ts d there e (λ u. refl)
    by_case false e =
        let absent : has t (tasks_ranked (ranked_by key test ts)) ≡ false = has-ranked_by key test t ts ∙ rw e (and_false (has t ts)) in
        ranked_by-same key key (others t test) test ts (λ u h. out e u (u == t) refl) (λ u h k. refl) ∙ sym (without-absent t (ranked_by key test ts) absent)

-- one task has another key, or passes now, or passes no more
abbrev changed_key : ℕ → (ℕ → Key) → (ℕ → Key) → ℕ → Key
changed_key t key key' u = cond (u == t) (key' u) (key u)

abbrev changed_test : ℕ → (ℕ → Bool) → (ℕ → Bool) → ℕ → Bool
changed_test t test test' u = cond (u == t) (test' u) (test u)

changed : (key key' : ℕ → Key) (test test' : ℕ → Bool) (t : ℕ) (ts : List ℕ) → IsDistinct ts → has t ts ≡ true → ranked_by (changed_key t key key') (changed_test t test test') ts ≡ put_back key' test' t (ranked_by key test ts)
changed key key' test test' t ts d there =
    let new_key : ℕ → Key = changed_key t key key' in
    let new_test : ℕ → Bool = changed_test t test test' in
    let rest : ranked_by new_key (others t new_test) ts ≡ without_task t (ranked_by key test ts) = ranked_by-same new_key key (others t new_test) (others t test) ts (λ u h. same_test u (u == t) refl) (λ u h k. same_key u (u == t) refl k) ∙ ranked_by-others key test t ts d there in
    let key_now : new_key t ≡ key' t = rw (equal_self t) in
    ranked_by-with new_key new_test t ts (test' t) d there (rw (equal_self t)) ∙ rw (key_now, rest)
  where
    same_test : (u : ℕ) (b : Bool) → u == t ≡ b → not b && cond b (test' u) (test u) ≡ not b && test u
    same_test u true e = refl
    same_test u false e = refl

    same_key : (u : ℕ) (b : Bool) → u == t ≡ b → not b && cond b (test' u) (test u) ≡ true → cond b (key' u) (key u) ≡ key u
    same_key u true e k = cc
    same_key u false e k = refl

pub ranking_is_refreshed : RankingIsRefreshed
ranking_is_refreshed [] ts key key' test test' d agree = sym (ranked_by-same key key' test test' ts (λ t h. agree.tests t h refl) (λ t h k. agree.keys t h refl k))
ranking_is_refreshed (t ∷ touched) ts key key' test test' d agree =
    ranking_is_refreshed touched ts (changed_key t key key') key' (changed_test t test test') test' d later
    ∙ ap (λ rs. refreshed key' test' touched rs) (changed key key' test test' t ts d (agree.inside t (rw (equal_self t))))
  where
    outside : (u : ℕ) (b : Bool) → u == t ≡ b → b ≡ false → has u touched ≡ false → has u (t ∷ touched) ≡ false
    outside u b e k h = rw (e, k) h

    tests : (u : ℕ) (b : Bool) → u == t ≡ b → has u ts ≡ true → has u touched ≡ false → cond b (test' u) (test u) ≡ test' u
    tests u true e h k = refl
    tests u false e h k = agree.tests u h (outside u false e refl k)

    keys : (u : ℕ) (b : Bool) → u == t ≡ b → has u ts ≡ true → has u touched ≡ false → cond b (test' u) (test u) ≡ true → cond b (key' u) (key u) ≡ key' u
    keys u true e h k m = refl
    keys u false e h k m = agree.keys u h (outside u false e refl k) m

    later : AgreeBut touched ts (changed_key t key key') key' (changed_test t test test') test'
    later = record {
      inside = λ u h. agree.inside u (rw h (or_true (u == t)));
      tests = λ u h k. tests u (u == t) refl h k;
      keys = λ u h k m. keys u (u == t) refl h k m;
    }
