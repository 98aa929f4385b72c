-- A set of just the tasks that pass, as tasks are touched, and as its first are taken out.
use Rattle.std.proofs.Common.{◌≡◌, ℕ, zero, suc, ◌+◌, ◌<◌, Bool, true, false, not, ◌&&◌, ◌||◌, cond, eqb-true, List, [], ◌∷◌, length, map, get_or, set, refl, sym, ap, ◌∙◌, subst, arith, length-set, get_or-set_same, get_or-set_other}
use Rattle.std.proofs.lemmas.List.Sums.{sum_by-cons}
use Rattle.std.specs.Prelude.{◌==◌, Option, None, Some, is_some, count_by, filter}
use Rattle.rt_rules.specs.declared.Key.{Key}
use Rattle.rt_rules.specs.KeyOrder.{higher}
use Rattle.rt_rules.specs.Numbers.{has}
use Rattle.rt_rules.specs.Distinct.{IsDistinct}
use Rattle.rt_rules.specs.Keys.{Ranked, ahead, inserted, sorted}
use Rattle.rt_rules.proofs.BoolLaws.{both, or_true, clash, neither}
use Rattle.rt_rules.proofs.MemberLaws.{equal_self, has-filter}
use Rattle.rt_rules.specs.Rankings.{ranked_by}
use Rattle.rt_rules.proofs.RankingLaws.{ahead-total}
use Rattle.rt_rules.proofs.RankedByLaws.{ranked_by-with}
use Rattle.ready_heap.specs.Row.{key_at}
use Rattle.ready_heap.specs.Ready.{size, IsFirst}
use Rattle.ready_queue.specs.ReadySet.{HoldsJust, kept_key, set_refreshed, set_without, SetIsRefreshed, FirstAreTheRanking, SetIsRestored}
use Rattle.ready_queue.proofs.Refreshing.{others}

-- ---- tasks are touched

length-refreshed : (key : ℕ → Key) (test : ℕ → Bool) (touched : List ℕ) (keys : List (Option Key)) → length (set_refreshed key test touched keys) ≡ length keys
length-refreshed key test [] keys = refl
length-refreshed key test (t ∷ touched) keys = length-refreshed key test touched (set keys t (kept_key key test t)) ∙ length-set _ _ _

pub at_set : (keys : List (Option Key)) (t u : ℕ) (o : Option Key) → t < length keys → key_at (set keys t o) u ≡ cond (u == t) o (key_at keys u)
at_set keys t u o low = by_case (u == t) refl
  where
    by_case : (b : Bool) → u == t ≡ b → get_or (set keys t o) u None ≡ cond b o (get_or keys u None)
    by_case true e = let s : u ≡ t = eqb-true u t e in rw s (get_or-set_same keys t o None low)
    by_case false e = get_or-set_other keys t u o None (λ m. clash _ (rw m (equal_self t)) e)

-- at a touched task its key now is kept, where it passes, and at others what was kept
at_refreshed : (key : ℕ → Key) (test : ℕ → Bool) (touched : List ℕ) (keys : List (Option Key)) (u : ℕ) → ((t : ℕ) → has t touched ≡ true → t < length keys) → key_at (set_refreshed key test touched keys) u ≡ cond (has u touched) (kept_key key test u) (key_at keys u)
at_refreshed key test [] keys u room = refl
at_refreshed key test (t ∷ touched) keys u room =
    at_refreshed key test touched (set keys t (kept_key key test t)) u (λ v h. let low : v < length keys = room v (rw h (or_true (v == t))) in omega (arith, low, length-set keys t (kept_key key test t)))
    ∙ rw (at_set keys t u (kept_key key test t) (room t (rw (equal_self t)))) (by_case (u == t) refl (has u touched))
  where
    by_case : (b : Bool) → u == t ≡ b → (c : Bool) → cond c (kept_key key test u) (cond b (kept_key key test t) (key_at keys u)) ≡ cond (b || c) (kept_key key test u) (key_at keys u)
    by_case true e true = refl
    by_case true e false = rw (eqb-true u t e)
    by_case false e c = refl

pub set_is_refreshed : SetIsRefreshed
set_is_refreshed touched ts key key' test test' keys agree holds = record {
  room = λ t h. let low = holds.room t h in omega (arith, low, length-refreshed key' test' touched keys);
  is_in = λ t. at_refreshed key' test' touched keys t (λ v h. holds.room v (agree.inside v h)) ∙ rw (holds.is_in t) (by_case t (has t touched) (has t ts) refl refl);
}
  where
    same : (t : ℕ) → has t ts ≡ true → has t touched ≡ false → (b : Bool) → test t ≡ b → cond b (Some (key t)) None ≡ cond (test' t) (Some (key' t)) None
    same t h k true e = let n : test' t ≡ true = sym (agree.tests t h k) ∙ e in rw (n, agree.keys t h k e)
    same t h k false e = let n : test' t ≡ false = sym (agree.tests t h k) ∙ e in rw n

    by_case : (t : ℕ) (b c : Bool) → has t touched ≡ b → has t ts ≡ c → cond b (kept_key key' test' t) (cond (c && test t) (Some (key t)) None) ≡ cond (c && test' t) (Some (key' t)) None
    by_case t true true e k = refl
    by_case t true false e k = absurd (clash _ (agree.inside t e) k)
    by_case t false true e k = same t k e (test t) refl
    by_case t false false e k = refl

-- ---- the first of the set

-- the first of a ranking is one of its tasks, with its key
first-made : (key : ℕ → Key) (us : List ℕ) (w : Ranked) (ws : List Ranked) → sorted (map (λ t. record { key = key t; task = t }) us) ≡ w ∷ ws → (has w.task us ≡ true) × (w.key ≡ key w.task)
first-made key [] w ws h = cc
first-made key (u ∷ us) w ws h = by_rest (sorted (map (λ t. record { key = key t; task = t }) us)) refl h (λ x xs. first-made key us x xs)
  where
    here : w ≡ record { key = key u; task = u } → (has w.task (u ∷ us) ≡ true) × (w.key ≡ key w.task)
    here e = rw e (rw (equal_self u), refl)

    by_rest : (rs : List Ranked) → sorted (map (λ t. record { key = key t; task = t }) us) ≡ rs → inserted (record { key = key u; task = u }) rs ≡ w ∷ ws → ((x : Ranked) (xs : List Ranked) → sorted (map (λ t. record { key = key t; task = t }) us) ≡ x ∷ xs → (has x.task us ≡ true) × (x.key ≡ key x.task)) → (has w.task (u ∷ us) ≡ true) × (w.key ≡ key w.task)
    by_rest [] e k before = here cc
    by_rest (x ∷ xs) e k before = by_case (ahead (record { key = key u; task = u }) x) k (before x xs e)
      where
        by_case : (b : Bool) → cond b (record { key = key u; task = u } ∷ x ∷ xs) (x ∷ inserted (record { key = key u; task = u }) xs) ≡ w ∷ ws → (has x.task us ≡ true) × (x.key ≡ key x.task) → (has w.task (u ∷ us) ≡ true) × (w.key ≡ key w.task)
        by_case true m r = here cc
        by_case false m r = let same : x ≡ w = cc in let there : has x.task (u ∷ us) ≡ true = rw r.0 (or_true (x.task == u)) in subst (λ (y : Ranked). (has y.task (u ∷ us) ≡ true) × (y.key ≡ key y.task)) same (there, r.1)

-- one that goes ahead of the first of a list goes to its front
inserted-front : (a : Ranked) (rs : List Ranked) → ((w : Ranked) (ws : List Ranked) → rs ≡ w ∷ ws → ahead a w ≡ true) → inserted a rs ≡ a ∷ rs
inserted-front a [] front = refl
inserted-front a (x ∷ xs) front = rw (front x xs refl)

-- the first of the set is one of the tasks that pass, and none that passes goes ahead of it
pub first-of : (ts : List ℕ) (key : ℕ → Key) (test : ℕ → Bool) (keys : List (Option Key)) (u : ℕ) → HoldsJust ts key test keys → IsFirst higher keys u → (has u ts ≡ true) × (test u ≡ true) × ((v : ℕ) → has v ts ≡ true → test v ≡ true → ahead (record { key = key v; task = v }) (record { key = key u; task = u }) ≡ false)
first-of ts key test keys u holds f = (member.0, member.1, behind)
  where
    in_it : (b : Bool) → has u ts && test u ≡ b → cond b (Some (key u)) None ≡ Some f.key → (b ≡ true) × (f.key ≡ key u)
    in_it true e k = (refl, cc)
    in_it false e k = cc

    facts : (has u ts && test u ≡ true) × (f.key ≡ key u)
    facts = in_it (has u ts && test u) refl (sym (holds.is_in u) ∙ f.is_in)

    member : (has u ts ≡ true) × (test u ≡ true)
    member = both _ _ facts.0

    behind : (v : ℕ) → has v ts ≡ true → test v ≡ true → ahead (record { key = key v; task = v }) (record { key = key u; task = u }) ≡ false
    behind v h k = let there : key_at keys v ≡ Some (key v) = holds.is_in v ∙ rw (h, k) in subst (λ j. ahead (record { key = key v; task = v }) (record { key = j; task = u }) ≡ false) facts.1 (f.best v (key v) there)

-- the first of the set is the first of the ranking
pub first-ranked : (ts : List ℕ) (key : ℕ → Key) (test : ℕ → Bool) (keys : List (Option Key)) (u : ℕ) → IsDistinct ts → HoldsJust ts key test keys → IsFirst higher keys u → (has u ts ≡ true) × (ranked_by key test ts ≡ record { key = key u; task = u } ∷ ranked_by key (others u test) ts)
first-ranked ts key test keys u d holds f = (first.0, ranked_by-with key test u ts true d first.0 first.1 ∙ inserted-front _ _ front)
  where
    first : (has u ts ≡ true) × (test u ≡ true) × ((v : ℕ) → has v ts ≡ true → test v ≡ true → ahead (record { key = key v; task = v }) (record { key = key u; task = u }) ≡ false)
    first = first-of ts key test keys u holds f

    front : (w : Ranked) (ws : List Ranked) → ranked_by key (others u test) ts ≡ w ∷ ws → ahead (record { key = key u; task = u }) w ≡ true
    front w ws e =
        let r = first-made key (filter (others u test) ts) w ws e in
        let parts = both (has w.task ts) (others u test w.task) (rw has-filter at r.0) in
        let other : (w.task == u ≡ false) × (test w.task ≡ true) = apart (w.task == u) (test w.task) parts.1 in
        let whole : ahead (record { key = w.key; task = w.task }) (record { key = key u; task = u }) ≡ false = subst (λ k. ahead (record { key = k; task = w.task }) (record { key = key u; task = u }) ≡ false) (sym r.1) (first.2 w.task parts.0 other.1) in
        ahead-total w (record { key = key u; task = u }) other.0 whole
      where
        apart : (a b : Bool) → not a && b ≡ true → (a ≡ false) × (b ≡ true)
        apart true b h = cc
        apart false b h = (refl, h)

-- a set with one task taken out holds just the others
holds-others : (ts : List ℕ) (key : ℕ → Key) (test : ℕ → Bool) (keys : List (Option Key)) (u : ℕ) → has u ts ≡ true → HoldsJust ts key test keys → HoldsJust ts key (others u test) (set keys u None)
holds-others ts key test keys u there holds = record {
  room = λ t h. let low = holds.room t h in omega (arith, low, length-set keys u None);
  is_in = λ t. at_set keys u t None (holds.room u there) ∙ rw (holds.is_in t) (by_case t (t == u) (has t ts));
}
  where
    by_case : (t : ℕ) (b c : Bool) → cond b None (cond (c && test t) (Some (key t)) None) ≡ cond (c && (not b && test t)) (Some (key t)) None
    by_case t true true = refl
    by_case t true false = refl
    by_case t false c = refl

-- an empty set holds nothing
pub none-at : (keys : List (Option Key)) (t : ℕ) → count_by is_some keys ≡ 0 → get_or keys t None ≡ None
none-at [] t h = refl
none-at (None ∷ keys) zero h = refl
none-at (None ∷ keys) (suc t) h = none-at keys t h
none-at (Some k ∷ keys) t h = let c : count_by is_some (Some k ∷ keys) ≡ 1 + count_by is_some keys = sum_by-cons (λ (o : Option Key). cond (is_some o) 1 0) (Some k) keys in absurd (omega (arith, h, c))

pub none-holds : (ts : List ℕ) (key : ℕ → Key) (test : ℕ → Bool) (keys : List (Option Key)) → HoldsJust ts key test keys → size keys ≡ 0 → filter test ts ≡ []
none-holds ts key test keys holds h = by_first (filter test ts) refl
  where
    out : (t : ℕ) → has t ts && test t ≡ true → ⊥
    out t e = let k : Some (key t) ≡ None = rw e at (sym (holds.is_in t) ∙ none-at keys t h) in cc

    by_first : (us : List ℕ) → filter test ts ≡ us → us ≡ []
    by_first [] e = refl
    by_first (u ∷ us) e = let there : has u (filter test ts) ≡ true = subst (λ xs. has u xs ≡ true) (sym e) (rw (equal_self u)) in absurd (out u (rw has-filter at there))

pub none-ranked : (ts : List ℕ) (key : ℕ → Key) (test : ℕ → Bool) (keys : List (Option Key)) → HoldsJust ts key test keys → size keys ≡ 0 → ranked_by key test ts ≡ []
none-ranked ts key test keys holds h = ap (λ us. sorted (map (λ t. record { key = key t; task = t }) us)) (none-holds ts key test keys holds h)

pub first_are_the_ranking : FirstAreTheRanking
first_are_the_ranking zero ts key test keys us d holds taken = taken
first_are_the_ranking (suc m) ts key test keys [] d holds taken = rw (none-ranked ts key test keys holds taken)
first_are_the_ranking (suc m) ts key test keys (u ∷ us) d holds taken =
    let r = first-ranked ts key test keys u d holds taken.0 in
    rw r.1 (ap (λ xs. u ∷ xs) (first_are_the_ranking m ts key (others u test) (set keys u None) us d (holds-others ts key test keys u r.0 holds) taken.1))

-- ---- tasks that were taken out are put back

length-without : (us : List ℕ) (keys : List (Option Key)) → length (set_without us keys) ≡ length keys
length-without [] keys = refl
length-without (u ∷ us) keys = length-without us (set keys u None) ∙ length-set _ _ _

at_without : (us : List ℕ) (keys : List (Option Key)) (t : ℕ) → ((u : ℕ) → has u us ≡ true → u < length keys) → has t us ≡ false → key_at (set_without us keys) t ≡ key_at keys t
at_without [] keys t room out = refl
at_without (u ∷ us) keys t room out =
    let q = neither (t == u) (has t us) out in
    at_without us (set keys u None) t (λ v h. let low : v < length keys = room v (rw h (or_true (v == u))) in omega (arith, low, length-set keys u None)) q.1
    ∙ rw (at_set keys u t None (room u (rw (equal_self u))), q.0)

pub set_is_restored : SetIsRestored
set_is_restored us ts key test keys inside holds = record {
  room = λ t h. let low = holds.room t h in omega (arith, low, length-refreshed key test us (set_without us keys), length-without us keys);
  is_in = λ t. at_refreshed key test us (set_without us keys) t (λ v h. let low : v < length keys = holds.room v (inside v h) in omega (arith, low, length-without us keys)) ∙ by_case t (has t us) refl;
}
  where
    by_case : (t : ℕ) (b : Bool) → has t us ≡ b → cond b (kept_key key test t) (key_at (set_without us keys) t) ≡ cond (has t ts && test t) (Some (key t)) None
    by_case t true e = rw (inside t e)
    by_case t false e = at_without us keys t (λ v h. holds.room v (inside v h)) e ∙ holds.is_in t
