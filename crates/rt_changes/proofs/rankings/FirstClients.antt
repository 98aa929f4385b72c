-- The first of a reservation's ready clients by release is its front client.
use Rattle.std.proofs.Common.{◌≡◌, ℕ, Bool, true, false, ◌&&◌, ◌||◌, ◌⊎◌, inl, inr, cond, eqb-true, List, [], ◌∷◌, refl, sym, ap, ◌∙◌, subst, arith}
use Rattle.std.specs.Prelude.{◌==◌, nat_lt, Option, Some, filter, find, unwrap_or}
use Rattle.std.proofs.lemmas.Bool.Decides.{nat_tests}
use Rattle.rt_rules.specs.KeyOrder.{higher}
use Rattle.rt_rules.specs.Keys.{ahead}
use Rattle.rt_rules.specs.Numbers.{foremost, has}
use Rattle.rt_rules.proofs.BoolLaws.{both, clash, either, or_true}
use Rattle.rt_rules.proofs.MemberLaws.{equal_self, has-all, has-filter, list_all-has, turned}
use Rattle.rt_model.specs.Group.{Group, clients}
use Rattle.rt_model.specs.Past.{Past}
use Rattle.rt_model.specs.Releases.{ready, release}
use Rattle.rt_model.specs.Reservations.{earlier, front}
use Rattle.rt_rules.proofs.RankingLaws.{ahead-total}
use Rattle.ready_heap.specs.Ready.{IsFirst}
use Rattle.rt_changes.specs.Fronts.{client_key, FrontIsFirst}
use Rattle.ready_queue.proofs.ReadySets.{first-of, none-holds}

-- ---- the foremost of a list

find-one : (p : ℕ → Bool) (xs : List ℕ) (x : ℕ) → has x xs ≡ true → p x ≡ true → ((y : ℕ) → has y xs ≡ true → p y ≡ true → y ≡ x) → find p xs ≡ Some x
find-one p [] x h k one = cc
find-one p (y ∷ ys) x h k one = by_case (p y) refl (either (x == y) (has x ys) h) (λ m. find-one p ys x m k (λ z n. one z (rw n (or_true (z == y)))))
  where
    by_case : (b : Bool) → p y ≡ b → (x == y ≡ true) ⊎ (has x ys ≡ true) → (has x ys ≡ true → find p ys ≡ Some x) → cond b (Some y) (find p ys) ≡ Some x
    by_case true e s rest = ap {B = Option ℕ} (λ n. Some n) (one y (rw (equal_self y)) e)
    by_case false e (inl m) rest = let same : x ≡ y = eqb-true x y m in let n : p y ≡ true = subst (λ z. p z ≡ true) same k in cc
    by_case false e (inr m) rest = rest m

foremost-is : (before : ℕ → ℕ → Bool) (xs : List ℕ) (x : ℕ) → ((a b : ℕ) → before a b ≡ true → before b a ≡ false) → has x xs ≡ true → ((y : ℕ) → has y xs ≡ true → x == y || before x y ≡ true) → foremost before xs ≡ Some x
foremost-is before xs x turn h best = find-one _ xs x h (has-all (λ y. x == y || before x y) xs best) (λ y k all. one y k (list_all-has (λ z. y == z || before y z) xs x all h))
  where
    one : (y : ℕ) → has y xs ≡ true → y == x || before y x ≡ true → y ≡ x
    one y k m = split (either (y == x) (before y x) m) (either (x == y) (before x y) (best y k))
      where
        split : (y == x ≡ true) ⊎ (before y x ≡ true) → (x == y ≡ true) ⊎ (before x y ≡ true) → y ≡ x
        split (inl e) o = eqb-true y x e
        split (inr e) (inl f) = sym (eqb-true x y f)
        split (inr e) (inr f) = absurd (clash _ e (turn x y f))

-- ---- the front client

earlier-turned : (g : Group) (past : Past) (t u : ℕ) → earlier g past t u ≡ true → earlier g past u t ≡ false
unfolding earlier
earlier-turned g past t u h = order (unwrap_or (release g t past) 0) (unwrap_or (release g u past) 0) h
  where
    order : (a b : ℕ) → nat_lt a b || a == b && nat_lt t u ≡ true → nat_lt b a || b == a && nat_lt u t ≡ false
    order a b k = grind (arith, nat_tests, k)

ahead-earlier : (g : Group) (past : Past) (t u : ℕ) → ahead (record { key = client_key g past t; task = t }) (record { key = client_key g past u; task = u }) ≡ true → earlier g past t u ≡ true
unfolding earlier
ahead-earlier g past t u h = order (unwrap_or (release g t past) 0) (unwrap_or (release g u past) 0) h
  where
    order : (a b : ℕ) → ahead (record { key = record { band = 0; major = a; minor = t }; task = t }) (record { key = record { band = 0; major = b; minor = u }; task = u }) ≡ true → nat_lt a b || a == b && nat_lt t u ≡ true
    order a b k = grind (arith, nat_tests, k)

pub front_is_first : FrontIsFirst
unfolding front
front_is_first g r past keys holds = (λ t f. foremost-is (earlier g past) (filter (λ u. ready g u past) (clients g r)) t (earlier-turned g past) (member t f) (λ u h. best t f u h), λ none. ap (foremost (earlier g past)) (none-holds (clients g r) (client_key g past) (λ u. ready g u past) keys holds none))
  where
    member : (t : ℕ) → IsFirst higher keys t → has t (filter (λ u. ready g u past) (clients g r)) ≡ true
    member t f = let q = first-of (clients g r) (client_key g past) (λ u. ready g u past) keys t holds f in rw (has-filter (λ u. ready g u past) t (clients g r), q.0, q.1)

    best : (t : ℕ) → IsFirst higher keys t → (u : ℕ) → has u (filter (λ v. ready g v past) (clients g r)) ≡ true → t == u || earlier g past t u ≡ true
    best t f u h = by_case (t == u) refl
      where
        by_case : (b : Bool) → t == u ≡ b → b || earlier g past t u ≡ true
        by_case true e = refl
        by_case false e =
            let q = first-of (clients g r) (client_key g past) (λ v. ready g v past) keys t holds f in
            let p = both (has u (clients g r)) (ready g u past) (rw has-filter at h) in
            ahead-earlier g past t u (ahead-total (record { key = client_key g past u; task = u }) (record { key = client_key g past t; task = t }) (turned u t ∙ e) (q.2 u p.0 p.1))
