-- What asking and freeing do to a semaphore of either kind.
use Rattle.std.proofs.Common.{◌≡◌, ◌≢◌, ◌⊎◌, ℕ, ◌<◌, Bool, true, false, true≢false, is_some, ◌&&◌, inl, inr, eqb-true, List, [], ◌∷◌, ◌++◌, length, set, refl, sym, ap, ◌∙◌, subst, length-set, get_or-set_same, get_or-set_other, Option, Some, None, ◌↔◌}
use Rattle.std.specs.Prelude.{◌==◌}
use Rattle.rt_base.specs.declared.Ask.{Ask}
use Rattle.rt_base.specs.declared.Ask.TheVariants.{Granted, Queued}
use Rattle.rt_rules.specs.KeyOrder.{higher, equal_keys}
use Rattle.rt_rules.specs.Mpcp.{after_ask, passed_on}
use Rattle.rt_rules.specs.Numbers.{first, foremost, has, is, rest, without}
use Rattle.rt_rules.specs.SemState.{in_line}
use Rattle.rt_rules.proofs.BoolLaws.{clash, either}
use Rattle.rt_rules.proofs.MemberLaws.{equal_self, has-push, has-without, some-is, without-first}
use Rattle.sem_laws.specs.KeptKeys.{key_at, above}
use Rattle.mpcp_sem.specs.MpcpState.{MpcpState}
use Rattle.split_rules.specs.SemHistories.{outcome}
use Rattle.split_inbox.specs.Books.{above_prio, prio_key}
use Rattle.split_inbox.specs.Queues.{IsKeyed}
use Rattle.split_inbox.proofs.Choosing.{foremost_same}

pub line_asked : (line : List ℕ) (t : ℕ) → in_line (line ++ t ∷ []) ≡ after_ask t (in_line line).holder (in_line line)
line_asked [] t = refl
line_asked (x ∷ xs) t = refl

pub line_freed : (line : List ℕ) (t : ℕ) → (in_line line).holder ≡ Some t → in_line (without t line) ≡ passed_on (first (in_line line).waiting) (in_line line).waiting
line_freed line t holds = ap in_line (without-first t line (some-is t (first line) holds)) ∙ next (rest line)
  where
    next : (xs : List ℕ) → in_line xs ≡ passed_on (first xs) xs
    next [] = refl
    next (x ∷ xs) = rw (equal_self x) refl

pub outside_line : (line : List ℕ) (t : ℕ) → is t (in_line line).holder ≡ false → has t (in_line line).waiting ≡ false → has t line ≡ false
outside_line [] t a b = refl
outside_line (x ∷ xs) t a b = rw a b

pub holds_none : (o : Option ℕ) (t : ℕ) → is t o ≡ false → o ≢ Some t
holds_none o t not h = clash _ (some-is t o h) not

pub answered : (o : Option ℕ) (a : Ask) → (a ≡ Granted) ↔ (o ≡ None) → (a ≡ Queued) ↔ (o ≢ None) → a ≡ outcome o
answered None a g q = g.1 refl
answered (Some t) a g q = q.1 (λ e. true≢false (ap is_some e))

module _ (prios : List ℕ) (m : MpcpState) (keyed : IsKeyed prios m) where
  -- the keys of the tasks that wait are as they were where the key of another task is set
  kept_key : (t u : ℕ) → has t m.state.waiting ≡ false → has u m.state.waiting ≡ true → key_at (set m.keys t (prio_key prios t)) u ≡ prio_key prios u
  kept_key t u out there =
      get_or-set_other m.keys t u (prio_key prios t) _ (λ e. clash (has t m.state.waiting) (ap (λ x. has x m.state.waiting) (sym e) ∙ there) out) ∙ keyed.keys u there

  pub keyed_asked : (t : ℕ) → t < length prios → has t m.state.waiting ≡ false
      → IsKeyed prios (record { state = after_ask t m.state.holder m.state; keys = set m.keys t (prio_key prios t) })
  keyed_asked t low out = record {
    room = length-set m.keys t (prio_key prios t) ∙ keyed.room;
    keys = by_holder m.state.holder;
  }
    where
      by_holder : (o : Option ℕ) (u : ℕ) → has u (after_ask t o m.state).waiting ≡ true → key_at (set m.keys t (prio_key prios t)) u ≡ prio_key prios u
      by_holder None u h = kept_key t u out h
      by_holder (Some v) u h = by_place (either (u == t) (has u m.state.waiting) (sym (has-push u t m.state.waiting) ∙ h))
        where
          by_place : (u == t ≡ true) ⊎ (has u m.state.waiting ≡ true) → key_at (set m.keys t (prio_key prios t)) u ≡ prio_key prios u
          by_place (inl e) =
              let is : u ≡ t = eqb-true u t e in
              subst (λ x. key_at (set m.keys t (prio_key prios t)) x ≡ prio_key prios x) (sym is) (get_or-set_same m.keys t (prio_key prios t) _ (rw keyed.room low))
          by_place (inr there) = kept_key t u out there

  pub apart_keys : (t u : ℕ) → has t m.state.waiting ≡ false → has u m.state.waiting ≡ true → equal_keys (key_at m.keys u) (prio_key prios t) ≡ false
  apart_keys t u out there = ap (λ k. equal_keys k (prio_key prios t)) (keyed.keys u there) ∙ last _ (u == t) (not_same (u == t) refl)
    where
      not_same : (b : Bool) → (u == t) ≡ b → b ≡ false
      not_same true e = absurd (clash (has t m.state.waiting) (ap (λ x. has x m.state.waiting) (sym (eqb-true u t e)) ∙ there) out)
      not_same false e = refl

      last : (b c : Bool) → c ≡ false → b && c ≡ false
      last true c e = e
      last false c e = refl

  pub next_same : foremost (above m.keys) m.state.waiting ≡ foremost (above_prio prios) m.state.waiting
  next_same = foremost_same (above m.keys) (above_prio prios) m.state.waiting (λ x y hx hy. λ i. higher (keyed.keys x hx i) (keyed.keys y hy i))

  pub passed_same : passed_on (foremost (above m.keys) m.state.waiting) m.state.waiting ≡ passed_on (foremost (above_prio prios) m.state.waiting) m.state.waiting
  passed_same = ap (λ o. passed_on o m.state.waiting) next_same

  pub keyed_freed : IsKeyed prios (record m { state = passed_on (foremost (above m.keys) m.state.waiting) m.state.waiting })
  keyed_freed = record { room = keyed.room; keys = by_next (foremost (above m.keys) m.state.waiting) }
    where
      by_next : (o : Option ℕ) (u : ℕ) → has u (passed_on o m.state.waiting).waiting ≡ true → key_at m.keys u ≡ prio_key prios u
      by_next None u h = keyed.keys u h
      by_next (Some t) u h = keyed.keys u (has-without u t m.state.waiting h)

-- who holds after the semaphore was passed on
pub holder_passed : (o : Option ℕ) (w : List ℕ) → (passed_on o w).holder ≡ o
holder_passed None w = refl
holder_passed (Some t) w = refl
