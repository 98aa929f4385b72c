-- What joining and leaving do to a ring.
use Rattle.std.proofs.Common.{◌≡◌, ℕ, zero, suc, ◌+◌, ◌<◌, true, false, ◌||◌, refl, ◌⊎◌, inl, inr, eqb-true, List, [], ◌∷◌, ◌++◌, length, set, sym, ap, ◌∙◌, arith, length-set, get_or-set_same, get_or-set_other, replicate}
use Rattle.std.proofs.lemmas.List.{get_or-replicate, length-replicate}
use Rattle.std.specs.Prelude.{◌==◌, slice_index}
use Rattle.std.proofs.lemmas.Bool.Decides.{nat_tests}
use Rattle.rt_rules.specs.Numbers.{has, without}
use Rattle.rt_rules.proofs.PlacingLaws.{either, unless, or_true}
use Rattle.rt_rules.proofs.MemberLaws.{equal_self, has-push, has-without}
use Rattle.rt_rules.proofs.DistinctLaws.{distinct-append, distinct-without, length-few}
use Rattle.key_queue.specs.Ring.{IsLinked, IsRing, ring_from, ring_tasks}
use Rattle.key_queue.proofs.Links.{has-last_of, previous-room, ring_from-linked, linked-push, linked-without, has-previous, has-next}

-- a number that is another is no equal one
pub differs : (a b : ℕ) → a == b ≡ false → a ≡ b → ⊥
differs a b e s = grind (arith, nat_tests)

pub not_equal : (a b : ℕ) → (a ≡ b → ⊥) → a == b ≡ false
not_equal a b n = unless (a == b) (λ e. n (eqb-true a b e))

same_position : (xs : List ℕ) (i v : ℕ) → i < length xs → slice_index (set xs i v) i ≡ v
same_position xs i v h = get_or-set_same xs i v 0 h

other_position : (xs : List ℕ) (i k v : ℕ) → k == i ≡ false → slice_index (set xs i v) k ≡ slice_index xs k
other_position xs i k v e = get_or-set_other xs i k v 0 (differs k i e)

pub ring-empty : (room : ℕ) → IsRing (replicate (room + 1) room) (replicate (room + 1) room) room []
ring-empty room = record {
  linked = (get_or-replicate (room + 1) room room 0 (omega arith), get_or-replicate (room + 1) room room 0 (omega arith));
  once = tt;
  below = λ t h. cc;
  next_length = length-replicate (room + 1) room;
  previous_length = length-replicate (room + 1) room;
}

module _ (next previous : List ℕ) (room : ℕ) (ts : List ℕ) (ring : IsRing next previous room ts) where
  pub no_room : has room ts ≡ false
  no_room = unless (has room ts) (λ h. let b : room < room = ring.below room h in omega arith)

  pub ring_tasks-ring : ring_tasks next room ≡ ts
  unfolding ring_tasks
  ring_tasks-ring = ring_from-linked next (slice_index previous) room room room ts ring.linked no_room (length-few room ts ring.once ring.below)

  within : (x : ℕ) → has x (room ∷ ts) ≡ true → x < room + 1
  within x h = join (either (x == room) (has x ts) h)
    where
      join : (x == room ≡ true) ⊎ (has x ts ≡ true) → x < room + 1
      join (inl m) = let e : x ≡ room = eqb-true x room m in omega arith
      join (inr m) = omega (arith, ring.below x m)

  pub last_within : slice_index previous room < room + 1
  last_within = within _ (ap (λ n. has n (room ∷ ts)) (previous-room (slice_index next) (slice_index previous) room room ts ring.linked) ∙ has-last_of room ts)

  pub previous_within : (t : ℕ) → has t ts ≡ true → slice_index previous t < room + 1
  previous_within t h = within _ (has-previous (slice_index next) (slice_index previous) (slice_index next) (slice_index previous) room t room ts ring.linked h)

  pub next_within : (t : ℕ) → has t ts ≡ true → slice_index next t < room + 1
  next_within t h = join (has-next (slice_index next) (slice_index previous) (slice_index next) (slice_index previous) room t room ts ring.linked h)
    where
      join : (slice_index next t ≡ room) ⊎ (has (slice_index next t) ts ≡ true) → slice_index next t < room + 1
      join (inl e) = omega arith
      join (inr m) = omega (arith, ring.below _ m)

  pub ring-push : (t l : ℕ) → l ≡ slice_index previous room → t < room → has t ts ≡ false → IsRing (set (set next l t) t room) (set (set previous t l) room t) room (ts ++ t ∷ [])
  ring-push t l is below out =
      let not_room : t == room ≡ false = not_equal t room (λ e. omega arith) in
      let room_not : room == t ≡ false = not_equal room t (λ e. omega arith) in
      let within_l : l < room + 1 = omega (arith, last_within) in
      let t_not_l : t == l ≡ false = not_equal t l (λ e. apart_last e) in
      let l_not_t : l == t ≡ false = not_equal l t (λ e. apart_last (sym e)) in
      record {
        linked = linked-push (slice_index next) (slice_index previous) (slice_index (set (set next l t) t room)) (slice_index (set (set previous t l) room t)) room t l room ts
            (is ∙ previous-room (slice_index next) (slice_index previous) room room ts ring.linked) ring.linked no_room ring.once no_room room_not out
            (other_position (set next l t) t l room l_not_t ∙ same_position next l t (omega (arith, ring.next_length)))
            (same_position (set next l t) t room (omega (arith, length-set next l t, ring.next_length)))
            (other_position (set previous t l) room t t not_room ∙ same_position previous t l (omega (arith, ring.previous_length)))
            (same_position (set previous t l) room t (omega (arith, length-set previous t l, ring.previous_length)))
            (λ k a b. other_position (set next l t) t k room b ∙ other_position next l k t a)
            (λ k a b. other_position (set previous t l) room k t b ∙ other_position previous t k l a);
        once = distinct-append t ts ring.once out;
        below = λ u h. under u (either (u == t) (has u ts) (sym (has-push u t ts) ∙ h));
        next_length = length-set _ _ _ ∙ length-set _ _ _ ∙ ring.next_length;
        previous_length = length-set _ _ _ ∙ length-set _ _ _ ∙ ring.previous_length;
      }
    where
      under : (u : ℕ) → (u == t ≡ true) ⊎ (has u ts ≡ true) → u < room
      under u (inl m) = let e : u ≡ t = eqb-true u t m in omega arith
      under u (inr m) = ring.below u m

      apart_last : t ≡ l → ⊥
      apart_last e = join (either (l == room) (has l ts) (ap (λ n. has n (room ∷ ts)) (is ∙ previous-room (slice_index next) (slice_index previous) room room ts ring.linked) ∙ has-last_of room ts))
        where
          join : (l == room ≡ true) ⊎ (has l ts ≡ true) → ⊥
          join (inl m) = let s : l ≡ room = eqb-true l room m in omega arith
          join (inr m) = let n : has t ts ≡ true = ap (λ i. has i ts) e ∙ m in cc

  pub ring-without : (t : ℕ) → has t ts ≡ true → IsRing (set next (slice_index previous t) (slice_index next t)) (set previous (slice_index next t) (slice_index previous t)) room (without t ts)
  ring-without t there = record {
    linked = linked-without (slice_index next) (slice_index previous) (slice_index (set next (slice_index previous t) (slice_index next t))) (slice_index (set previous (slice_index next t) (slice_index previous t))) room t room ts
        ring.linked no_room ring.once no_room there
        (same_position next (slice_index previous t) (slice_index next t) (omega (arith, ring.next_length, previous_within t there)))
        (same_position previous (slice_index next t) (slice_index previous t) (omega (arith, ring.previous_length, next_within t there)))
        (λ k a. other_position next (slice_index previous t) k (slice_index next t) a)
        (λ k a. other_position previous (slice_index next t) k (slice_index previous t) a);
    once = distinct-without t ts ring.once;
    below = λ u h. ring.below u (has-without u t ts h);
    next_length = length-set _ _ _ ∙ ring.next_length;
    previous_length = length-set _ _ _ ∙ ring.previous_length;
  }

  -- where the first and each following step of a walk lead
  pub first_in : has (slice_index next room) (room ∷ ts) ≡ true
  first_in = by_case ts ring.linked
    where
      by_case : (xs : List ℕ) → IsLinked (slice_index next) (slice_index previous) room room xs → has (slice_index next room) (room ∷ xs) ≡ true
      by_case [] l = rw (l.0, equal_self room)
      by_case (x ∷ xs) l = rw (l.0, equal_self x) (or_true (x == room))

  pub next_in : (t : ℕ) → has t (room ∷ ts) ≡ true → t == room ≡ false → has (slice_index next t) (room ∷ ts) ≡ true
  next_in t h apart = join (has-next (slice_index next) (slice_index previous) (slice_index next) (slice_index previous) room t room ts ring.linked (ap (λ b. b || has t ts) (sym apart) ∙ h))
    where
      join : (slice_index next t ≡ room) ⊎ (has (slice_index next t) ts ≡ true) → has (slice_index next t) (room ∷ ts) ≡ true
      join (inl e) = rw (e, equal_self room)
      join (inr m) = ap (λ b. slice_index next t == room || b) m ∙ or_true (slice_index next t == room)

  pub position_within : (t : ℕ) → has t (room ∷ ts) ≡ true → t < length next
  position_within t h = omega (arith, within t h, ring.next_length)

-- ---- a walk that adds what it finds

pub ring_tasks-from : (next : List ℕ) (room n : ℕ) → n ≡ room → ring_from next room n (slice_index next room) ≡ ring_tasks next room
unfolding ring_tasks
ring_tasks-from next room n e = ap (λ i. ring_from next room i (slice_index next room)) e

pub ring_from-end : (next : List ℕ) (room n position : ℕ) → position ≡ room → ring_from next room n position ≡ []
ring_from-end next room zero position e = refl
ring_from-end next room (suc n) position e = rw (e, equal_self room)

pub ring_from-none : (next : List ℕ) (room n position : ℕ) → n ≡ 0 → ring_from next room n position ≡ []
ring_from-none next room zero position e = refl
ring_from-none next room (suc n) position e = absurd (omega arith)

pub ring_from-step : (next : List ℕ) (room n m position : ℕ) → n ≡ m + 1 → position == room ≡ false → ring_from next room n position ≡ position ∷ ring_from next room m (slice_index next position)
ring_from-step next room zero m position e apart = absurd (omega arith)
ring_from-step next room (suc n) m position e apart = let s : n ≡ m = omega arith in rw (apart, s)
