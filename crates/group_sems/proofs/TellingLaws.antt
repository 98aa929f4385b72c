-- Telling tasks whom they wait for keeps walks of one step.
use Rattle.std.proofs.Common.{◌≡◌, ℕ, zero, suc, Bool, true, false, List, [], ◌∷◌, ◌||◌, length, eqb-true, refl, sym, ap, ◌∙◌, subst, get_or, get_or-set_other, drop, ◌+◌, ◌<◌}
use Rattle.std.proofs.lemmas.List.{drop_more}
use Rattle.rt_base.specs.declared.TaskNo.{TaskNo}
use Rattle.rt_base.specs.TaskNos.{numbers}
use Rattle.std.specs.Prelude.{◌==◌, Option, None, Some, slice_set}
use Rattle.std.proofs.lemmas.Bool.{eqb-false}
use Rattle.rt_rules.specs.declared.Key.{Key}
use Rattle.rt_rules.specs.Numbers.{has}
use Rattle.rt_rules.specs.Walks.{walk}
use Rattle.rt_rules.proofs.BoolLaws.{or_true}
use Rattle.rt_rules.proofs.MemberLaws.{equal_self}
use Rattle.prio_inherit.specs.Waits.{NoWalkComesRound, Waits, next_of}
use Rattle.group_sems.specs.Telling.{AreShallow, CanTell, told}

-- the next of a task once one was told: that one's is new, of others it is the old one
pub next-set : (nexts : List (Option ℕ)) (x t : ℕ) (o : Option ℕ) → t == x ≡ false → next_of (slice_set nexts x o) t ≡ next_of nexts t
next-set nexts x t o h = get_or-set_other nexts x t o None (eqb-false t x h)

-- it is the new one, or the position is not there
next-told : (nexts : List (Option ℕ)) (x v : ℕ) (o : Option ℕ) → next_of (slice_set nexts x o) x ≡ Some v → o ≡ Some v
next-told [] x v o h = cc
next-told (n ∷ ns) zero v o h = h
next-told (n ∷ ns) (suc x) v o h = next-told ns x v o h

-- where whoever is waited for waits for nothing, no walk comes round
pub shallow-ends : (nexts : List (Option ℕ)) → AreShallow nexts → NoWalkComesRound nexts
shallow-ends nexts shallow t = from (next_of nexts t) refl (length nexts)
  where
    once : (v n : ℕ) → next_of nexts t ≡ Some v → next_of nexts v ≡ None → has t (walk (next_of nexts) (suc n) (Some v)) ≡ false
    once v n to none = by_case (t == v) refl
      where
        stops : (m : ℕ) (o : Option ℕ) → o ≡ None → has t (walk (next_of nexts) m o) ≡ false
        stops zero o e = refl
        stops (suc m) None e = refl
        stops (suc m) (Some w) e = cc

        by_case : (b : Bool) → t == v ≡ b → b || has t (walk (next_of nexts) n (next_of nexts v)) ≡ false
        by_case true e = let same : t ≡ v = eqb-true t v e in let self : next_of nexts t ≡ None = ap (next_of nexts) same ∙ none in cc
        by_case false e = stops n (next_of nexts v) none

    from : (o : Option ℕ) → next_of nexts t ≡ o → (n : ℕ) → has t (walk (next_of nexts) n o) ≡ false
    from o e zero = refl
    from None e (suc n) = refl
    from (Some v) e (suc n) = once v n e (shallow t v e)

module _ (o x : ℕ) (xs : List ℕ) (bases : List (Option Key)) (nexts : List (Option ℕ)) (can : CanTell o (x ∷ xs) bases nexts) where
  apart : o == x ≡ false
  apart = first (o == x) (has o xs) can.owner_outside
    where
      first : (a b : Bool) → a || b ≡ false → a ≡ false
      first true b h = cc
      first false b h = refl

  here : has x (x ∷ xs) ≡ true
  here = rw (equal_self x) refl

  pub told-shallow : AreShallow (slice_set nexts x (Some o))
  told-shallow t v h = by_case (t == x) refl
    where
      -- whoever is waited for is not the one that was told
      unset : v == x ≡ false → next_of nexts v ≡ None → next_of (slice_set nexts x (Some o)) v ≡ None
      unset e none = next-set nexts x v (Some o) e ∙ none

      by_case : (b : Bool) → t == x ≡ b → next_of (slice_set nexts x (Some o)) v ≡ None
      by_case true e =
          let same : t ≡ x = eqb-true t x e in
          let to : Some o ≡ Some v = next-told nexts x v (Some o) (subst (λ n. next_of (slice_set nexts x (Some o)) n ≡ Some v) same h) in
          let owner : o ≡ v = cc in
          unset (subst (λ n. n == x ≡ false) owner apart) (subst (λ n. next_of nexts n ≡ None) owner can.owner_waits_not)
      by_case false e =
          let was : next_of nexts t ≡ Some v = sym (next-set nexts x t (Some o) e) ∙ h in
          other (v == x) refl was
        where
          other : (c : Bool) → v == x ≡ c → next_of nexts t ≡ Some v → next_of (slice_set nexts x (Some o)) v ≡ None
          other true f was = let at : v ≡ x = eqb-true v x f in absurd (can.awaited_not x t here (was ∙ ap Some at))
          other false f was = unset f (can.shallow t v was)

  pub told-ends : NoWalkComesRound (slice_set nexts x (Some o))
  told-ends = shallow-ends (slice_set nexts x (Some o)) told-shallow

  -- the others may be told next
  pub told-next : CanTell o xs bases (slice_set nexts x (Some o))
  told-next = record {
    shallow = told-shallow;
    owner_based = can.owner_based;
    owner_waits_not = next-set nexts x o (Some o) apart ∙ can.owner_waits_not;
    owner_outside = rest (o == x) (has o xs) can.owner_outside;
    based = λ y h. can.based y (rw h (or_true (y == x)));
    awaited_not = λ y u h to. by_case y u h to (u == x) refl;
  }
    where
      rest : (a b : Bool) → a || b ≡ false → b ≡ false
      rest true b h = cc
      rest false b h = h

      by_case : (y u : ℕ) → has y xs ≡ true → next_of (slice_set nexts x (Some o)) u ≡ Some y → (c : Bool) → u == x ≡ c → ⊥
      by_case y u h to true e =
          let same : u ≡ x = eqb-true u x e in
          let owner : Some o ≡ Some y = next-told nexts x y (Some o) (subst (λ n. next_of (slice_set nexts x (Some o)) n ≡ Some y) same to) in
          let is : y ≡ o = cc in
          let member : has o xs ≡ true = subst (λ n. has n xs ≡ true) is h in
          let out : has o xs ≡ false = rest (o == x) (has o xs) can.owner_outside in cc
      by_case y u h to false e = can.awaited_not y u (rw h (or_true (y == x))) (sym (next-set nexts x u (Some o) e) ∙ to)

-- the first of them may be told
pub can-first : (o x : ℕ) (xs : List ℕ) (bases : List (Option Key)) (nexts : List (Option ℕ)) → CanTell o (x ∷ xs) bases nexts → CanTell o (x ∷ []) bases nexts
can-first o x xs bases nexts can = record {
  shallow = can.shallow;
  owner_based = can.owner_based;
  owner_waits_not = can.owner_waits_not;
  owner_outside = rw (apart o x xs bases nexts can) refl;
  based = λ y h. can.based y (member y h);
  awaited_not = λ y u h. can.awaited_not y u (member y h);
}
  where
    member : (y : ℕ) → has y (x ∷ []) ≡ true → has y (x ∷ xs) ≡ true
    member y h = by_case (y == x) h
      where
        by_case : (b : Bool) → b || false ≡ true → b || has y xs ≡ true
        by_case true k = refl
        by_case false k = cc

-- all of these were told from the first keys on but those from the i-th on, which may be told next
pub record AreToTell (o i : ℕ) (all : List TaskNo) (start w : Waits) : Type 0 where
  pub can : CanTell o (numbers (drop i all)) w.bases w.nexts
  pub nexts : told o (numbers (drop i all)) w.nexts ≡ told o (numbers all) start.nexts
  pub bases : w.bases ≡ start.bases
  pub boosts : w.boosts ≡ start.boosts

module _ (o i : ℕ) (all : List TaskNo) (start w : Waits) (d : TaskNo) (h : AreToTell o i all start w) (low : i < length all) where
  abbrev next : ℕ
  next = (get_or all i d).0

  can-here : CanTell o (next ∷ numbers (drop (i + 1) all)) w.bases w.nexts
  can-here = rw (drop_more all i d low) at h.can

  pub to-tell-can : CanTell o (next ∷ []) w.bases w.nexts
  to-tell-can = can-first o next (numbers (drop (i + 1) all)) w.bases w.nexts can-here

  pub to-tell-next : AreToTell o (i + 1) all start (record w { nexts = slice_set w.nexts next (Some o) })
  to-tell-next = record {
    can = told-next o next (numbers (drop (i + 1) all)) w.bases w.nexts can-here;
    nexts = rw (drop_more all i d low) at h.nexts;
    bases = h.bases;
    boosts = h.boosts;
  }
