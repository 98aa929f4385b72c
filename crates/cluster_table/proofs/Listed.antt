-- The list of the clusters that are not placed, as one cluster changes.
use Rattle.std.proofs.Common.{◌≡◌, ◌≢◌, ℕ, ◌<◌, ◌≤◌, Bool, true, false, not, ◌&&◌, ◌⊎◌, inl, inr, eqb-true, List, [], ◌∷◌, ◌++◌, length, set, get_or, refl, sym, ◌∙◌, arith, length-set, get_or-set_same, get_or-set_other}
use Rattle.std.proofs.lemmas.Bool.{cases_eq, cases_lt}
use Rattle.std.proofs.lemmas.List.{get_or_past}
use Rattle.std.specs.Prelude.{◌==◌, Option, None, Some, if◌then◌else◌}
use Rattle.rt_rules.specs.Distinct.{IsDistinct}
use Rattle.rt_rules.specs.Numbers.{has}
use Rattle.rt_rules.proofs.BoolLaws.{clash, either, neither, not_true, or_true, unless}
use Rattle.rt_rules.proofs.DistinctLaws.{distinct-append, length-few}
use Rattle.rt_rules.proofs.MemberLaws.{equal_self, has-push, turned}
use Rattle.cluster_table.specs.Clusters.{IsStable}
use Rattle.cluster_table.specs.Placed.{PlacedCluster}
use Rattle.cluster_table.specs.Table.{AreListed}

other : (d c : ℕ) → d ≢ c → d == c ≡ false
other d c apart = unless (d == c) (λ h. apart (eqb-true d c h))

-- one that stands behind others that are different from it
distinct-popped : (c : ℕ) (rest : List ℕ) → IsDistinct (rest ++ c ∷ []) → IsDistinct rest × (has c rest ≡ false)
distinct-popped c [] once = (tt, refl)
distinct-popped c (x ∷ xs) once =
    let q = distinct-popped c xs once.1 in
    let parts = neither (x == c) (has x xs) (sym (has-push x c xs) ∙ once.0) in
    let apart : c == x ≡ false = turned c x ∙ parts.0 in
    ((parts.1, q.0), rw (apart, q.1))

module _ (ks : List (Option PlacedCluster)) (changed : List ℕ) (room : ℕ) (s : AreListed ks changed room) (c : ℕ) where
  module _ (k : PlacedCluster) (at : get_or ks c None ≡ Some k) where
    within : c < length ks
    within = by_place (cases_lt c (length ks))
      where
        by_place : (c < length ks) ⊎ (length ks ≤ c) → c < length ks
        by_place (inl h) = h
        by_place (inr h) = let none : None ≡ Some k = sym (get_or_past ks c None h) ∙ at in cc

    -- a cluster is listed where it is not placed
    listed-is : has c changed ≡ not k.is_placed
    listed-is = by_case k.is_placed refl
      where
        by_case : (b : Bool) → k.is_placed ≡ b → has c changed ≡ not b
        by_case true e = unless (has c changed) (λ h. clash k.is_placed e (s.unplaced c k h at))
        by_case false e = s.listed c k at e

    -- there is room for one that is placed
    pub room-listed : k.is_placed ≡ true → length changed < room
    room-listed placed =
        let out : has c changed ≡ false = rw placed at listed-is in
        let few : length (c ∷ changed) ≤ length ks = length-few (length ks) (c ∷ changed) (out, s.once) (λ d h. inside d (either (d == c) (has d changed) h)) in
        omega (arith, few, s.room_for_all)
      where
        inside : (d : ℕ) → (d == c ≡ true) ⊎ (has d changed ≡ true) → d < length ks
        inside d (inl h) = let same : d ≡ c = eqb-true d c h in rw same within
        inside d (inr h) = s.inside d h

    -- one cluster is another from now on, and is listed where it is not placed
    listed-changed : (new : PlacedCluster) (now : List ℕ) → IsDistinct now → ((d : ℕ) → d ≢ c → has d now ≡ has d changed)
        → has c now ≡ not new.is_placed → (new.is_placed ≡ true → IsStable new.cluster) → AreListed (set ks c (Some new)) now room
    listed-changed new now once others here stable = record {
      once = once;
      inside = λ d h. by_place d h (cases_eq d c);
      unplaced = λ d m h e. is_unplaced d m h e (cases_eq d c);
      listed = λ d m e h. is_listed d m e h (cases_eq d c);
      stable = λ d m e h. is_stable d m e h (cases_eq d c);
      room_for_all = omega (arith, length-set ks c (Some new), s.room_for_all);
    }
      where
        by_place : (d : ℕ) → has d now ≡ true → (d ≡ c) ⊎ (d ≢ c) → d < length (set ks c (Some new))
        by_place d h (inl same) = omega (arith, length-set ks c (Some new), within, same)
        by_place d h (inr apart) = let low = s.inside d (sym (others d apart) ∙ h) in omega (arith, length-set ks c (Some new), low)

        is_new : (d : ℕ) (m : PlacedCluster) → get_or (set ks c (Some new)) d None ≡ Some m → d ≡ c → m ≡ new
        is_new d m e same = let read : get_or (set ks c (Some new)) c None ≡ Some m = rw same at e in let there : Some new ≡ Some m = sym (get_or-set_same ks c (Some new) None within) ∙ read in cc

        is_old : (d : ℕ) (m : PlacedCluster) → get_or (set ks c (Some new)) d None ≡ Some m → d ≢ c → get_or ks d None ≡ Some m
        is_old d m e apart = sym (get_or-set_other ks c d (Some new) None apart) ∙ e

        is_unplaced : (d : ℕ) (m : PlacedCluster) → has d now ≡ true → get_or (set ks c (Some new)) d None ≡ Some m → (d ≡ c) ⊎ (d ≢ c) → m.is_placed ≡ false
        is_unplaced d m h e (inl same) = let there : has c now ≡ true = rw same at h in rw (is_new d m e same) (not_true new.is_placed (sym here ∙ there))
        is_unplaced d m h e (inr apart) = s.unplaced d m (sym (others d apart) ∙ h) (is_old d m e apart)

        is_listed : (d : ℕ) (m : PlacedCluster) → get_or (set ks c (Some new)) d None ≡ Some m → m.is_placed ≡ false → (d ≡ c) ⊎ (d ≢ c) → has d now ≡ true
        is_listed d m e h (inl same) = let out : new.is_placed ≡ false = rw (is_new d m e same) at h in rw (same, here, out)
        is_listed d m e h (inr apart) = others d apart ∙ s.listed d m (is_old d m e apart) h

        is_stable : (d : ℕ) (m : PlacedCluster) → get_or (set ks c (Some new)) d None ≡ Some m → m.is_placed ≡ true → (d ≡ c) ⊎ (d ≢ c) → IsStable m.cluster
        is_stable d m e h (inl same) = let is : m ≡ new = is_new d m e same in rw is (stable (rw is at h))
        is_stable d m e h (inr apart) = s.stable d m (is_old d m e apart) h

    -- it is placed as before
    pub listed-stays : (new : PlacedCluster) → new.is_placed ≡ k.is_placed → (new.is_placed ≡ true → IsStable new.cluster) → AreListed (set ks c (Some new)) changed room
    listed-stays new same stable = listed-changed new changed s.once (λ d apart. refl) (rw same listed-is) stable

    -- it was placed, and is not from now on
    pub listed-pushed : (new : PlacedCluster) → k.is_placed ≡ true → new.is_placed ≡ false → AreListed (set ks c (Some new)) (changed ++ c ∷ []) room
    listed-pushed new placed now =
        let out : has c changed ≡ false = rw placed at listed-is in
        listed-changed new (changed ++ c ∷ []) (distinct-append c changed s.once out)
        (λ d apart. has-push d c changed ∙ rw (other d c apart))
        (has-push c c changed ∙ rw (equal_self c, now))
        (λ h. absurd (clash new.is_placed h now))

    -- it is placed, and was the last of the list
    pub listed-placed : (rest : List ℕ) (new : PlacedCluster) → changed ≡ rest ++ c ∷ [] → new.is_placed ≡ true → IsStable new.cluster → AreListed (set ks c (Some new)) rest room
    listed-placed rest new last placed stable =
        let q = distinct-popped c rest (rw last at s.once) in
        listed-changed new rest q.0
        (λ d apart. sym (rw last (has-push d c rest ∙ rw (other d c apart))))
        (rw placed q.1)
        (λ h. stable)

    -- it is placed only if it was before, and is listed where it no longer is
    pub listed-set : (new : PlacedCluster) (now : List ℕ) → (new.is_placed ≡ true → k.is_placed ≡ true) → (new.is_placed ≡ true → IsStable new.cluster)
        → now ≡ (if k.is_placed && not new.is_placed then changed ++ c ∷ [] else changed) → AreListed (set ks c (Some new)) now room
    listed-set new now kept stable is = rw is (by_case k.is_placed new.is_placed refl refl)
      where
        by_case : (b d : Bool) → k.is_placed ≡ b → new.is_placed ≡ d → AreListed (set ks c (Some new)) (if b && not d then changed ++ c ∷ [] else changed) room
        by_case true true e h = listed-stays new (h ∙ sym e) stable
        by_case true false e h = listed-pushed new e h
        by_case false true e h = absurd (clash k.is_placed (kept h) e)
        by_case false false e h = listed-stays new (h ∙ sym e) stable

  -- the last of the list is a cluster of another group
  pub listed-absent : (rest : List ℕ) → changed ≡ rest ++ c ∷ [] → get_or ks c None ≡ None → AreListed ks rest room
  listed-absent rest last none = record {
    once = (distinct-popped c rest (rw last at s.once)).0;
    inside = λ d h. s.inside d (there d h);
    unplaced = λ d m h e. s.unplaced d m (there d h) e;
    listed = λ d m e h. still d m e (s.listed d m e h) (cases_eq d c);
    stable = s.stable;
    room_for_all = s.room_for_all;
  }
    where
      there : (d : ℕ) → has d rest ≡ true → has d changed ≡ true
      there d h = rw last (has-push d c rest ∙ rw h (or_true (d == c)))

      still : (d : ℕ) (m : PlacedCluster) → get_or ks d None ≡ Some m → has d changed ≡ true → (d ≡ c) ⊎ (d ≢ c) → has d rest ≡ true
      still d m e h (inl same) = let read : get_or ks c None ≡ Some m = rw same at e in let clashing : None ≡ Some m = sym none ∙ read in cc
      still d m e h (inr apart) = let listed : has d (rest ++ c ∷ []) ≡ true = rw last at h in sym (has-push d c rest ∙ rw (other d c apart)) ∙ listed

-- where none is listed, all are stable
pub stable-all : (ks : List (Option PlacedCluster)) (changed : List ℕ) (room : ℕ) → AreListed ks changed room → changed ≡ [] → (c : ℕ) (k : PlacedCluster) → get_or ks c None ≡ Some k → IsStable k.cluster
stable-all ks changed room s none c k at = by_case k.is_placed refl
  where
    by_case : (b : Bool) → k.is_placed ≡ b → IsStable k.cluster
    by_case true e = s.stable c k at e
    by_case false e = let there : has c changed ≡ true = s.listed c k at e in let gone : has c changed ≡ false = rw none in cc
