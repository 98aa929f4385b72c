-- The keys that are kept, while those that are lower than one are raised to it along a walk.
use Rattle.std.proofs.Common.{◌≡◌, ℕ, ◌<◌, Bool, true, false, ◌⊎◌, inl, inr, eqb-true, List, length, get_or, set, refl, sym, ap, ◌∙◌, subst, arith, length-set, get_or-set_same, get_or-set_other}
use Rattle.std.specs.Prelude.{◌==◌, Option, None, Some, is_some, if◌then◌else◌}
use Rattle.std.proofs.lemmas.List.{get_or_read}
use Rattle.rt_base.specs.declared.TaskNo.{TaskNo}
use Rattle.rt_base.specs.TaskNos.{numbers_of_tasks}
use Rattle.rt_rules.specs.declared.Key.{Key}
use Rattle.rt_rules.specs.KeyOrder.{higher}
use Rattle.rt_rules.proofs.PlacingLaws.{unless}
use Rattle.sem_laws.specs.KeptKeys.{key_at}
use Rattle.rt_rules.proofs.BoolLaws.{clash}
use Rattle.rt_rules.proofs.MemberLaws.{equal_self}
use Rattle.rt_rules.specs.OrderLaws.{higher-irreflexive, higher-transitive}
use Rattle.prio_inherit.specs.Waits.{next_of, base_of, NoWalkComesRound}
use Rattle.prio_inherit.specs.Local.{IsTop, IsLocal, IsInherit, IsRaising}
use Rattle.prio_inherit.proofs.Settling.{waits_not, settle-step, settle-join, set-set, told-below}

other : (a b : ℕ) → a == b ≡ false → a ≡ b → ⊥
other a b e s = clash _ (ap (λ n. n == b) s ∙ equal_self b) e

-- one task waits with the key j from now on, with none or a lower one before
module _ (room : ℕ) (next next' : ℕ → Option ℕ) (key key' : ℕ → Key) (base : Key) (h : ℕ) (k j : Key) (w : ℕ) (top : IsTop room next key base h k) (below : w < room) (waits : next' w ≡ Some h) (with : key' w ≡ j) (back : (u : ℕ) → u == w ≡ false → next' u ≡ Some h → (next u ≡ Some h) × (key' u ≡ key u)) (forth : (u : ℕ) → u == w ≡ false → next u ≡ Some h → (next' u ≡ Some h) × (key' u ≡ key u)) (was : next w ≡ Some h → higher j (key w) ≡ true) where
  top-joined : IsTop room next' key' base h (if higher j k then j else k)
  top-joined = by_case (higher j k) refl
    where
      by_case : (b : Bool) → higher j k ≡ b → IsTop room next' key' base h (if b then j else k)
      by_case true up = record {
        own = unless _ (λ m. clash _ (higher-transitive base j k m up) top.own);
        waits = λ u low e. among u low e (u == w) refl;
        among = inr (w, below, waits, sym with);
      }
        where
          among : (u : ℕ) → u < room → next' u ≡ Some h → (b : Bool) → u == w ≡ b → higher (key' u) j ≡ false
          among u low e true m = ap (λ n. higher (key' n) j) (eqb-true u w m) ∙ ap (λ i. higher i j) with ∙ higher-irreflexive j
          among u low e false m = let p = back u m e in ap (λ i. higher i j) p.1 ∙ unless _ (λ x. clash _ (higher-transitive (key u) j k x up) (top.waits u low p.0))
      by_case false stays = record {
        own = top.own;
        waits = λ u low e. among u low e (u == w) refl;
        among = kept top.among;
      }
        where
          among : (u : ℕ) → u < room → next' u ≡ Some h → (b : Bool) → u == w ≡ b → higher (key' u) k ≡ false
          among u low e true m = ap (λ n. higher (key' n) k) (eqb-true u w m) ∙ ap (λ i. higher i k) with ∙ stays
          among u low e false m = let p = back u m e in ap (λ i. higher i k) p.1 ∙ top.waits u low p.0

          kept : (k ≡ base) ⊎ ((u : ℕ) × (u < room) × (next u ≡ Some h) × (k ≡ key u)) → (k ≡ base) ⊎ ((u : ℕ) × (u < room) × (next' u ≡ Some h) × (k ≡ key' u))
          kept (inl e) = inl e
          kept (inr q) = inr (q.0, q.1, (forth q.0 apart q.2).0, q.3 ∙ sym (forth q.0 apart q.2).1)
            where
              apart : q.0 == w ≡ false
              apart = unless _ (λ m. let s : q.0 ≡ w = eqb-true q.0 w m in clash _ (ap (higher j) (q.3 ∙ ap key s) ∙ was (ap next (sym s) ∙ q.2)) stays)

module _ (bases : List (Option Key)) (nexts : List (Option ℕ)) (keys : List Key) (t : ℕ) (key : Key) (ok : IsRaising bases nexts keys (Some t) key) where
  -- the key of the task that the walk has come to is lower
  pub raise-step : higher key (key_at keys t) ≡ true → IsRaising bases nexts (set keys t key) (next_of nexts t) key
  raise-step up = record {
    settling = settle-step bases nexts keys t key ok.settling (subst (λ b. IsTop (length nexts) (next_of nexts) (key_at keys) (base_of bases t) t (if b then key else key_at keys t)) up (ok.joined t refl));
    joined = λ h e. onward h e;
  }
    where
      below : t < length nexts
      below = ok.settling.at_within t refl

      own : key_at (set keys t key) t ≡ key
      own = get_or-set_same keys t key _ (omega (arith, ok.settling.keys_length, below))

      kept : (u : ℕ) → u == t ≡ false → key_at (set keys t key) u ≡ key_at keys u
      kept u e = get_or-set_other keys t u key _ (other u t e)

      onward : (h : ℕ) → next_of nexts t ≡ Some h → IsTop (length nexts) (next_of nexts) (key_at (set keys t key)) (base_of bases h) h (if higher key (key_at (set keys t key) h) then key else key_at (set keys t key) h)
      onward h e = subst (λ k. IsTop (length nexts) (next_of nexts) (key_at (set keys t key)) (base_of bases h) h (if higher key k then key else k)) (sym (kept h apart)) (top-joined (length nexts) (next_of nexts) (next_of nexts) (key_at keys) (key_at (set keys t key)) (base_of bases h) h (key_at keys h) key t (ok.settling.local h (ok.settling.within t h e) apart) below e own (λ u m x. (x, kept u m)) (λ u m x. (x, kept u m)) (λ x. up))
        where
          apart : h == t ≡ false
          apart = unless _ (λ m. waits_not nexts ok.settling.acyclic t below (e ∙ ap (λ (n : ℕ). Some n) (eqb-true h t m)))

  -- or it is not
  pub raise-stop : higher key (key_at keys t) ≡ false → (u : ℕ) → u < length nexts → IsLocal bases nexts keys u
  raise-stop stays u below = by_case (u == t) refl
    where
      here : IsLocal bases nexts keys t
      here = subst (λ b. IsTop (length nexts) (next_of nexts) (key_at keys) (base_of bases t) t (if b then key else key_at keys t)) stays (ok.joined t refl)

      by_case : (b : Bool) → u == t ≡ b → IsLocal bases nexts keys u
      by_case true m = subst (IsLocal bases nexts keys) (sym (eqb-true u t m)) here
      by_case false m = ok.settling.local u below m

-- a task that waited for none waits for another
pub raise-join : (bases : List (Option Key)) (nexts : List (Option ℕ)) (boosts : List (Option Key)) (keys : List Key) → IsInherit bases nexts boosts keys → (t h : ℕ) → t < length nexts → h < length nexts → next_of nexts t ≡ None → NoWalkComesRound (set nexts t (Some h)) → IsRaising bases (set nexts t (Some h)) keys (Some h) (key_at keys t)
raise-join bases nexts boosts keys ok t h below low free acyclic = record {
  settling = settle-join bases nexts boosts keys ok t h below low free acyclic;
  joined = λ v e. let s : h ≡ v = cc in subst (λ n. IsTop (length (set nexts t (Some h))) (next_of (set nexts t (Some h))) (key_at keys) (base_of bases n) n (if higher (key_at keys t) (key_at keys n) then key_at keys t else key_at keys n)) s here;
}
  where
    new : next_of (set nexts t (Some h)) t ≡ Some h
    new = get_or-set_same nexts t (Some h) None below

    same : (u : ℕ) → u == t ≡ false → next_of (set nexts t (Some h)) u ≡ next_of nexts u
    same u e = get_or-set_other nexts t u (Some h) None (other u t e)

    none : next_of nexts t ≡ Some h → ⊥
    none m = let c : None ≡ Some h = sym free ∙ m in let z : true ≡ false = cc in clash true refl z

    here : IsTop (length (set nexts t (Some h))) (next_of (set nexts t (Some h))) (key_at keys) (base_of bases h) h (if higher (key_at keys t) (key_at keys h) then key_at keys t else key_at keys h)
    here = subst (λ n. IsTop n (next_of (set nexts t (Some h))) (key_at keys) (base_of bases h) h (if higher (key_at keys t) (key_at keys h) then key_at keys t else key_at keys h)) (sym (length-set nexts t (Some h))) (top-joined (length nexts) (next_of nexts) (next_of (set nexts t (Some h))) (key_at keys) (key_at keys) (base_of bases h) h (key_at keys h) (key_at keys t) t (ok.local h low) below new refl (λ u m x. (sym (same u m) ∙ x, refl)) (λ u m x. (same u m ∙ x, refl)) (λ m. absurd (none m)))

-- a task that waits for another from now on, after it was taken from the one before
pub joined : (bases : List (Option Key)) (nexts : List (Option ℕ)) (boosts : List (Option Key)) (keys : List Key) (bases' : List (Option Key)) (nexts' : List (Option ℕ)) (t h : ℕ) (k : Key) → IsInherit bases nexts boosts keys → bases ≡ bases' → nexts ≡ set nexts' t None → is_some (get_or bases' t None) ≡ true → is_some (get_or bases' h None) ≡ true → NoWalkComesRound (set nexts' t (Some h)) → k ≡ get_or keys t k → IsRaising bases (set nexts t (Some h)) keys (Some h) k
joined bases nexts boosts keys bases' nexts' t h k ok b n told told' ends read =
    subst (IsRaising bases (set nexts t (Some h)) keys (Some h)) (sym (get_or_read keys t k (omega (arith, below, ok.keys_length)) read _))
    (raise-join bases nexts boosts keys ok t h below low (ap (λ ns. next_of ns t) n ∙ get_or-set_same nexts' t None None (omega (arith, below, ap length n, length-set {A = Option ℕ} nexts' t None))) (subst NoWalkComesRound (sym (ap (λ ns. set ns t (Some h)) n ∙ set-set nexts' t None (Some h))) ends))
  where
    below : t < length nexts
    below = omega (arith, told-below bases' t told, ap length b, ok.bases_length)

    low : h < length nexts
    low = omega (arith, told-below bases' h told', ap length b, ok.bases_length)

-- ---- a walk, as the code goes along it

-- along it the keys are raised, whatever the base keys
abbrev pub Raises : List (Option TaskNo) → List Key → Option ℕ → List Key → Option ℕ → Key → Type 0
Raises os first start keys at key = (bases : List (Option Key)) → IsRaising bases (numbers_of_tasks os) first start key → IsRaising bases (numbers_of_tasks os) keys at key

module _ (os : List (Option TaskNo)) (first keys : List Key) (start : Option ℕ) (key : Key) where
  pub raises-step : (t : ℕ) (o : Option ℕ) → Raises os first start keys (Some t) key → higher key (key_at keys t) ≡ true → next_of (numbers_of_tasks os) t ≡ o → Raises os first start (set keys t key) o key
  raises-step t o so up e = λ bases ok. subst (λ p. IsRaising bases (numbers_of_tasks os) (set keys t key) p key) e (raise-step bases (numbers_of_tasks os) keys t key (so bases ok) up)

  pub raises-stop : (t : ℕ) → Raises os first start keys (Some t) key → higher key (key_at keys t) ≡ false → (bases : List (Option Key)) → IsRaising bases (numbers_of_tasks os) first start key → (u : ℕ) → u < length (numbers_of_tasks os) → IsLocal bases (numbers_of_tasks os) keys u
  raises-stop t so stays bases ok = raise-stop bases (numbers_of_tasks os) keys t key (so bases ok) stays
