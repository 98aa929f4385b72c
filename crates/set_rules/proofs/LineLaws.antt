-- Laws of slots on one line, as entries in the order of their ends.
use Rattle.std.proofs.Common.{◌≡◌, ℕ, ◌<◌, ◌≤◌, List, [], ◌∷◌, Bool, true, false, not, ◌&&◌, ◌⊎◌, inl, inr, ltb, fold, refl, ap, ap₂, sym, ◌∙◌, arith}
use Rattle.std.specs.List.{list_all}
use Rattle.std.specs.Ordering.{nat_cmp, is_lt}
use Rattle.std.proofs.lemmas.Bool.{cases_lt, and_from, and_parts, lt-ltb, le-ltb, lt-leb, le-leb, ne_eqb}
use Rattle.std.proofs.lemmas.Bool.Decides.{nat_tests}
use Rattle.set_rules.specs.inside.Tables.{is_free, with_entry, IsApart, are_apart, stands_apart}

are_apart-late : (p e : ℕ × ℕ) → p.0 ≤ e.1 → are_apart p e ≡ true
are_apart-late p e h = rw (le-ltb e.1 p.0 h) refl

pub are_apart-early : (p e : ℕ × ℕ) → e.0 ≤ p.1 → are_apart p e ≡ true
are_apart-early p e h = by (ltb e.1 p.0)
  where
    by : (b : Bool) → not (b && ltb p.1 e.0) ≡ true
    by true = rw (le-ltb p.1 e.0 h) refl
    by false = refl

-- two that are apart, one of which ends after the other begins
apart-cases : (p e : ℕ × ℕ) → are_apart p e ≡ true → (p.0 ≤ e.1) ⊎ (e.0 ≤ p.1)
apart-cases p e h = grind (arith, nat_tests)

stands_apart-late : (s : ℕ) (es : List (ℕ × ℕ)) (p : ℕ × ℕ) → IsApart s es → p.0 ≤ s → stands_apart es p ≡ true
stands_apart-late s [] p h le = refl
stands_apart-late s (e ∷ es) p h le =
    and_from _ _ (are_apart-late p e (omega arith)) (stands_apart-late e.0 es p h.2 (omega arith))

lt-is : (a b : ℕ) → is_lt (nat_cmp a b) ≡ ltb a b
lt-is a b = grind (arith, nat_tests)

-- where the first that ends after the begin stands apart, all do
pub is_free-is : (s : ℕ) (es : List (ℕ × ℕ)) (p : ℕ × ℕ) → IsApart s es → p.1 < p.0 → is_free es p ≡ stands_apart es p
is_free-is s [] p h lt = refl
is_free-is s (e ∷ es) p h lt = elim (cases_lt p.1 e.0) [ inl l ↦ within l (cases_lt e.1 p.0) | inr l ↦ past l (is_free-is e.0 es p h.2 lt) ]
  where
    within : p.1 < e.0 → (e.1 < p.0) ⊎ (p.0 ≤ e.1) → is_free (e ∷ es) p ≡ stands_apart (e ∷ es) p
    within l (inl m) = rw (lt-ltb p.1 e.0 l, lt-ltb e.1 p.0 m, lt-leb p.0 e.1 m) refl
    within l (inr m) = rw (lt-ltb p.1 e.0 l, le-ltb e.1 p.0 m, le-leb p.0 e.1 m) (sym (stands_apart-late e.0 es p h.2 (omega arith)))

    past : e.0 ≤ p.1 → is_free es p ≡ stands_apart es p → is_free (e ∷ es) p ≡ stands_apart (e ∷ es) p
    past l rest =
        let skip : is_free (e ∷ es) p ≡ is_free es p = rw (lt-is p.1 e.0, le-ltb p.1 e.0 l) refl in
        skip ∙ rest ∙ sym (ap (λ b. b && stands_apart es p) (are_apart-early p e l))

pub with_entry-apart : (s : ℕ) (es : List (ℕ × ℕ)) (p : ℕ × ℕ) → IsApart s es → s ≤ p.1 → p.1 < p.0 → stands_apart es p ≡ true → IsApart s (with_entry es p)
with_entry-apart s [] p h le lt ok = (le, lt, tt)
with_entry-apart s (e ∷ es) p h le lt ok =
    let both = and_parts (are_apart p e) (stands_apart es p) ok in
    elim (apart-cases p e both.0) [ inl l ↦ before l | inr l ↦ behind l (with_entry-apart e.0 es p h.2 l lt both.1) ]
  where
    before : p.0 ≤ e.1 → IsApart s (with_entry (e ∷ es) p)
    before l = rw (lt-ltb p.0 e.0 (omega arith)) (le, lt, (l, h.1, h.2))

    behind : e.0 ≤ p.1 → IsApart e.0 (with_entry es p) → IsApart s (with_entry (e ∷ es) p)
    behind l rest = rw (le-ltb p.0 e.0 (omega arith), ne_eqb p.0 e.0 (λ q. omega arith)) (h.0, h.1, rest)

pub and-assoc : (a b c : Bool) → (a && (b && c)) ≡ ((a && b) && c)
and-assoc true b c = refl
and-assoc false b c = refl

pub and-comm : (a b : Bool) → (a && b) ≡ (b && a)
and-comm true true = refl
and-comm true false = refl
and-comm false true = refl
and-comm false false = refl

-- what stands apart from an entry and the others
pub with_entry-is : (s : ℕ) (es : List (ℕ × ℕ)) (p q : ℕ × ℕ) → IsApart s es → p.1 < p.0 → stands_apart es p ≡ true → stands_apart (with_entry es p) q ≡ (stands_apart es q && are_apart q p)
with_entry-is s [] p q h lt ok = and-comm (are_apart q p) true
with_entry-is s (e ∷ es) p q h lt ok =
    let both = and_parts (are_apart p e) (stands_apart es p) ok in
    elim (apart-cases p e both.0) [ inl l ↦ before l | inr l ↦ behind l (with_entry-is e.0 es p q h.2 lt both.1) ]
  where
    before : p.0 ≤ e.1 → stands_apart (with_entry (e ∷ es) p) q ≡ (stands_apart (e ∷ es) q && are_apart q p)
    before l = rw (lt-ltb p.0 e.0 (omega arith)) (and-comm (are_apart q p) (stands_apart (e ∷ es) q))

    behind : e.0 ≤ p.1 → stands_apart (with_entry es p) q ≡ (stands_apart es q && are_apart q p) → stands_apart (with_entry (e ∷ es) p) q ≡ (stands_apart (e ∷ es) q && are_apart q p)
    behind l rest = rw (le-ltb p.0 e.0 (omega arith), ne_eqb p.0 e.0 (λ x. omega arith)) (ap (λ b. are_apart q e && b) rest ∙ and-assoc (are_apart q e) (stands_apart es q) (are_apart q p))

-- those behind an entry stand apart from it too
still_apart : (s : ℕ) (es : List (ℕ × ℕ)) (p : ℕ × ℕ) (t : ℕ) (ps : List (ℕ × ℕ)) → IsApart s es → p.1 < p.0 → stands_apart es p ≡ true
    → p.0 ≤ t → IsApart t ps → list_all (stands_apart es) ps ≡ true → list_all (stands_apart (with_entry es p)) ps ≡ true
still_apart s es p t [] h lt ok le hs oks = refl
still_apart s es p t (q ∷ ps) h lt ok le hs oks =
    let both = and_parts (stands_apart es q) (list_all (stands_apart es) ps) oks in
    and_from _ _ (with_entry-is s es p q h lt ok ∙ and_from _ _ both.0 (are_apart-early q p (omega arith)))
    (still_apart s es p q.0 ps h lt ok (omega arith) hs.2 both.1)

pub with_all-apart : (es : List (ℕ × ℕ)) (t : ℕ) (ps : List (ℕ × ℕ)) → IsApart 0 es → IsApart t ps → list_all (stands_apart es) ps ≡ true → IsApart 0 (fold with_entry es ps)
with_all-apart es t [] h hs ok = h
with_all-apart es t (p ∷ ps) h hs ok =
    let both = and_parts (stands_apart es p) (list_all (stands_apart es) ps) ok in
    with_all-apart (with_entry es p) p.0 ps (with_entry-apart 0 es p h (omega arith) hs.1 both.0) hs.2
    (still_apart 0 es p p.0 ps h hs.1 both.0 (omega arith) hs.2 both.1)

pub with_all-is : (es : List (ℕ × ℕ)) (t : ℕ) (ps : List (ℕ × ℕ)) (q : ℕ × ℕ) → IsApart 0 es → IsApart t ps → list_all (stands_apart es) ps ≡ true
    → stands_apart (fold with_entry es ps) q ≡ (stands_apart es q && stands_apart ps q)
with_all-is es t [] q h hs ok = and-comm true (stands_apart es q)
with_all-is es t (p ∷ ps) q h hs ok =
    let both = and_parts (stands_apart es p) (list_all (stands_apart es) ps) ok in
    with_all-is (with_entry es p) p.0 ps q (with_entry-apart 0 es p h (omega arith) hs.1 both.0) hs.2
    (still_apart 0 es p p.0 ps h hs.1 both.0 (omega arith) hs.2 both.1)
    ∙ ap (λ b. b && stands_apart ps q) (with_entry-is 0 es p q h hs.1 both.0)
    ∙ sym (and-assoc (stands_apart es q) (are_apart q p) (stands_apart ps q))

pub are_free-is : (es : List (ℕ × ℕ)) (t : ℕ) (ps : List (ℕ × ℕ)) → IsApart 0 es → IsApart t ps → list_all (is_free es) ps ≡ list_all (stands_apart es) ps
are_free-is es t [] h hs = refl
are_free-is es t (p ∷ ps) h hs = ap₂ (λ a b. a && b) (is_free-is 0 es p h hs.1) (are_free-is es p.0 ps h hs.2)
