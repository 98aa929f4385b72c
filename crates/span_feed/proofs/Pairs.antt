-- Lists of which each value is changed by the one beside it, from the first on.
use Rattle.std.proofs.Common.{◌≡◌, ◌∙◌, ℕ, zero, suc, ◌+◌, ◌<◌, ◌≤◌, List, [], ◌∷◌, length, map, take, get_or, set, refl, sym, ap, arith}
use Rattle.std.proofs.lemmas.List.{get_or-map, map-set}
use Rattle.chart_rows.proofs.Changed.{made-all}
use Rattle.span_feed.specs.Spanned.{paired}

module _ {A B : Type 0} (f : A → B → B) where
  next : (i : ℕ) (xs : List A) (ys : List B) (x : A) (y : B) → i < length xs → i < length ys → x ≡ get_or xs i x → y ≡ get_or ys i y → set (paired f (take i xs) ys) i (f x y) ≡ paired f (take (suc i) xs) ys
  next i [] ys x y h k is_x is_y = absurd (omega arith)
  next i (a ∷ us) [] x y h k is_x is_y = absurd (omega arith)
  next zero (a ∷ us) (b ∷ bs) x y h k is_x is_y = λ j. f (is_x j) (is_y j) ∷ nothing us bs j
    where
      nothing : (us : List A) (zs : List B) → zs ≡ paired f (take zero us) zs
      nothing [] zs = refl
      nothing (u ∷ us) zs = refl
  next (suc i) (a ∷ us) (b ∷ bs) x y h k is_x is_y = ap (λ zs. f a b ∷ zs) (next i us bs x y (omega arith) (omega arith) is_x is_y)

  behind : (i : ℕ) (xs : List A) (ys : List B) (d : B) → get_or (paired f (take i xs) ys) i d ≡ get_or ys i d
  behind zero [] ys d = refl
  behind zero (a ∷ us) ys d = refl
  behind (suc i) [] ys d = refl
  behind (suc i) (a ∷ us) [] d = refl
  behind (suc i) (a ∷ us) (b ∷ bs) d = behind i us bs d

  -- the next of values that are shown is changed
  pub paired-more : {C : Type 0} (shown : C → B) (i : ℕ) (xs : List A) (ys : List B) (cs : List C) (x : A) (c new : C) → i < length xs → i < length cs → length ys ≡ length cs
      → map shown cs ≡ paired f (take i xs) ys → x ≡ get_or xs i x → c ≡ get_or cs i c → shown new ≡ f x (shown c) → map shown (set cs i new) ≡ paired f (take (i + 1) xs) ys
  paired-more shown i xs ys cs x c new low below long before is_x is_c made =
      let there : i < length ys = omega arith in
      let at : i + 1 ≡ suc i = omega arith in
      let was : shown c ≡ get_or ys i (shown c) = ap shown is_c ∙ sym (get_or-map shown cs i c (shown c) below) ∙ ap (λ zs. get_or zs i (shown c)) before ∙ behind i xs ys (shown c) in
      map-set shown cs i new ∙ (λ j. set (before j) i (made j)) ∙ next i xs ys x (shown c) low there is_x was ∙ ap (λ n. paired f (take n xs) ys) (sym at)

  pub paired-all : (i : ℕ) (xs : List A) (ys : List B) → length xs ≤ i → paired f (take i xs) ys ≡ paired f xs ys
  paired-all i xs ys h = ap (λ zs. paired f zs ys) (made-all xs i h)

-- values of numbers
pub paired-maps : {A B : Type 0} (f : A → B → B) (h : ℕ → A) (old new : ℕ → B) → ((t : ℕ) → f (h t) (old t) ≡ new t) → (ts : List ℕ) → paired f (map h ts) (map old ts) ≡ map new ts
paired-maps f h old new is [] = refl
paired-maps f h old new is (t ∷ ts) = λ i. is t i ∷ paired-maps f h old new is ts i
