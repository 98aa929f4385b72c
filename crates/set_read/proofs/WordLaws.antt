-- The token of a word says nothing of what stands behind an opening bracket after it.
use Rattle.std.proofs.Common.{◌≡◌, ℕ, ◌+◌, ◌-◌, Bool, true, false, cond, not, ◌==◌, ◌&&◌, ◌||◌, List, [], ◌∷◌, ◌++◌, length, take, drop, Option, Some, None, option_map, option_and_then, refl, ap, ap₂, ◌∙◌, arith, length-append}
use Rattle.std.proofs.lemmas.List.{drop-append-le, take-append-le}
use Rattle.std.proofs.lemmas.Bool.{and_parts, not-true}
use Rattle.std.proofs.lemmas.List.Sums.{prefix_len-le-length}
use Rattle.std.specs.Prelude.{nat_eq}
use Rattle.std.specs.List.{prefix_len, starts_with}
use Rattle.std.specs.Char.{is_ascii_digit}
use Rattle.json.specs.Token.{Token, boolean, null, number, bad}
use Rattle.json.specs.Word.{is_operator, is_space, head, ends_word, after_digits, after_minus, after_sign, after_whole, after_fraction, after_exponent, after_number, number_before, literal, word}

under : {A B : Type 0} (f : A → B) (b : Bool) (x y : A) → cond b (f x) (f y) ≡ f (cond b x y)
under f true x y = refl
under f false x y = refl

-- a word ends here, or with the text
abbrev stops : List ℕ → Bool
stops [] = true
stops (x ∷ t) = is_operator x || is_space x

-- a text of this name, and then the end of a word
abbrev is_name : List ℕ → List ℕ → Bool
is_name [] t = stops t
is_name (c ∷ cs) [] = false
is_name (c ∷ cs) (x ∷ t) = nat_eq c x && is_name cs t

abbrev has_no_bracket : List ℕ → Bool
has_no_bracket [] = true
has_no_bracket (c ∷ cs) = not (nat_eq c 91) && has_no_bracket cs

first_of_three : (a b c : Bool) → (a && b && c) ≡ (a && (b && c))
first_of_three true b c = refl
first_of_three false b c = refl

abbrev number_alone : List ℕ → Option (List ℕ) → Token
number_alone t None = bad
number_alone t (Some r) = cond (stops r) (number (take (length t - length r) t)) bad

abbrev literal_alone : List ℕ → Token → List ℕ → Token
literal_alone name k t = cond (is_name name t) k bad

-- the token of a text alone
abbrev pub word_alone : List ℕ → Token
word_alone t =
    cond (head t == 116) (literal_alone (116 ∷ 114 ∷ 117 ∷ 101 ∷ []) (boolean true) t)
    (cond (head t == 102) (literal_alone (102 ∷ 97 ∷ 108 ∷ 115 ∷ 101 ∷ []) (boolean false) t)
    (cond (head t == 110) (literal_alone (110 ∷ 117 ∷ 108 ∷ 108 ∷ []) null t) (number_alone t (after_number t))))

module _ (w : List ℕ) where
  abbrev more : List ℕ → List ℕ
  more t = t ++ 91 ∷ w

  digits-more : (t : List ℕ) → prefix_len is_ascii_digit (more t) ≡ prefix_len is_ascii_digit t
  digits-more [] = refl
  digits-more (x ∷ t) = ap (λ n. cond (is_ascii_digit x) (1 + n) 0) (digits-more t)

  after_digits-more : (t : List ℕ) → after_digits (more t) ≡ option_map more (after_digits t)
  after_digits-more t =
      let n = prefix_len is_ascii_digit t in
      ap (λ k. cond (k == 0) None (Some (drop k (more t)))) (digits-more t)
      ∙ ap (λ r. cond (n == 0) None (Some r)) (drop-append-le n t (91 ∷ w) (prefix_len-le-length is_ascii_digit t))
      ∙ under (option_map more) (n == 0) None (Some (drop n t))

  after_minus-more : (t : List ℕ) → after_minus (more t) ≡ more (after_minus t)
  after_minus-more [] = refl
  after_minus-more (x ∷ t) = under more (x == 45) t (x ∷ t)

  after_sign-more : (t : List ℕ) → after_sign (more t) ≡ more (after_sign t)
  after_sign-more [] = refl
  after_sign-more (x ∷ t) = under more ((x == 45) || (x == 43)) t (x ∷ t)

  after_whole-more : (t : List ℕ) → after_whole (more t) ≡ option_map more (after_whole t)
  after_whole-more [] = refl
  after_whole-more (x ∷ t) =
      ap (λ o. cond (x == 48) (Some (more t)) o) (after_digits-more (x ∷ t))
      ∙ under (option_map more) (x == 48) (Some t) (after_digits (x ∷ t))

  after_fraction-more : (t : List ℕ) → after_fraction (more t) ≡ option_map more (after_fraction t)
  after_fraction-more [] = refl
  after_fraction-more (x ∷ t) =
      ap (λ o. cond (x == 46) o (Some (more (x ∷ t)))) (after_digits-more t)
      ∙ under (option_map more) (x == 46) (after_digits t) (Some (x ∷ t))

  after_exponent-more : (t : List ℕ) → after_exponent (more t) ≡ option_map more (after_exponent t)
  after_exponent-more [] = refl
  after_exponent-more (x ∷ t) =
      let e = (x == 101) || (x == 69) in
      ap (λ o. cond e o (Some (more (x ∷ t)))) (ap after_digits (after_sign-more t) ∙ after_digits-more (after_sign t))
      ∙ under (option_map more) e (after_digits (after_sign t)) (Some (x ∷ t))

  then : (f : List ℕ → Option (List ℕ)) → ((t : List ℕ) → f (more t) ≡ option_map more (f t)) → (o : Option (List ℕ))
      → option_and_then f (option_map more o) ≡ option_map more (option_and_then f o)
  then f e None = refl
  then f e (Some t) = e t

  after_number-more : (t : List ℕ) → after_number (more t) ≡ option_map more (after_number t)
  unfolding after_number
  after_number-more t =
      ap (λ o. option_and_then after_exponent (option_and_then after_fraction o))
      (ap after_whole (after_minus-more t) ∙ after_whole-more (after_minus t))
      ∙ ap (option_and_then after_exponent) (then after_fraction after_fraction-more (after_whole (after_minus t)))
      ∙ then after_exponent after_exponent-more (option_and_then after_fraction (after_whole (after_minus t)))

  stops-more : (t : List ℕ) → ends_word (more t) ≡ stops t
  stops-more [] = refl
  stops-more (x ∷ t) = refl

  number-more : (t : List ℕ) (o : Option (List ℕ)) → number_before (more t) (option_map more o) ≡ number_alone t o
  number-more t None = refl
  number-more t (Some r) =
      let size : length (more t) - length (more r) ≡ length t - length r =
      omega (arith, length-append t (91 ∷ w), length-append r (91 ∷ w)) in
      ap₂ (λ b s. cond b (number s) bad) (stops-more r)
      (ap (λ n. take n (more t)) size ∙ take-append-le (length t - length r) t (91 ∷ w) (omega arith))

  name-more : (name t : List ℕ) → has_no_bracket name ≡ true
      → (starts_with nat_eq (more t) name && ends_word (drop (length name) (more t))) ≡ is_name name t
  name-more [] t h = stops-more t
  name-more (c ∷ cs) [] h = rw (not-true (nat_eq c 91) (and_parts _ _ h).0) refl
  name-more (c ∷ cs) (x ∷ t) h = first_of_three (nat_eq c x) _ _ ∙ ap (λ b. nat_eq c x && b) (name-more cs t (and_parts _ _ h).1)

  literal-more : (name : List ℕ) (k : Token) (t : List ℕ) → has_no_bracket name ≡ true → literal name k (more t) ≡ literal_alone name k t
  literal-more name k t h = ap (λ b. cond b k bad) (name-more name t h)

  pub word-more : (x : ℕ) (t : List ℕ) → word (x ∷ t ++ 91 ∷ w) ≡ word_alone (x ∷ t)
  unfolding word
  word-more x t =
      let s = x ∷ t in
      let yes = literal-more (116 ∷ 114 ∷ 117 ∷ 101 ∷ []) (boolean true) s refl in
      let no = literal-more (102 ∷ 97 ∷ 108 ∷ 115 ∷ 101 ∷ []) (boolean false) s refl in
      let nothing = literal-more (110 ∷ 117 ∷ 108 ∷ 108 ∷ []) null s refl in
      let digits = ap (number_before (more s)) (after_number-more s) ∙ number-more s (after_number s) in
      λ i. cond (x == 116) (yes i) (cond (x == 102) (no i) (cond (x == 110) (nothing i) (digits i)))
