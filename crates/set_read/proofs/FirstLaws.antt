-- Blanks, marks, numbers and words at the front of a text.
use Rattle.std.proofs.Common.{◌≡◌, ℕ, suc, ◌+◌, ◌-◌, ◌*◌, ◌^◌, ◌<◌, ◌≤◌, Bool, true, false, cond, ◌==◌, ◌&&◌, ◌||◌, nat_lt, List, [], ◌∷◌, ◌++◌, length, take, drop, get_or, Some, option_and_then, refl, sym, ap, ap₂, ◌∙◌, subst, arith, append_assoc, append-nil, ◌⊎◌, inl, inr}
use Rattle.std.proofs.lemmas.Bool.{agree_below_at, and_from, eqb-true, false≢true, le-leb, le-ltb, lt-ltb, ne_eqb, or_cases, true≢false}
use Rattle.std.proofs.lemmas.List.{drop_all, drop_more, length-drop, take-append-drop, take_all}
use Rattle.std.proofs.lemmas.Str.Parse.{digit_at}
use Rattle.std.specs.Char.{digit_value, is_ascii_digit}
use Rattle.std.specs.List.{prefix_len}
use Rattle.std.specs.Prelude.{⊤}
use Rattle.std.specs.Str.Parse.{AllDigits, digits_value, digits_value_after}
use Rattle.json.specs.Lex.{Class, quote, backslash, operator, space, other, class, token, between, lex, lex_byte, operator_lexeme, string_token}
use Rattle.json.specs.Print.{IsNumber, escape, escape_byte}
use Rattle.json.specs.Token.{string}
use Rattle.json.specs.Word.{is_operator, is_space, ends_word, after_whole, after_fraction, after_exponent, after_number}
use Rattle.json.proofs.Printed.Numbers.{lex-number}
use Rattle.json.proofs.Printed.Strings.{content-escape, escape_byte_plain, lex-escape}
use Rattle.set_read.specs.inside.Texts.{BeginsWith, BeginsWithNumber}
use Rattle.set_read.proofs.NumberLaws.{number_of-digits}

-- ---- the front of a list, and the rest

take_rest : (n : ℕ) (xs : List ℕ) → take (length xs - n) (drop n xs) ≡ drop n xs
take_rest n xs = take_all (length xs - n) (drop n xs) (omega (arith, length-drop n xs))

-- from place i on the list has these numbers
abbrev pub Has : List ℕ → ℕ → List ℕ → Type 0
Has [] i xs = ⊤
Has (w ∷ ws) i xs = (get_or xs i 0 ≡ w) × Has ws (i + 1) xs

pub has_split : (ws xs : List ℕ) (i : ℕ) → i + length ws ≤ length xs → Has ws i xs
    → drop i xs ≡ ws ++ take (length xs - (i + length ws)) (drop (i + length ws) xs)
has_split [] xs i le h = let e : i ≡ i + 0 = omega arith in ap (λ k. drop k xs) e ∙ sym (take_rest (i + 0) xs)
has_split (w ∷ ws) xs i le h =
    let e : i + 1 + length ws ≡ i + suc (length ws) = omega arith in
    drop_more xs i 0 (omega arith) ∙ ap₂ (λ x r. x ∷ r) h.0 (has_split ws xs (i + 1) (omega arith) h.1)
    ∙ ap (λ k. w ∷ (ws ++ take (length xs - k) (drop k xs))) e

pub first_split : (x : ℕ) (xs : List ℕ) → 1 ≤ length xs → get_or xs 0 0 ≡ x → xs ≡ x ∷ take (length xs - 1) (drop 1 xs)
first_split x xs some e = has_split (x ∷ []) xs 0 (omega arith) (e, tt)

pub place_split : (x i : ℕ) (xs : List ℕ) → i < length xs → get_or xs i 0 ≡ x
    → xs ≡ take i xs ++ x ∷ take (length xs - (i + 1)) (drop (i + 1) xs)
place_split x i xs within e = sym (take-append-drop i xs) ∙ ap (λ r. take i xs ++ r) (has_split (x ∷ []) xs i (omega arith) (e, tt))

-- ---- blanks and marks

by_space : (P : ℕ → Type 0) → P 32 → P 9 → P 10 → P 13 → (x : ℕ) → is_space x ≡ true → P x
by_space P a b c d x e = one (or_cases _ (x == 13) e)
  where
    is : (y : ℕ) → P y → (x == y) ≡ true → P x
    is y p f = subst P (sym (eqb-true x y f)) p

    three : ((x == 32) ≡ true) ⊎ ((x == 9) ≡ true) → P x
    three (inl f) = is 32 a f
    three (inr f) = is 9 b f

    two : (((x == 32) || (x == 9)) ≡ true) ⊎ ((x == 10) ≡ true) → P x
    two (inl f) = three (or_cases _ _ f)
    two (inr f) = is 10 c f

    one : (((x == 32) || (x == 9) || (x == 10)) ≡ true) ⊎ ((x == 13) ≡ true) → P x
    one (inl f) = two (or_cases _ _ f)
    one (inr f) = is 13 d f

pub blank_first : (x : ℕ) (t : List ℕ) → is_space x ≡ true → lex between (x ∷ t) ≡ lex between t
unfolding lex
blank_first x t e = by_space (λ y. lex between (y ∷ t) ≡ lex between t) refl refl refl refl x e

pub blank_ends : (x : ℕ) (t : List ℕ) → is_space x ≡ true → ends_word (x ∷ t) ≡ true
blank_ends x t e = by_space (λ y. ends_word (y ∷ t) ≡ true) refl refl refl refl x e

pub mark_first : (x : ℕ) (t : List ℕ) → class x ≡ operator → BeginsWith (operator_lexeme x) (x ∷ t) t
unfolding lex
mark_first x t e = ap (λ c. lex_byte between c x t (λ n. lex n t)) e

abbrev is_mark : Class → Bool
is_mark quote = false
is_mark backslash = false
is_mark operator = true
is_mark space = false
is_mark other = false

by_mark : (q b o s : Bool) → is_mark (cond q quote (cond b backslash (cond o operator (cond s space other)))) ≡ true → o ≡ true
by_mark true b o s e = absurd (false≢true e)
by_mark false true o s e = absurd (false≢true e)
by_mark false false true s e = refl
by_mark false false false true e = absurd (false≢true e)
by_mark false false false false e = absurd (false≢true e)

pub mark_ends : (x : ℕ) (t : List ℕ) → class x ≡ operator → ends_word (x ∷ t) ≡ true
mark_ends x t e = ap (λ b. b || is_space x) (by_mark (x == 34) (x == 92) (is_operator x) (is_space x) (ap is_mark e))

-- ---- numbers

value_push : (n x : ℕ) (ds : List ℕ) → digits_value_after 10 n (ds ++ x ∷ []) ≡ digits_value_after 10 n ds * 10 + digit_value x
value_push n x [] = refl
value_push n x (d ∷ ds) = value_push (n * 10 + digit_value d) x ds

digit_push : (x : ℕ) (ds : List ℕ) → AllDigits 10 ds → digit_value x < 10 → AllDigits 10 (ds ++ x ∷ [])
digit_push x [] all small = (small, tt)
digit_push x (d ∷ ds) all small = (all.0, digit_push x ds all.1 small)

-- with one digit more
pub digits_push : (text rest ds : List ℕ) (n x : ℕ) → text ≡ ds ++ x ∷ rest → AllDigits 10 ds → digits_value 10 ds ≡ n → 48 ≤ x → x ≤ 57
    → (text ≡ (ds ++ x ∷ []) ++ rest) × AllDigits 10 (ds ++ x ∷ []) × (digits_value 10 (ds ++ x ∷ []) ≡ n * 10 + (x - 48))
digits_push text rest ds n x is all value low high =
    let digit : digit_value x ≡ x - 48 = rw (le-ltb x 48 low, lt-ltb x 58 (omega arith)) refl in (
      is ∙ sym (append_assoc ds (x ∷ []) rest),
      digit_push x ds all (omega arith),
      value_push 0 x ds ∙ ap₂ (λ a b. a * 10 + b) value digit,
    )

all_digits : (ds : List ℕ) → ((i : ℕ) → i < length ds → (48 ≤ get_or ds i 0) × (get_or ds i 0 ≤ 57))
    → prefix_len is_ascii_digit ds ≡ length ds
all_digits [] h = refl
all_digits (d ∷ ds) h =
    let first = h 0 (omega arith) in
    let rest = all_digits ds (λ i l. h (suc i) (omega arith)) in
    ap (λ b. cond b (1 + prefix_len is_ascii_digit ds) 0) (and_from _ _ (le-leb 48 d first.0) (le-leb d 57 first.1)) ∙ omega arith

is_number : (d : ℕ) (ds : List ℕ) → AllDigits 10 (d ∷ ds) → 48 < d → IsNumber (d ∷ ds)
unfolding after_number
is_number d ds all first =
    let run = all_digits (d ∷ ds) (λ i l. digit_at (d ∷ ds) i all l) in
    let some = ne_eqb (suc (length ds)) 0 (λ e. omega arith) in
    let whole : after_whole (d ∷ ds) ≡ Some [] =
    rw (ne_eqb d 48 (λ e. omega arith), run, some) (ap Some (drop_all (length ds) ds (omega arith))) in
    rw (ne_eqb d 45 (λ e. omega arith)) (ap (λ o. option_and_then after_exponent (option_and_then after_fraction o)) whole)

no_digit_ends : (x : ℕ) (t : List ℕ) → 48 < x → x < 58 → ends_word (x ∷ t) ≡ true → ⊥
no_digit_ends x t low high e =
    let never = agree_below_at (λ y. nat_lt 48 y && (is_operator y || is_space y)) (λ y. false) 58 x refl high in
    true≢false (sym (and_from _ _ (lt-ltb 48 x low) e) ∙ never)

pub zero_first : (rest : List ℕ) → ends_word rest ≡ true → BeginsWithNumber 0 (48 ∷ rest) rest
unfolding after_number
zero_first rest ended =
    (48 ∷ [], lex-number (48 ∷ []) rest refl ended, number_of-digits (48 ∷ []) (omega arith, tt) (omega arith) (omega arith))

pub digits_first : (text rest ds : List ℕ) (n : ℕ) → text ≡ ds ++ rest → AllDigits 10 ds → digits_value 10 ds ≡ n → n < 2 ^ 64
    → 48 < get_or text 0 0
    → get_or text 0 0 < 58 → ends_word rest ≡ true → BeginsWithNumber n text rest
digits_first text rest ds n is all value fits low high ended =
    rw is (by_digits ds all value (rw is at low) (rw is at high))
  where
    none : (r : List ℕ) → 48 < get_or r 0 0 → get_or r 0 0 < 58 → ends_word r ≡ true → ⊥
    none [] l h e = omega arith
    none (x ∷ r) l h e = no_digit_ends x r l h e

    by_digits : (es : List ℕ) → AllDigits 10 es → digits_value 10 es ≡ n → 48 < get_or (es ++ rest) 0 0 → get_or (es ++ rest) 0 0 < 58
        → BeginsWithNumber n (es ++ rest) rest
    by_digits [] a v l h = absurd (none rest l h ended)
    by_digits (d ∷ es) a v l h = (
      d ∷ es,
      lex-number (d ∷ es) rest (is_number d es a l) ended,
      rw (← v) (number_of-digits (d ∷ es) a (omega arith) (omega arith)),
    )

-- ---- words

escape_push : (s : List ℕ) (x : ℕ) → escape (s ++ x ∷ []) ≡ escape s ++ escape_byte x
escape_push [] x = simp append-nil
escape_push (y ∷ s) x = ap (λ r. escape_byte y ++ r) (escape_push s x) ∙ sym (append_assoc (escape_byte y) (escape s) (escape_byte x))

-- with one byte more it needs no escapes either
pub plain_push : (s t : List ℕ) (x : ℕ) → t ≡ s ++ x ∷ [] → escape s ≡ s → (x ≡ 34 → ⊥) → (x ≡ 92 → ⊥) → 32 ≤ x → escape t ≡ t
plain_push s t x is plain q b low = rw is (escape_push s x ∙ ap₂ (λ r y. r ++ y) plain (escape_byte_plain x q b low))

pub word_first : (s rest text : List ℕ) → text ≡ s ++ 34 ∷ rest → escape s ≡ s → BeginsWith (token (string s)) (34 ∷ text) rest
unfolding lex
word_first s rest text is plain =
    ap (λ t. lex between (34 ∷ t)) (is ∙ ap (λ r. r ++ 34 ∷ rest) (sym plain))
    ∙ ap₂ (λ o l. token (string_token o) ∷ l) (content-escape s rest) (lex-escape s rest)
