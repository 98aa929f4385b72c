-- Up to an opening bracket that stands in no string the lexemes are the same, whatever stands behind it.
use Rattle.std.proofs.Common.{◌≡◌, ℕ, true, List, [], ◌∷◌, ◌++◌, Option, Some, None, ◌⊎◌, inl, inr, refl, ap, ◌∙◌}
use Rattle.std.proofs.lemmas.Bool.{false≢true}
use Rattle.json.specs.Lex.{Class, quote, backslash, operator, space, other, class, Lexeme, token, Mode, between, in_word, in_string, in_escape, lex, lex_byte, operator_lexeme, string_token}
use Rattle.json.specs.Text.{content, plain}
use Rattle.json.specs.Token.{begin_array, bad, string}
use Rattle.set_read.specs.inside.Texts.{closing}
use Rattle.set_read.proofs.StringLaws.{closes, closes_byte, decided}
use Rattle.set_read.proofs.WordLaws.{word_alone, word-more}

-- behind the text the bracket is read, after these lexemes
abbrev pub Reached : Mode → List ℕ → Type 0
Reached m u = (ls : List Lexeme) × ((w : List ℕ) → lex m (u ++ 91 ∷ w) ≡ ls ++ token begin_array ∷ lex between w)

-- with the closing brackets behind it, the text has a fault
abbrev pub IsFaulty : Mode → List ℕ → Type 0
IsFaulty m u = (ls : List Lexeme) × (r : List Lexeme) × (lex m (u ++ closing) ≡ ls ++ token bad ∷ r)

abbrev Lexed : Mode → List ℕ → Type 0
Lexed m u = Reached m u ⊎ IsFaulty m u

pub closes_outside : (t : List ℕ) → (closes between t ≡ true) × (closes in_word t ≡ true)
closes_outside [] = (refl, refl)
closes_outside (x ∷ t) = (refl, refl)

lex_first : (m : Mode) (c : Class) (x : ℕ) (t : List ℕ) → class x ≡ c → lex m (x ∷ t) ≡ lex_byte m c x t (λ n. lex n t)
unfolding lex
lex_first m c x t e = ap (λ k. lex_byte m k x t (λ n. lex n t)) e

module _ (x : ℕ) (u : List ℕ) where
  abbrev Again : Type 0
  Again = (n : Mode) → closes n u ≡ true → Lexed n u

  first : (m : Mode) (c : Class) → class x ≡ c → (w : List ℕ)
      → lex m (x ∷ u ++ 91 ∷ w) ≡ lex_byte m c x (u ++ 91 ∷ w) (λ n. lex n (u ++ 91 ∷ w))
  first m c e w = lex_first m c x (u ++ 91 ∷ w) e

  -- the byte gives one lexeme, or none
  gives : (m n : Mode) (l : Lexeme) → ((w : List ℕ) → lex m (x ∷ u ++ 91 ∷ w) ≡ l ∷ lex n (u ++ 91 ∷ w)) → Lexed n u → Lexed m (x ∷ u)
  gives m n l e (inl (ls, f)) = inl (l ∷ ls, λ w. e w ∙ ap (λ r. l ∷ r) (f w))
  gives m n l e (inr (ls, r, f)) = inr (l ∷ ls, r, e (93 ∷ 125 ∷ []) ∙ ap (λ r. l ∷ r) f)

  passes : (m n : Mode) → ((w : List ℕ) → lex m (x ∷ u ++ 91 ∷ w) ≡ lex n (u ++ 91 ∷ w)) → Lexed n u → Lexed m (x ∷ u)
  passes m n e (inl (ls, f)) = inl (ls, λ w. e w ∙ f w)
  passes m n e (inr (ls, r, f)) = inr (ls, r, e (93 ∷ 125 ∷ []) ∙ f)

  quoted : class x ≡ quote → Again → (o : Option (List ℕ)) → content plain (u ++ closing) ≡ o → Lexed between (x ∷ u)
  quoted is again None e =
      let rest = lex in_string (u ++ closing) in
      inr ([], rest, first between quote is (93 ∷ 125 ∷ []) ∙ ap (λ o. token (string_token o) ∷ rest) e)
  quoted is again (Some s) e =
      let string_is = decided plain u s e in
      let rest = λ (w : List ℕ). lex in_string (u ++ 91 ∷ w) in
      gives between in_string (token (string s))
      (λ w. first between quote is w ∙ ap (λ o. token (string_token o) ∷ rest w) (string_is.1 (91 ∷ w))) (again in_string string_is.0)

  word_first : class x ≡ other → (w : List ℕ) → lex between (x ∷ u ++ 91 ∷ w) ≡ token (word_alone (x ∷ u)) ∷ lex in_word (u ++ 91 ∷ w)
  word_first is w = first between other is w ∙ ap (λ k. token k ∷ lex in_word (u ++ 91 ∷ w)) (word-more w x u)

  by_class : (m : Mode) (c : Class) → class x ≡ c → closes_byte m c (λ n. closes n u) ≡ true → Again → Lexed m (x ∷ u)
  by_class between quote e h again = quoted e again (content plain (u ++ closing)) refl
  by_class between backslash e h again = gives between in_word (token bad) (first between backslash e) (again in_word (closes_outside u).1)
  by_class between operator e h again = gives between between (operator_lexeme x) (first between operator e) (again between (closes_outside u).0)
  by_class between space e h again = passes between between (first between space e) (again between (closes_outside u).0)
  by_class between other e h again = gives between in_word (token (word_alone (x ∷ u))) (word_first e) (again in_word (closes_outside u).1)
  by_class in_word quote e h again = passes in_word in_word (first in_word quote e) (again in_word (closes_outside u).1)
  by_class in_word backslash e h again = passes in_word in_word (first in_word backslash e) (again in_word (closes_outside u).1)
  by_class in_word operator e h again = gives in_word between (operator_lexeme x) (first in_word operator e) (again between (closes_outside u).0)
  by_class in_word space e h again = passes in_word between (first in_word space e) (again between (closes_outside u).0)
  by_class in_word other e h again = passes in_word in_word (first in_word other e) (again in_word (closes_outside u).1)
  by_class in_string quote e h again = passes in_string between (first in_string quote e) (again between (closes_outside u).0)
  by_class in_string backslash e h again = passes in_string in_escape (first in_string backslash e) (again in_escape h)
  by_class in_string operator e h again = passes in_string in_string (first in_string operator e) (again in_string h)
  by_class in_string space e h again = passes in_string in_string (first in_string space e) (again in_string h)
  by_class in_string other e h again = passes in_string in_string (first in_string other e) (again in_string h)
  by_class in_escape c e h again = passes in_escape in_string (first in_escape c e) (again in_string h)

pub lexed : (m : Mode) (u : List ℕ) → closes m u ≡ true → Lexed m u
unfolding lex
lexed between [] h = inl ([], λ w. refl)
lexed in_word [] h = inl ([], λ w. refl)
lexed in_string [] h = absurd (false≢true h)
lexed in_escape [] h = absurd (false≢true h)
lexed m (x ∷ u) h = by_class x u m (class x) refl h (λ n k. lexed n u k)
