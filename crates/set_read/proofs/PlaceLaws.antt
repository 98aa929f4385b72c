-- The tokens up to an opening bracket are the same, whatever stands behind it.
use Rattle.std.proofs.Common.{◌≡◌, ℕ, Bool, true, false, List, [], ◌∷◌, ◌++◌, ◌⊎◌, inl, inr, refl, sym, ap, ◌∙◌}
use Rattle.std.proofs.lemmas.List.{append_cancel_right}
use Rattle.json.specs.Lex.{Lexeme, token, comma, colon, between, lex, Place, fresh, after_value, after_comma, after_key, begins_colon, may_begin, may_close, if_allowed, place_token, punctuate, tokens}
use Rattle.json.specs.Token.{Token, begin_object, end_object, begin_array, end_array, key, string, number, boolean, null, bad}
use Rattle.set_read.specs.inside.Texts.{closing}
use Rattle.set_read.proofs.LexLaws.{Reached, IsFaulty, closes_outside, lexed}

module _ (p : Place) (ls : List Lexeme) where
  -- whatever token stands behind the lexemes, there is a fault before it
  abbrev Fails : List Token → Type 0
  Fails front = (t : Token) (r : List Lexeme) → punctuate p (ls ++ token t ∷ r) ≡ front ++ bad ∷ []

  abbrev Goes : List Token → Type 0
  Goes front = (q : Place) × ((t : Token) (r : List Lexeme) → punctuate p (ls ++ token t ∷ r) ≡ front ++ punctuate q (token t ∷ r))

  abbrev Passed : Type 0
  Passed = (front : List Token) × (Fails front ⊎ Goes front)

pub token_at : (p : Place) (k : Token) (ls : List Lexeme)
    → punctuate p (token k ∷ ls) ≡ place_token p k (begins_colon ls) (λ n. punctuate n ls)
unfolding punctuate
token_at fresh k ls = refl
token_at after_value k ls = refl
token_at after_comma k ls = refl
token_at after_key k ls = refl

same_colon : (ls : List Lexeme) (t : Token) (r : List Lexeme) → begins_colon (ls ++ token t ∷ r) ≡ begins_colon ls
same_colon [] t r = refl
same_colon (token k ∷ ls) t r = refl
same_colon (comma ∷ ls) t r = refl
same_colon (colon ∷ ls) t r = refl

module _ (p : Place) (first : Lexeme) (ls : List Lexeme) where
  gives : (b : Bool) (k : Token) (next : Place)
      → ((t : Token) (r : List Lexeme)
      → punctuate p (first ∷ ls ++ token t ∷ r) ≡ if_allowed b k (λ n. punctuate n (ls ++ token t ∷ r)) next)
      → Passed next ls → Passed p (first ∷ ls)
  gives false k next e again = ([], inl e)
  gives true k next e (front, inl f) = (k ∷ front, inl (λ t r. e t r ∙ ap (λ ts. k ∷ ts) (f t r)))
  gives true k next e (front, inr (q, f)) = (k ∷ front, inr (q, λ t r. e t r ∙ ap (λ ts. k ∷ ts) (f t r)))

  moves : (next : Place) → ((t : Token) (r : List Lexeme) → punctuate p (first ∷ ls ++ token t ∷ r) ≡ punctuate next (ls ++ token t ∷ r))
      → Passed next ls
      → Passed p (first ∷ ls)
  moves next e (front, inl f) = (front, inl (λ t r. e t r ∙ f t r))
  moves next e (front, inr (q, f)) = (front, inr (q, λ t r. e t r ∙ f t r))

text_passed : (p : Place) (s : List ℕ) (ls : List Lexeme) (b : Bool) → begins_colon ls ≡ b → ((n : Place) → Passed n ls)
    → Passed p (token (string s) ∷ ls)
text_passed p s ls true e again =
    gives p (token (string s)) ls (may_begin p) (key s) after_key
    (λ t r. token_at p (string s) (ls ++ token t ∷ r)
    ∙ ap (λ b. place_token p (string s) b (λ n. punctuate n (ls ++ token t ∷ r))) (same_colon ls t r ∙ e)) (again after_key)
text_passed p s ls false e again =
    gives p (token (string s)) ls (may_begin p) (string s) after_value
    (λ t r. token_at p (string s) (ls ++ token t ∷ r)
    ∙ ap (λ b. place_token p (string s) b (λ n. punctuate n (ls ++ token t ∷ r))) (same_colon ls t r ∙ e)) (again after_value)

token_passed : (p : Place) (k : Token) (ls : List Lexeme) → ((n : Place) → Passed n ls) → Passed p (token k ∷ ls)
token_passed p begin_object ls again =
    gives p (token begin_object) ls (may_begin p) begin_object fresh (λ t r. token_at p begin_object _) (again fresh)
token_passed p end_object ls again =
    gives p (token end_object) ls (may_close p) end_object after_value (λ t r. token_at p end_object _) (again after_value)
token_passed p begin_array ls again =
    gives p (token begin_array) ls (may_begin p) begin_array fresh (λ t r. token_at p begin_array _) (again fresh)
token_passed p end_array ls again =
    gives p (token end_array) ls (may_close p) end_array after_value (λ t r. token_at p end_array _) (again after_value)
token_passed p (key s) ls again = ([], inl (λ t r. token_at p (key s) _))
token_passed p (string s) ls again = text_passed p s ls (begins_colon ls) refl again
token_passed p (number s) ls again =
    gives p (token (number s)) ls (may_begin p) (number s) after_value (λ t r. token_at p (number s) _) (again after_value)
token_passed p (boolean b) ls again =
    gives p (token (boolean b)) ls (may_begin p) (boolean b) after_value (λ t r. token_at p (boolean b) _) (again after_value)
token_passed p null ls again = gives p (token null) ls (may_begin p) null after_value (λ t r. token_at p null _) (again after_value)
token_passed p bad ls again = ([], inl (λ t r. token_at p bad _))

passed : (ls : List Lexeme) (p : Place) → Passed p ls
unfolding punctuate
passed [] p = ([], inr (p, λ t r. refl))
passed (token k ∷ ls) p = token_passed p k ls (λ n. passed ls n)
passed (comma ∷ ls) fresh = ([], inl (λ t r. refl))
passed (comma ∷ ls) after_value = moves after_value comma ls after_comma (λ t r. refl) (passed ls after_comma)
passed (comma ∷ ls) after_comma = ([], inl (λ t r. refl))
passed (comma ∷ ls) after_key = ([], inl (λ t r. refl))
passed (colon ∷ ls) fresh = ([], inl (λ t r. refl))
passed (colon ∷ ls) after_value = ([], inl (λ t r. refl))
passed (colon ∷ ls) after_comma = ([], inl (λ t r. refl))
passed (colon ∷ ls) after_key = moves after_key colon ls fresh (λ t r. refl) (passed ls fresh)

-- ---- a text that is good with the closing brackets behind it

abbrev last_of : Token → List Token → Token
last_of d [] = d
last_of d (t ∷ ts) = last_of t ts

last_is : (d : Token) (ts : List Token) (t : Token) → last_of d (ts ++ t ∷ []) ≡ t
last_is d [] t = refl
last_is d (u ∷ ts) t = last_is u ts t

abbrev ended : List Token → List Token
ended ts = ts ++ begin_array ∷ end_array ∷ end_object ∷ []

last_ended : (d : Token) (ts : List Token) → last_of d (ended ts) ≡ end_object
last_ended d [] = refl
last_ended d (u ∷ ts) = last_ended u ts

not_faulty : {P : Type 0} (front ts : List Token) → ended ts ≡ front ++ bad ∷ [] → P
not_faulty front ts e = let last : end_object ≡ bad = sym (last_ended bad ts) ∙ ap (last_of bad) e ∙ last_is bad front bad in absurd cc

closed : punctuate fresh (lex between (93 ∷ 125 ∷ [])) ≡ end_array ∷ end_object ∷ []
unfolding lex punctuate
closed = refl

module _ (u : List ℕ) (ts : List Token) (good : tokens (u ++ closing) ≡ ended ts) where
  abbrev Opens : Type 0
  Opens = (w : List ℕ) → tokens (u ++ 91 ∷ w) ≡ ts ++ begin_array ∷ tokens w

  if_faulty : (ls r : List Lexeme) → lex between (u ++ closing) ≡ ls ++ token bad ∷ r → Passed fresh ls → Opens
  if_faulty ls r e (front, inl f) = not_faulty front ts (sym good ∙ ap (punctuate fresh) e ∙ f bad r)
  if_faulty ls r e (front, inr (q, f)) =
      not_faulty front ts (sym good ∙ ap (punctuate fresh) e ∙ f bad r ∙ ap (λ k. front ++ k) (token_at q bad r))

  by_place : (front : List Token) (b : Bool)
      → ((w : List ℕ) → tokens (u ++ 91 ∷ w) ≡ front ++ if_allowed b begin_array (λ n. punctuate n (lex between w)) fresh) → Opens
  by_place front false e = not_faulty front ts (sym good ∙ e (93 ∷ 125 ∷ []))
  by_place front true e =
      let same : front ≡ ts = append_cancel_right front ts (begin_array ∷ end_array ∷ end_object ∷ [])
      (sym (e (93 ∷ 125 ∷ []) ∙ ap (λ k. front ++ begin_array ∷ k) closed) ∙ good) in
      λ w. e w ∙ ap (λ k. k ++ begin_array ∷ tokens w) same

  if_reached : (ls : List Lexeme) → ((w : List ℕ) → lex between (u ++ 91 ∷ w) ≡ ls ++ token begin_array ∷ lex between w) → Passed fresh ls
      → Opens
  if_reached ls e (front, inl f) = not_faulty front ts (sym good ∙ ap (punctuate fresh) (e (93 ∷ 125 ∷ [])) ∙ f begin_array _)
  if_reached ls e (front, inr (q, f)) =
      by_place front (may_begin q)
      (λ w. ap (punctuate fresh) (e w) ∙ f begin_array _ ∙ ap (λ k. front ++ k) (token_at q begin_array (lex between w)))

  by_lexed : Reached between u ⊎ IsFaulty between u → Opens
  by_lexed (inl (ls, e)) = if_reached ls e (passed ls fresh)
  by_lexed (inr (ls, r, e)) = if_faulty ls r e (passed ls fresh)

  pub opens : Opens
  opens = by_lexed (lexed between u (closes_outside u).0)
