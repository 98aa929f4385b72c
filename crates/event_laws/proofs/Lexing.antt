-- A line feed behind printed tokens changes nothing of what is read.
use Rattle.std.proofs.Common.{◌≡◌, ℕ, Bool, true, false, cond, ◌&&◌, List, [], ◌∷◌, ◌++◌, refl, sym, ap, ap₂, ◌∙◌, append_assoc, append-nil, map, inl, inr}
use Rattle.json.specs.Token.{Token, begin_object, end_object, begin_array, end_array, key, string, number, boolean, null, bad}
use Rattle.json.specs.Word.{ends_word, word}
use Rattle.json.specs.Lex.{Lexeme, token, comma, colon, string_token, lex, between, fresh, punctuate, tokens}
use Rattle.json.specs.Print.{escape, quoted, token_text, begins, ends, IsPrintable, ArePrintable}
use Rattle.json.specs.Spaced.{IsGap, AreGaps, print_spaced}
use Rattle.json.proofs.Printed.Strings.{content-escape, lex-escape}
use Rattle.json.proofs.Printed.Numbers.{lex-number, in_word-ended}

abbrev token_lexemes : Token → List Lexeme
token_lexemes begin_object = token begin_object ∷ []
token_lexemes end_object = token end_object ∷ []
token_lexemes begin_array = token begin_array ∷ []
token_lexemes end_array = token end_array ∷ []
token_lexemes (key s) = token (string s) ∷ colon ∷ []
token_lexemes (string s) = token (string s) ∷ []
token_lexemes (number s) = token (number s) ∷ []
token_lexemes (boolean b) = token (boolean b) ∷ []
token_lexemes null = token null ∷ []
token_lexemes bad = []

lex-quoted : (s r : List ℕ) → lex between (quoted s ++ r) ≡ token (string s) ∷ lex between r
unfolding lex
lex-quoted s r =
    let e = append_assoc (escape s) (34 ∷ []) r in
    ap (λ l. lex between (34 ∷ l)) e ∙ ap₂ (λ o l. token (string_token o) ∷ l) (content-escape s r) (lex-escape s r)

lex-token_text : (t : Token) (r : List ℕ) → IsPrintable t → (ends t ≡ true → ends_word r ≡ true) → lex between (token_text t ++ r) ≡ token_lexemes t ++ lex between r
unfolding lex word
lex-token_text begin_object r h ended = refl
lex-token_text end_object r h ended = refl
lex-token_text begin_array r h ended = refl
lex-token_text end_array r h ended = refl
lex-token_text (key s) r h ended = ap (lex between) (append_assoc (quoted s) (58 ∷ []) r) ∙ lex-quoted s (58 ∷ r)
lex-token_text (string s) r h ended = lex-quoted s r
lex-token_text (number s) r h ended = lex-number s r h (ended refl)
lex-token_text (boolean true) r h ended = ap₂ (λ b l. token (cond b (boolean true) bad) ∷ l) (ended refl) (in_word-ended r (ended refl))
lex-token_text (boolean false) r h ended = ap₂ (λ b l. token (cond b (boolean false) bad) ∷ l) (ended refl) (in_word-ended r (ended refl))
lex-token_text null r h ended = ap₂ (λ b l. token (cond b null bad) ∷ l) (ended refl) (in_word-ended r (ended refl))
lex-token_text bad r h ended = absurd h

lex-gap : (g r : List ℕ) → IsGap g → lex between (g ++ r) ≡ lex between r
unfolding lex
lex-gap [] r h = refl
lex-gap (x ∷ g) r (inl e, h) = rw e (lex-gap g r h)
lex-gap (x ∷ g) r (inr e, h) = rw e (lex-gap g r h)

gap_ends : (g r : List ℕ) → IsGap g → ends_word r ≡ true → ends_word (g ++ r) ≡ true
gap_ends [] r h e = e
gap_ends (x ∷ g) r (inl is, h) e = rw is
gap_ends (x ∷ g) r (inr is, h) e = rw is

abbrev Spaced : Type 0
Spaced = List (List ℕ × Token)

-- behind a value stands what ends a word
spaced_ends : (ps : Spaced) (r : List ℕ) → AreGaps ps → ends_word r ≡ true → ends_word (print_spaced true ps ++ r) ≡ true
unfolding print_spaced
spaced_ends [] r h e = e
spaced_ends ((g, begin_object) ∷ ps) r h e = refl
spaced_ends ((g, end_object) ∷ ps) r h e = rw (append_assoc g (125 ∷ print_spaced true ps) r) (gap_ends g _ h.0 refl)
spaced_ends ((g, begin_array) ∷ ps) r h e = refl
spaced_ends ((g, end_array) ∷ ps) r h e = rw (append_assoc g (93 ∷ print_spaced true ps) r) (gap_ends g _ h.0 refl)
spaced_ends ((g, key s) ∷ ps) r h e = refl
spaced_ends ((g, string s) ∷ ps) r h e = refl
spaced_ends ((g, number s) ∷ ps) r h e = refl
spaced_ends ((g, boolean b) ∷ ps) r h e = refl
spaced_ends ((g, null) ∷ ps) r h e = refl
spaced_ends ((g, bad) ∷ ps) r h e = refl

lex-separator : (b : Bool) (r : List ℕ) → lex between (cond b (44 ∷ []) [] ++ r) ≡ cond b (comma ∷ []) [] ++ lex between r
unfolding lex
lex-separator true r = refl
lex-separator false r = refl

-- a printed token before some text
lex-one : (c : Bool) (p : List ℕ × Token) (r : List ℕ) → IsGap p.0 → IsPrintable p.1 → (ends p.1 ≡ true → ends_word r ≡ true)
    → lex between (cond (c && begins p.1) (44 ∷ []) [] ++ (p.0 ++ (token_text p.1 ++ r))) ≡ cond (c && begins p.1) (comma ∷ []) [] ++ (token_lexemes p.1 ++ lex between r)
lex-one c p r gap printable ended =
    lex-separator (c && begins p.1) (p.0 ++ (token_text p.1 ++ r))
    ∙ ap (λ l. cond (c && begins p.1) (comma ∷ []) [] ++ l) (lex-gap p.0 (token_text p.1 ++ r) gap ∙ lex-token_text p.1 r printable ended)

behind : (c : Bool) (p : List ℕ × Token) (ps : Spaced) (r : List ℕ) → print_spaced c (p ∷ ps) ++ r ≡ cond (c && begins p.1) (44 ∷ []) [] ++ (p.0 ++ (token_text p.1 ++ (print_spaced (ends p.1) ps ++ r)))
unfolding print_spaced
behind c p ps r =
    append_assoc (cond (c && begins p.1) (44 ∷ []) []) (p.0 ++ (token_text p.1 ++ print_spaced (ends p.1) ps)) r
    ∙ ap (λ l. cond (c && begins p.1) (44 ∷ []) [] ++ l)
    (append_assoc p.0 (token_text p.1 ++ print_spaced (ends p.1) ps) r ∙ ap (λ l. p.0 ++ l) (append_assoc (token_text p.1) (print_spaced (ends p.1) ps) r))

line_behind : (c : Bool) (ps : Spaced) → AreGaps ps → ArePrintable (map (λ p. p.1) ps) → lex between (print_spaced c ps ++ 10 ∷ []) ≡ lex between (print_spaced c ps)
unfolding lex print_spaced ArePrintable
line_behind c [] gaps h = refl
line_behind c (p ∷ ps) gaps h =
    let ended = λ (r : List ℕ) (e : ends_word r ≡ true) (is : ends p.1 ≡ true). ap (λ b. ends_word (print_spaced b ps ++ r)) is ∙ spaced_ends ps r gaps.1 e in
    ap (lex between) (behind c p ps (10 ∷ []))
    ∙ lex-one c p (print_spaced (ends p.1) ps ++ 10 ∷ []) gaps.0 h.0 (ended (10 ∷ []) refl)
    ∙ ap (λ l. cond (c && begins p.1) (comma ∷ []) [] ++ (token_lexemes p.1 ++ l)) (line_behind (ends p.1) ps gaps.1 h.1)
    ∙ sym (lex-one c p (print_spaced (ends p.1) ps) gaps.0 h.0 (λ is. ap (λ b. ends_word (print_spaced b ps)) is ∙ ends_alone ps gaps.1))
  where
    ends_alone : (qs : Spaced) → AreGaps qs → ends_word (print_spaced true qs) ≡ true
    ends_alone qs k = ap ends_word (sym (append-nil (print_spaced true qs))) ∙ spaced_ends qs [] k refl

-- so the tokens are the same
pub tokens-line : (ps : Spaced) → AreGaps ps → ArePrintable (map (λ p. p.1) ps) → tokens (print_spaced false ps ++ 10 ∷ []) ≡ tokens (print_spaced false ps)
tokens-line ps gaps h = ap (punctuate fresh) (line_behind false ps gaps h)
