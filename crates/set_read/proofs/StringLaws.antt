-- A string that has closed says nothing of what stands behind it.
use Rattle.std.proofs.Common.{◌≡◌, ℕ, Bool, true, false, cond, ◌==◌, ◌&&◌, nat_lt, List, [], ◌∷◌, ◌++◌, Option, Some, None, option_and_then, refl, sym, ap, ◌∙◌}
use Rattle.std.proofs.lemmas.Bool.{and_parts, eqb-true, false≢true}
use Rattle.std.specs.Char.{encode_utf8, is_digit}
use Rattle.json.specs.Lex.{Class, quote, backslash, operator, space, other, class, Mode, between, in_word, in_string, in_escape}
use Rattle.json.specs.Text.{code_unit, short_escape, is_high_surrogate, is_low_surrogate, surrogate_pair, Within, plain, after_backslash, after_u, after_high, prepend, content}
use Rattle.json.specs.Word.{is_operator, is_space}
use Rattle.set_read.specs.inside.Texts.{closing}

abbrev pub closes_byte : Mode → Class → (Mode → Bool) → Bool
closes_byte between c k = true
closes_byte in_word c k = true
closes_byte in_string quote k = true
closes_byte in_string backslash k = k in_escape
closes_byte in_string operator k = k in_string
closes_byte in_string space k = k in_string
closes_byte in_string other k = k in_string
closes_byte in_escape c k = k in_string

abbrev is_outside : Mode → Bool
is_outside between = true
is_outside in_word = true
is_outside in_string = false
is_outside in_escape = false

-- a string in which the text begins has closed by its end
abbrev pub closes : Mode → List ℕ → Bool
closes m [] = is_outside m
closes m (x ∷ t) = closes_byte m (class x) (λ n. closes n t)

abbrev mode_of : Within → Mode
mode_of plain = in_string
mode_of after_backslash = in_escape
mode_of after_u = in_string
mode_of (after_high h) = in_string

-- the string has closed, and whatever stands behind the text, it is s
abbrev Decided : Within → List ℕ → List ℕ → Type 0
Decided within t s = (closes (mode_of within) t ≡ true) × ((r : List ℕ) → content within (t ++ r) ≡ Some s)

-- ---- bytes that do not close a string

stays : (o s : Bool) (k : Mode → Bool) → closes_byte in_string (cond o operator (cond s space other)) k ≡ k in_string
stays true s k = refl
stays false true k = refl
stays false false k = refl

passes : (x : ℕ) (t : List ℕ) → (x == 34) ≡ false → (x == 92) ≡ false → closes in_string (x ∷ t) ≡ closes in_string t
passes x t q b =
    (λ i. closes_byte in_string (cond (q i) quote (cond (b i) backslash (cond (is_operator x) operator (cond (is_space x) space other))))
    (λ n. closes n t))
    ∙ stays (is_operator x) (is_space x) (λ n. closes n t)

not_this : (c x : ℕ) (b : Bool) → (x == c) ≡ b → is_digit c 16 ≡ false → is_digit x 16 ≡ true → (x == c) ≡ false
not_this c x false e never h = e
not_this c x true e never h = absurd (false≢true (sym never ∙ ap (λ y. is_digit y 16) (sym (eqb-true x c e)) ∙ h))

hex_passes : (x : ℕ) (t : List ℕ) → is_digit x 16 ≡ true → closes in_string (x ∷ t) ≡ closes in_string t
hex_passes x t h = passes x t (not_this 34 x (x == 34) refl refl h) (not_this 92 x (x == 92) refl refl h)

-- ---- the content, a byte after the other

abbrev of_unit : (List ℕ) → ℕ → Option (List ℕ)
of_unit t u =
    cond (is_high_surrogate u) (content (after_high u) t) (cond (is_low_surrogate u) None (prepend (encode_utf8 u) (content plain t)))

abbrev of_pair : ℕ → List ℕ → ℕ → Option (List ℕ)
of_pair h t l = cond (is_low_surrogate l) (prepend (encode_utf8 (surrogate_pair h l)) (content plain t)) None

content_byte : (x : ℕ) (t : List ℕ) → content plain (x ∷ t)
    ≡ cond (x == 34) (Some []) (cond (x == 92) (content after_backslash t) (cond (nat_lt x 32) None (prepend (x ∷ []) (content plain t))))
unfolding content
content_byte x t = refl

content_escape : (x : ℕ) (t : List ℕ) → content after_backslash (x ∷ t)
    ≡ cond (x == 117) (content after_u t) (option_and_then (λ c. prepend (c ∷ []) (content plain t)) (short_escape x))
unfolding content
content_escape x t = refl

content_unit : (a b c d : ℕ) (t : List ℕ) → content after_u (a ∷ b ∷ c ∷ d ∷ t) ≡ option_and_then (of_unit t) (code_unit a b c d)
unfolding content
content_unit a b c d t = refl

content_pair : (h x y a b c d : ℕ) (t : List ℕ) → content (after_high h) (x ∷ y ∷ a ∷ b ∷ c ∷ d ∷ t)
    ≡ cond ((x == 92) && (y == 117)) (option_and_then (of_pair h t) (code_unit a b c d)) None
unfolding content
content_pair h x y a b c d t = refl

none_plain : content plain closing ≡ None
unfolding content
none_plain = refl

none_escape : content after_backslash closing ≡ None
unfolding content short_escape
none_escape = refl

none_unit : content after_u closing ≡ None
unfolding content
none_unit = refl

none_pair : (h : ℕ) → content (after_high h) closing ≡ None
unfolding content
none_pair h = refl

none_pair_one : (h x : ℕ) → content (after_high h) (x ∷ closing) ≡ None
unfolding content
none_pair_one h x = refl

none_pair_two : (h x y : ℕ) → content (after_high h) (x ∷ y ∷ closing) ≡ None
unfolding content
none_pair_two h x y = refl

-- ---- what was found

never : {P : Type 0} (o : Option (List ℕ)) (s : List ℕ) → o ≡ None → o ≡ Some s → P
never o s e f = absurd cc

found : {A B : Type 0} (f : A → Option B) (o : Option A) (b : B) → option_and_then f o ≡ Some b → (a : A) × (o ≡ Some a) × (f a ≡ Some b)
found f None b e = absurd cc
found f (Some a) b e = (a, refl, e)

prepended : (a s : List ℕ) (o : Option (List ℕ)) → prepend a o ≡ Some s → (r : List ℕ) × (o ≡ Some r)
prepended a s None e = absurd cc
prepended a s (Some r) e = (r, refl)

record Hex (a b c d : ℕ) : Type 0 where
  first : is_digit a 16 ≡ true
  second : is_digit b 16 ≡ true
  third : is_digit c 16 ≡ true
  last : is_digit d 16 ≡ true

hex_by : (a b c d v u : ℕ) (t : Bool) → (is_digit a 16 && is_digit b 16 && is_digit c 16 && is_digit d 16) ≡ t
    → cond t (Some v) None ≡ Some u → Hex a b c d
hex_by a b c d v u false t e = absurd cc
hex_by a b c d v u true t e =
    let p = and_parts (is_digit a 16 && is_digit b 16 && is_digit c 16) (is_digit d 16) t in
    let q = and_parts (is_digit a 16 && is_digit b 16) (is_digit c 16) p.0 in
    let r = and_parts (is_digit a 16) (is_digit b 16) q.0 in
    record { first = r.0; second = r.1; third = q.1; last = p.1 }

unit_hex : (a b c d u : ℕ) → code_unit a b c d ≡ Some u → Hex a b c d
unfolding code_unit
unit_hex a b c d u e = hex_by a b c d _ u _ refl e

hex_closes : (a b c d : ℕ) (t : List ℕ) → Hex a b c d → closes in_string (a ∷ b ∷ c ∷ d ∷ t) ≡ closes in_string t
hex_closes a b c d t h =
    hex_passes a (b ∷ c ∷ d ∷ t) h.first ∙ hex_passes b (c ∷ d ∷ t) h.second ∙ hex_passes c (d ∷ t) h.third ∙ hex_passes d t h.last

found_hex : (f : ℕ → Option (List ℕ)) (a b c d : ℕ) (s : List ℕ) → option_and_then f (code_unit a b c d) ≡ Some s → Hex a b c d
found_hex f a b c d s e = let u = found f (code_unit a b c d) s e in unit_hex a b c d u.0 u.1

unit_found : (a b c d : ℕ) (t s : List ℕ) → content after_u (a ∷ b ∷ c ∷ d ∷ t) ≡ Some s → Hex a b c d
unit_found a b c d t s e = found_hex (of_unit t) a b c d s (sym (content_unit a b c d t) ∙ e)

passed : {A : Type 0} (b : Bool) (x : Option A) (s : A) → cond b x None ≡ Some s → (b ≡ true) × (x ≡ Some s)
passed true x s e = (refl, e)
passed false x s e = absurd cc

pair_found : (h x y a b c d : ℕ) (t s : List ℕ) → content (after_high h) (x ∷ y ∷ a ∷ b ∷ c ∷ d ∷ t) ≡ Some s → Hex a b c d
pair_found h x y a b c d t s e =
    found_hex (of_pair h t) a b c d s (passed ((x == 92) && (y == 117)) _ s (sym (content_pair h x y a b c d t) ∙ e)).1

no_hex : {P : Type 0} → is_digit 91 16 ≡ true → P
no_hex e = absurd (false≢true e)

-- ---- a string that could be read with the brackets behind it

abbrev Reads : Within → List ℕ → Type 0
Reads within t = (s : List ℕ) → content within (t ++ closing) ≡ Some s → Decided within t s

abbrev Continues : List ℕ → (List ℕ → Option (List ℕ)) → List ℕ → Type 0
Continues t f s = (closes in_string t ≡ true) × ((r : List ℕ) → f r ≡ Some s)

after : (a s t : List ℕ) → Reads plain t → prepend a (content plain (t ++ closing)) ≡ Some s
    → Continues t (λ r. prepend a (content plain (t ++ r))) s
after a s t again e =
    let rest = prepended a s (content plain (t ++ closing)) e in
    let decided = again rest.0 rest.1 in
    (decided.0, λ r. ap (prepend a) (decided.1 r ∙ sym rest.1) ∙ e)

by_byte : (x : ℕ) (t s : List ℕ) (q b l : Bool) → (x == 34) ≡ q → (x == 92) ≡ b → nat_lt x 32 ≡ l → Reads plain t → Reads after_backslash t
    → cond q (Some [])
    (cond b (content after_backslash (t ++ closing)) (cond l None (prepend (x ∷ []) (content plain (t ++ closing))))) ≡ Some s
    → Decided plain (x ∷ t) s
by_byte x t s true b l is_quote is_slash is_low plains escapes e = (rw is_quote refl, λ r. rw (content_byte, is_quote) e)
by_byte x t s false true l is_quote is_slash is_low plains escapes e =
    let rest = escapes s e in
    (rw (is_quote, is_slash) rest.0, λ r. rw (content_byte, is_quote, is_slash) (rest.1 r))
by_byte x t s false false true is_quote is_slash is_low plains escapes e = absurd cc
by_byte x t s false false false is_quote is_slash is_low plains escapes e =
    let rest = after (x ∷ []) s t plains e in
    (passes x t is_quote is_slash ∙ rest.0, λ r. rw (content_byte, is_quote, is_slash, is_low) (rest.1 r))

by_letter : (x : ℕ) (t s : List ℕ) (u : Bool) → (x == 117) ≡ u → Reads plain t → Reads after_u t
    → cond u (content after_u (t ++ closing))
    (option_and_then (λ c. prepend (c ∷ []) (content plain (t ++ closing))) (short_escape x)) ≡ Some s
    → Decided after_backslash (x ∷ t) s
by_letter x t s true is_u plains units e = let rest = units s e in (rest.0, λ r. rw (content_escape, is_u) (rest.1 r))
by_letter x t s false is_u plains units e =
    let letter = found (λ c. prepend (c ∷ []) (content plain (t ++ closing))) (short_escape x) s e in
    let rest = after (letter.0 ∷ []) s t plains letter.2 in
    (rest.0, λ r. rw (content_escape, is_u, letter.1) (rest.1 r))

by_unit : (t s : List ℕ) (u : ℕ) (high low : Bool) → is_high_surrogate u ≡ high → is_low_surrogate u ≡ low → Reads plain t
    → ((h : ℕ) → Reads (after_high h) t)
    → cond high (content (after_high u) (t ++ closing)) (cond low None (prepend (encode_utf8 u) (content plain (t ++ closing)))) ≡ Some s
    → Continues t (λ r. of_unit (t ++ r) u) s
by_unit t s u true low is_high is_low plains pairs e = let rest = pairs u s e in (rest.0, λ r. rw is_high (rest.1 r))
by_unit t s u false true is_high is_low plains pairs e = absurd cc
by_unit t s u false false is_high is_low plains pairs e =
    let rest = after (encode_utf8 u) s t plains e in
    (rest.0, λ r. rw (is_high, is_low) (rest.1 r))

four : (a b c d : ℕ) (t s : List ℕ) → Reads plain t → ((h : ℕ) → Reads (after_high h) t)
    → content after_u (a ∷ b ∷ c ∷ d ∷ t ++ closing) ≡ Some s
    → Decided after_u (a ∷ b ∷ c ∷ d ∷ t) s
four a b c d t s plains pairs e =
    let unit = found (of_unit (t ++ closing)) (code_unit a b c d) s (sym (content_unit a b c d (t ++ closing)) ∙ e) in
    let rest = by_unit t s unit.0 (is_high_surrogate unit.0) (is_low_surrogate unit.0) refl refl plains pairs unit.2 in
    let closed = hex_closes a b c d t (unit_hex a b c d unit.0 unit.1) in
    (closed ∙ rest.0, λ r. content_unit a b c d (t ++ r) ∙ ap (option_and_then (of_unit (t ++ r))) unit.1 ∙ rest.1 r)

six : (h x y a b c d : ℕ) (t s : List ℕ) → Reads plain t → content (after_high h) (x ∷ y ∷ a ∷ b ∷ c ∷ d ∷ t ++ closing) ≡ Some s
    → Decided (after_high h) (x ∷ y ∷ a ∷ b ∷ c ∷ d ∷ t) s
six h x y a b c d t s plains e =
    let pair = passed ((x == 92) && (y == 117)) _ s (sym (content_pair h x y a b c d (t ++ closing)) ∙ e) in
    let slash = eqb-true x 92 (and_parts (x == 92) (y == 117) pair.0).0 in
    let unit = found (of_pair h (t ++ closing)) (code_unit a b c d) s pair.1 in
    let low = passed (is_low_surrogate unit.0) (prepend (encode_utf8 (surrogate_pair h unit.0)) (content plain (t ++ closing))) s unit.2 in
    let rest = after (encode_utf8 (surrogate_pair h unit.0)) s t plains low.1 in (
      ap (λ z. closes in_string (z ∷ y ∷ a ∷ b ∷ c ∷ d ∷ t)) slash ∙ hex_closes a b c d t (unit_hex a b c d unit.0 unit.1) ∙ rest.0,
      λ r. content_pair h x y a b c d (t ++ r) ∙ rw (pair.0, unit.1, low.0) (rest.1 r),
    )

pub decided : (within : Within) (t : List ℕ) → Reads within t
decided plain [] s e = never _ s none_plain e
decided plain (x ∷ t) s e =
    by_byte x t s (x == 34) (x == 92) (nat_lt x 32) refl refl refl (decided plain t) (decided after_backslash t)
    (sym (content_byte x (t ++ closing)) ∙ e)
decided after_backslash [] s e = never _ s none_escape e
decided after_backslash (x ∷ t) s e =
    by_letter x t s (x == 117) refl (decided plain t) (decided after_u t) (sym (content_escape x (t ++ closing)) ∙ e)
decided after_u [] s e = never _ s none_unit e
decided after_u (a ∷ []) s e = no_hex (unit_found a 91 93 125 [] s e).second
decided after_u (a ∷ b ∷ []) s e = no_hex (unit_found a b 91 93 (125 ∷ []) s e).third
decided after_u (a ∷ b ∷ c ∷ []) s e = no_hex (unit_found a b c 91 (93 ∷ 125 ∷ []) s e).last
decided after_u (a ∷ b ∷ c ∷ d ∷ t) s e = four a b c d t s (decided plain t) (λ h. decided (after_high h) t) e
decided (after_high h) [] s e = never _ s (none_pair h) e
decided (after_high h) (x ∷ []) s e = never _ s (none_pair_one h x) e
decided (after_high h) (x ∷ y ∷ []) s e = never _ s (none_pair_two h x y) e
decided (after_high h) (x ∷ y ∷ a ∷ []) s e = no_hex (pair_found h x y a 91 93 125 [] s e).second
decided (after_high h) (x ∷ y ∷ a ∷ b ∷ []) s e = no_hex (pair_found h x y a b 91 93 (125 ∷ []) s e).third
decided (after_high h) (x ∷ y ∷ a ∷ b ∷ c ∷ []) s e = no_hex (pair_found h x y a b c 91 (93 ∷ 125 ∷ []) s e).last
decided (after_high h) (x ∷ y ∷ a ∷ b ∷ c ∷ d ∷ t) s e = six h x y a b c d t s (decided plain t) e
