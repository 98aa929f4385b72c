-- Words come back out of a line, and numbers out of words.
use Rattle.std.proofs.Common.{◌≡◌, ◌≢◌, ℕ, ◌+◌, ◌-◌, ◌*◌, ◌/◌, ◌%◌, ◌<◌, ◌≤◌, ◌^◌, ◌==◌, suc, Bool, true, false, not, ◌&&◌, List, [], ◌∷◌, ◌++◌, take, drop, get_or, All, Option, Some, None, decimal, refl, ap, ◌∙◌, arith, eq-eqb, length, sym}
use Rattle.std.specs.Prelude.{bytes_eq, nat_lt, option_map, if◌then◌else◌}
use Rattle.std.specs.Char.{is_ascii_digit}
use Rattle.std.specs.List.{list_all}
use Rattle.std.proofs.lemmas.Bool.{and_parts}
use Rattle.std.proofs.lemmas.Bool.Decides.{nat_tests}
use Rattle.std.proofs.lemmas.List.{take_all, length-drop}
use Rattle.std.proofs.lemmas.List.Elements.{All-nil, All-cons}
use Rattle.std.proofs.lemmas.List.Folds.{list_all-append}
use Rattle.std.proofs.lemmas.Fmt.{decimal_by_steps}
use Rattle.set_read.specs.Forms.{◌>>=◌}
use Rattle.trace_lines.specs.Words.{Word, join}
use Rattle.trace_read.specs.Reading.{cut, front, longer_first, pieces, cut_length, word_length, after_word, when_64, next_digit, number_after, number_in, when_32, small_in, number_at, small_at, digits_after, number_end}

not-true : (b : Bool) → not b ≡ true → b ≡ false
not-true true h = cc
not-true false h = refl

-- the byte stands nowhere in the word
abbrev pub is_free : ℕ → Word → Bool
is_free c w = list_all (λ x. not (x == c)) w

pub is_free-append : (c : ℕ) (v w : Word) → is_free c v ≡ true → is_free c w ≡ true → is_free c (v ++ w) ≡ true
is_free-append c v w h k = list_all-append (λ x. not (x == c)) v w ∙ rw (h, k) refl

-- a word without the byte is none that begins with it
pub no_word : (c : ℕ) (w cs : Word) → is_free c w ≡ true → bytes_eq w (c ∷ cs) ≡ false
no_word c [] cs h = refl
no_word c (x ∷ xs) cs h = let parts = and_parts (not (x == c)) (is_free c xs) h in rw (not-true (x == c) parts.0) refl

-- ---- words with no space and no line feed

-- each byte is one of ASCII above a space
abbrev pub is_plain_byte : ℕ → Bool
is_plain_byte x = nat_lt 32 x && nat_lt x 128

abbrev pub is_plain : Word → Bool
is_plain w = list_all is_plain_byte w

abbrev pub AllPlain : List Word → Type 0
AllPlain [] = Unit {0}
AllPlain (w ∷ ws) = (is_plain w ≡ true) × AllPlain ws

pub AllPlain-append : (vs ws : List Word) → AllPlain vs → AllPlain ws → AllPlain (vs ++ ws)
AllPlain-append [] ws h k = k
AllPlain-append (v ∷ vs) ws h k = (h.0, AllPlain-append vs ws h.1 k)

pub is_plain-append : (v w : Word) → is_plain v ≡ true → is_plain w ≡ true → is_plain (v ++ w) ≡ true
is_plain-append v w h k = list_all-append is_plain_byte v w ∙ rw (h, k) refl

above : (c x : ℕ) → c ≤ 32 → is_plain_byte x ≡ true → not (x == c) ≡ true
above c x low h = grind (arith, nat_tests)

pub plain-free : (c : ℕ) (w : Word) → c ≤ 32 → is_plain w ≡ true → is_free c w ≡ true
plain-free c [] low h = refl
plain-free c (x ∷ xs) low h =
    let parts = and_parts (is_plain_byte x) (is_plain xs) h in
    rw (above c x low parts.0, plain-free c xs low parts.1) refl

-- a plain word is ASCII
ascii_byte : (x : ℕ) → is_plain_byte x ≡ true → x < 128
ascii_byte x h = grind (arith, nat_tests)

pub word-ascii : (w : Word) → is_plain w ≡ true → All (λ (b : ℕ). b < 128) w
word-ascii [] h = All-nil (λ (b : ℕ). b < 128)
word-ascii (x ∷ xs) h =
    let parts = and_parts (is_plain_byte x) (is_plain xs) h in
    All-cons (λ (b : ℕ). b < 128) x xs (ascii_byte x parts.0) (word-ascii xs parts.1)

-- ---- cutting

pub cut-free : (c : ℕ) (w : Word) → is_free c w ≡ true → cut c w ≡ (w, [])
cut-free c [] h = refl
cut-free c (x ∷ xs) h =
    let parts = and_parts (not (x == c)) (is_free c xs) h in
    rw (not-true (x == c) parts.0, cut-free c xs parts.1) refl

pub cut-first : (c : ℕ) (w : Word) (rest : List ℕ) → is_free c w ≡ true → cut c (w ++ c ∷ rest) ≡ (w, rest)
cut-first c [] rest h = rw (eq-eqb c c refl) refl
cut-first c (x ∷ xs) rest h =
    let parts = and_parts (not (x == c)) (is_free c xs) h in
    rw (not-true (x == c) parts.0, cut-first c xs rest parts.1) refl

free-reads : (c : ℕ) (w : List ℕ) → ((i : ℕ) → i < length w → get_or w i 0 ≢ c) → is_free c w ≡ true
free-reads c [] h = refl
free-reads c (x ∷ xs) h =
    let first : (x == c) ≡ false = (let here : x ≢ c = h 0 (omega arith) in grind (arith, nat_tests)) in
    rw (first, free-reads c xs (λ i l. h (suc i) (omega arith))) refl

-- of what stands on one line nothing is cut at a line feed
pub free-one_line : (w : List ℕ) → All (λ (c : ℕ). c ≢ 10) w → is_free 10 w ≡ true
free-one_line w h = free-reads 10 w (λ i below. h i 0 below)

-- a line is what stands before the first line feed
pub cut-feed : (w rest : List ℕ) → All (λ (c : ℕ). c ≢ 10) w → cut 10 (w ++ 10 ∷ rest) ≡ (w, rest)
cut-feed w rest h = cut-first 10 w rest (free-one_line w h)

pub cut-join : (w : Word) (ws : List Word) → is_plain w ≡ true → cut 32 (join 32 (w ∷ ws)) ≡ (w, join 32 ws)
cut-join w [] h = cut-free 32 w (plain-free 32 w (omega arith) h)
cut-join w (v ∷ ws) h = cut-first 32 w (join 32 (v ∷ ws)) (plain-free 32 w (omega arith) h)

pieces_step : (c x : ℕ) (xs : List ℕ) (b : Bool) → longer_first x (pieces c xs) ≡ (x ∷ (cut c xs).0) ∷ pieces c (cut c xs).1
    → (if b then [] ∷ pieces c xs else longer_first x (pieces c xs)) ≡ (if◌then◌else◌ {A = List ℕ × List ℕ} b ([], xs) (x ∷ (cut c xs).0, (cut c xs).1)).0 ∷ pieces c (if◌then◌else◌ {A = List ℕ × List ℕ} b ([], xs) (x ∷ (cut c xs).0, (cut c xs).1)).1
pieces_step c x xs true h = refl
pieces_step c x xs false h = h

longer-cut : (c x : ℕ) (xs : List ℕ) → longer_first x (pieces c xs) ≡ (x ∷ (cut c xs).0) ∷ pieces c (cut c xs).1
longer-cut c x [] = refl
longer-cut c x (y ∷ ys) = ap (longer_first x) (pieces_step c y ys (y == c) (longer-cut c y ys))

-- the first piece is what is cut off first
pub pieces-cons : (c x : ℕ) (xs : List ℕ) → pieces c (x ∷ xs) ≡ (cut c (x ∷ xs)).0 ∷ pieces c (cut c (x ∷ xs)).1
pieces-cons c x xs = pieces_step c x xs (x == c) (longer-cut c x xs)

pub pieces-cut : (c : ℕ) (xs : List ℕ) → 0 < length xs → pieces c xs ≡ (cut c xs).0 ∷ pieces c (cut c xs).1
pieces-cut c [] h = absurd (omega arith)
pieces-cut c (x ∷ xs) h = pieces-cons c x xs

-- ---- words at the beginning of a line

-- what is cut, by where the byte stands
pub cut_within : (c : ℕ) (text : List ℕ) → cut_length c text ≤ length text
cut_within c [] = omega arith
cut_within c (x ∷ xs) = step (x == c) (cut_within c xs)
  where
    step : (b : Bool) → cut_length c xs ≤ length xs → (if b then 0 else suc (cut_length c xs)) ≤ length (x ∷ xs)
    step true h = omega arith
    step false h = omega arith

pub cut_at : (c : ℕ) (text : List ℕ) → cut c text ≡ (take (cut_length c text) text, drop 1 (drop (cut_length c text) text))
cut_at c [] = refl
cut_at c (x ∷ xs) = step (x == c) (cut_at c xs)
  where
    step : (b : Bool) → cut c xs ≡ (take (cut_length c xs) xs, drop 1 (drop (cut_length c xs) xs))
        → (if◌then◌else◌ {A = List ℕ × List ℕ} b ([], xs) (x ∷ (cut c xs).0, (cut c xs).1)) ≡ (take (if b then 0 else suc (cut_length c xs)) (x ∷ xs), drop 1 (drop (if b then 0 else suc (cut_length c xs)) (x ∷ xs)))
    step true h = refl
    step false h = rw h refl

pub cut_parts : (c : ℕ) (text word rest : List ℕ) (n : ℕ) → n ≡ cut_length c text → word ≡ take n text → rest ≡ drop n text → (word, take (length rest - 1) (drop 1 rest)) ≡ cut c text
cut_parts c text word rest n e w r =
    let all : take (length rest - 1) (drop 1 rest) ≡ drop 1 rest = take_all (length rest - 1) (drop 1 rest) (omega (arith, length-drop 1 rest)) in
    rw (all, w, r, e) (sym (cut_at c text))

pub word_within : (text : List ℕ) → word_length text ≤ length text
word_within [] = omega arith
word_within (x ∷ xs) = step (x == 32) (x == 10) (word_within xs)
  where
    step : (a b : Bool) → word_length xs ≤ length xs → (if a then 0 else (if b then 0 else suc (word_length xs))) ≤ length (x ∷ xs)
    step true b h = omega arith
    step false true h = omega arith
    step false false h = omega arith

space-no_feed : (x : ℕ) → x == 32 ≡ true → x == 10 ≡ false
space-no_feed x h = grind (arith, nat_tests)

pub front-cons : (x : ℕ) (xs : List ℕ) → x == 10 ≡ false → front (x ∷ xs) ≡ x ∷ front xs
front-cons x xs e = rw (front, e) refl

front-feed : (x : ℕ) (xs : List ℕ) → x == 10 ≡ true → front (x ∷ xs) ≡ []
front-feed x xs e = rw (front, e) refl

cut-here : (c x : ℕ) (xs : List ℕ) → x == c ≡ true → cut c (x ∷ xs) ≡ ([], xs)
cut-here c x xs e = rw (cut, e) refl

pub cut-later : (c x : ℕ) (xs : List ℕ) → x == c ≡ false → cut c (x ∷ xs) ≡ (x ∷ (cut c xs).0, (cut c xs).1)
cut-later c x xs e = rw (cut, e) refl

ends-at_space : (x : ℕ) (xs : List ℕ) → x == 32 ≡ true → word_length (x ∷ xs) ≡ 0
ends-at_space x xs e = rw (word_length, e) refl

ends-at_feed : (x : ℕ) (xs : List ℕ) → x == 32 ≡ false → x == 10 ≡ true → word_length (x ∷ xs) ≡ 0
ends-at_feed x xs e f = rw (word_length, e, f) refl

ends-later : (x : ℕ) (xs : List ℕ) → x == 32 ≡ false → x == 10 ≡ false → word_length (x ∷ xs) ≡ suc (word_length xs)
ends-later x xs e f = rw (word_length, e, f) refl

after-space : (x : ℕ) (xs : List ℕ) → x == 32 ≡ true → after_word (x ∷ xs) ≡ xs
after-space x xs e = rw (after_word, e) refl

after-other : (x : ℕ) (xs : List ℕ) → x == 32 ≡ false → after_word (x ∷ xs) ≡ x ∷ xs
after-other x xs e = rw (after_word, e) refl

-- the first word of a line
abbrev first_parts : List ℕ → ℕ → List ℕ × List ℕ
first_parts text n = (take n text, front (after_word (drop n text)))

pub cut_front : (text : List ℕ) → cut 32 (front text) ≡ (take (word_length text) text, front (after_word (drop (word_length text) text)))
cut_front [] = refl
cut_front (x ∷ xs) = step (x == 32) refl (x == 10) refl (cut_front xs)
  where
    step : (a : Bool) → x == 32 ≡ a → (b : Bool) → x == 10 ≡ b → cut 32 (front xs) ≡ first_parts xs (word_length xs) → cut 32 (front (x ∷ xs)) ≡ first_parts (x ∷ xs) (word_length (x ∷ xs))
    step true e b f h =
        let after : first_parts (x ∷ xs) 0 ≡ ([], front xs) = ap (λ (t : List ℕ). ([], front t)) (after-space x xs e) in
        ap (cut 32) (front-cons x xs (space-no_feed x e)) ∙ cut-here 32 x (front xs) e ∙ sym after ∙ sym (ap (first_parts (x ∷ xs)) (ends-at_space x xs e))
    step false e true f h =
        let after : first_parts (x ∷ xs) 0 ≡ ([], []) = ap (λ (t : List ℕ). ([], t)) (ap front (after-other x xs e) ∙ front-feed x xs f) in
        ap (cut 32) (front-feed x xs f) ∙ sym after ∙ sym (ap (first_parts (x ∷ xs)) (ends-at_feed x xs e f))
    step false e false f h =
        ap (cut 32) (front-cons x xs f) ∙ cut-later 32 x (front xs) e ∙ ap (λ (p : List ℕ × List ℕ). (x ∷ p.0, p.1)) h ∙ sym (ap (first_parts (x ∷ xs)) (ends-later x xs e f))

pub word_parts : (text word rest left : List ℕ) (n : ℕ) → n ≡ word_length text → word ≡ take n text → rest ≡ drop n text → left ≡ after_word rest → (word, front left) ≡ cut 32 (front text)
word_parts text word rest left n e w r l = rw (l, w, r, e) (sym (cut_front text))

-- words that are not empty
abbrev pub AllFilled : List Word → Type 0
AllFilled [] = Unit {0}
AllFilled (w ∷ ws) = (0 < length w) × AllFilled ws

length-join : (c : ℕ) (w : Word) (ws : List Word) → 0 < length w → 0 < length (join c (w ∷ ws))
length-join c [] ws h = absurd (omega arith)
length-join c (x ∷ xs) [] h = omega arith
length-join c (x ∷ xs) (v ∷ ws) h = omega arith

pub pieces-join : (ws : List Word) → AllPlain ws → AllFilled ws → pieces 32 (join 32 ws) ≡ ws
pieces-join [] p h = refl
pieces-join (w ∷ ws) p h =
    let first = cut-join w ws p.0 in
    pieces-cut 32 (join 32 (w ∷ ws)) (length-join 32 w ws h.0) ∙ rw first (ap (λ vs. w ∷ vs) (pieces-join ws p.1 h.1))

-- ---- numbers

-- the byte is no digit
pub record IsNoDigit (c : ℕ) : Type 0 where
  pub differs : (d : ℕ) → d < 10 → (48 + d == c) ≡ false

pub decimal-free : (c n : ℕ) → IsNoDigit c → n < 2 ^ 64 → is_free c (decimal n) ≡ true
decimal-free c n other fits = decimal_by_steps (λ m ds. is_free c ds ≡ true) one more n fits
  where
    one : (m : ℕ) → m < 10 → is_free c ((48 + m) ∷ []) ≡ true
    one m h = rw (other.differs m h) refl

    more : (m : ℕ) (ds : List ℕ) → 10 ≤ m → is_free c ds ≡ true → is_free c (ds ++ ((48 + m % 10) ∷ [])) ≡ true
    more m ds h k = is_free-append c ds ((48 + m % 10) ∷ []) k (one (m % 10) (omega arith))

pub decimal-plain : (n : ℕ) → n < 2 ^ 64 → is_plain (decimal n) ≡ true
decimal-plain n fits = decimal_by_steps (λ m ds. is_plain ds ≡ true) one more n fits
  where
    one : (m : ℕ) → m < 10 → is_plain ((48 + m) ∷ []) ≡ true
    one m h = grind (arith, nat_tests)

    more : (m : ℕ) (ds : List ℕ) → 10 ≤ m → is_plain ds ≡ true → is_plain (ds ++ ((48 + m % 10) ∷ [])) ≡ true
    more m ds h k = is_plain-append ds ((48 + m % 10) ∷ []) k (one (m % 10) (omega arith))

number_after-bind : (o : Option ℕ) (cs es : Word) → ((k : ℕ) → number_after k (cs ++ es) ≡ (number_after k cs >>= λ m. number_after m es))
    → (o >>= λ k. number_after k (cs ++ es)) ≡ ((o >>= λ k. number_after k cs) >>= λ m. number_after m es)
number_after-bind None cs es h = refl
number_after-bind (Some k) cs es h = h k

number_after-append : (n : ℕ) (cs es : Word) → number_after n (cs ++ es) ≡ (number_after n cs >>= λ m. number_after m es)
number_after-append n [] es = refl
number_after-append n (c ∷ cs) es = number_after-bind (next_digit n c) cs es (λ k. number_after-append k cs es)

when_64-same : (m n : ℕ) → m ≡ n → n < 2 ^ 64 → when_64 m ≡ Some n
when_64-same m n e h = grind (arith, nat_tests)

is_digit : (d : ℕ) → d < 10 → is_ascii_digit (48 + d) ≡ true
is_digit d h = grind (arith, nat_tests)

next_digit-same : (m d n : ℕ) → d < 10 → m * 10 + d ≡ n → n < 2 ^ 64 → next_digit m (48 + d) ≡ Some n
next_digit-same m d n small e fits = rw (is_digit d small) (when_64-same (m * 10 + (48 + d - 48)) n (omega arith) fits)

pub number_in-decimal : (n : ℕ) → n < 2 ^ 64 → number_in (decimal n) ≡ Some n
number_in-decimal n fits = decimal_by_steps (λ m ds. m < 2 ^ 64 → number_in ds ≡ Some m) one more n fits fits
  where
    one : (m : ℕ) → m < 10 → m < 2 ^ 64 → number_in ((48 + m) ∷ []) ≡ Some m
    one m h f = rw (next_digit-same 0 m m h (omega arith) f) refl

    more : (m : ℕ) (ds : List ℕ) → 10 ≤ m → (m / 10 < 2 ^ 64 → number_in ds ≡ Some (m / 10)) → m < 2 ^ 64 → number_in (ds ++ ((48 + m % 10) ∷ [])) ≡ Some m
    more m ds h k f =
        let before : number_in ds ≡ Some (m / 10) = k (omega arith) in
        let last : next_digit (m / 10) (48 + m % 10) ≡ Some m = next_digit-same (m / 10) (m % 10) m (omega arith) (omega arith) f in
        number_after-append 0 ds ((48 + m % 10) ∷ []) ∙ rw (before, last) refl

pub when_32-same : (n : ℕ) → n < 2 ^ 32 → when_32 n ≡ Some n
when_32-same n h = grind (arith, nat_tests)

pub small_in-decimal : (n : ℕ) → n < 2 ^ 32 → small_in (decimal n) ≡ Some n
small_in-decimal n h =
    let number : number_in (decimal n) ≡ Some n = number_in-decimal n (omega arith) in
    rw number (when_32-same n h)

-- ---- a number at the beginning

pub number_at-join : (n : ℕ) (ws : List Word) → n < 2 ^ 64 → number_at (join 32 (decimal n ∷ ws)) ≡ Some (n, join 32 ws)
number_at-join n ws h =
    let first = cut-join (decimal n) ws (decimal-plain n h) in
    let number = number_in-decimal n h in
    rw (first, number) refl

pub small_at-join : (n : ℕ) (ws : List Word) → n < 2 ^ 32 → small_at (join 32 (decimal n ∷ ws)) ≡ Some (n, join 32 ws)
small_at-join n ws h =
    let first = cut-join (decimal n) ws (decimal-plain n (omega arith)) in
    let number = small_in-decimal n h in
    rw (first, number) refl

-- ---- a number at the beginning of a line

feed_is : (c : ℕ) → c == 10 ≡ true → is_ascii_digit c ≡ false
feed_is c h = grind (arith, nat_tests)

space_is : (c : ℕ) → c == 32 ≡ true → is_ascii_digit c ≡ false
space_is c h = grind (arith, nat_tests)

no_digit : (n c : ℕ) → is_ascii_digit c ≡ false → next_digit n c ≡ None
no_digit n c e = rw (next_digit, e) refl

-- after the number so far
abbrev number_from : ℕ → List ℕ → Option (ℕ × List ℕ)
number_from n text = option_map (λ m. (m, (cut 32 text).1)) (number_after n (cut 32 text).0)

number_from_front : (n : ℕ) (text : List ℕ) → number_from n (front text) ≡ (digits_after n text >>= λ p. number_end p.0 p.1)
number_from_front n [] = refl
number_from_front n (c ∷ cs) = step (c == 10) refl (c == 32) refl (is_ascii_digit c) refl (λ m. number_from_front m cs)
  where
    Known : Type 0
    Known = (m : ℕ) → number_from m (front cs) ≡ (digits_after m cs >>= λ p. number_end p.0 p.1)

    more : (o : Option ℕ) → Known → option_map (λ m. (m, (cut 32 (front cs)).1)) (o >>= λ m. number_after m (cut 32 (front cs)).0) ≡ ((o >>= λ m. digits_after m cs) >>= λ p. number_end p.0 p.1)
    more None k = refl
    more (Some m) k = k m

    digits-end : (c : ℕ) (cs : List ℕ) → is_ascii_digit c ≡ false → digits_after n (c ∷ cs) ≡ Some (n, c ∷ cs)
    digits-end c cs e = rw (digits_after, e) refl

    digits-more : (c : ℕ) (cs : List ℕ) → is_ascii_digit c ≡ true → digits_after n (c ∷ cs) ≡ (next_digit n c >>= λ m. digits_after m cs)
    digits-more c cs e = rw (digits_after, e) refl

    step : (a : Bool) → c == 10 ≡ a → (b : Bool) → c == 32 ≡ b → (d : Bool) → is_ascii_digit c ≡ d → Known → number_from n (front (c ∷ cs)) ≡ (digits_after n (c ∷ cs) >>= λ p. number_end p.0 p.1)
    step true e b f d g k = ap (number_from n) (front-feed c cs e) ∙ sym (ap (λ (o : Option (ℕ × List ℕ)). o >>= λ p. number_end p.0 p.1) (digits-end c cs (feed_is c e)) ∙ rw (number_end, e) refl)
    step false e true f d g k =
        ap (number_from n) (front-cons c cs e) ∙ ap (λ (p : List ℕ × List ℕ). option_map (λ m. (m, p.1)) (number_after n p.0)) (cut-here 32 c (front cs) f)
        ∙ sym (ap (λ (o : Option (ℕ × List ℕ)). o >>= λ p. number_end p.0 p.1) (digits-end c cs (space_is c f)) ∙ rw (number_end, e, f) refl)
    step false e false f true g k =
        ap (number_from n) (front-cons c cs e) ∙ ap (λ (p : List ℕ × List ℕ). option_map (λ m. (m, p.1)) (number_after n p.0)) (cut-later 32 c (front cs) f) ∙ more (next_digit n c) k
        ∙ sym (ap (λ (o : Option (ℕ × List ℕ)). o >>= λ p. number_end p.0 p.1) (digits-more c cs g))
    step false e false f false g k =
        ap (number_from n) (front-cons c cs e) ∙ ap (λ (p : List ℕ × List ℕ). option_map (λ m. (m, p.1)) (number_after n p.0)) (cut-later 32 c (front cs) f) ∙ ap (λ (o : Option ℕ). option_map (λ m. (m, (cut 32 (front cs)).1)) (o >>= λ m. number_after m (cut 32 (front cs)).0)) (no_digit n c g)
        ∙ sym (ap (λ (o : Option (ℕ × List ℕ)). o >>= λ p. number_end p.0 p.1) (digits-end c cs g) ∙ rw (number_end, e, f) refl)

pub number_at_front : (text : List ℕ) → number_at (front text) ≡ (digits_after 0 text >>= λ p. number_end p.0 p.1)
number_at_front text = number_from_front 0 text
