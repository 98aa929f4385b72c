-- The text of each event is the compact text of its value.
use Rattle.std.proofs.Common.{◌≡◌, ℕ, ◌+◌, ◌-◌, ◌*◌, ◌^◌, ◌<◌, ◌≤◌, Bool, true, false, List, [], ◌∷◌, ◌++◌, map, refl, sym, ap, ap₂, ◌∙◌, append_assoc, append-nil, arith}
use Rattle.std.specs.Prelude.{codes, decimal, flat_map, ⊤}
use Rattle.std.specs.List.{concat, join_with_byte}
use Rattle.std.specs.Str.Parse.{AllDigits}
use Rattle.std.proofs.lemmas.Fmt.{decimal_is_IsNumeral}
use Rattle.std.proofs.lemmas.Str.Parse.{digit_from_value}
use Rattle.json.specs.Print.{escape, escape_byte}
use Rattle.json.specs.Print as print
use Rattle.json.proofs.Printed.Strings.{escape_byte_plain}
use Rattle.serde_json.specs.Data.{Data, array, object, string, boolean}
use Rattle.serde_json.specs.Written.{compact_text, items_text, members_text}
use Rattle.event_texts.specs.Records.{Piece, begun, count_event, instant_event, microseconds, named, on_thread, process_event, quoted, span_event, strings, thread_event, truth}
use Rattle.event_laws.specs.EventValues.{Field, count_fields, instant_fields, items_of, members_of, object_of, process_fields, span_fields, strings_of, thread_fields}

-- the text of an event
abbrev pub text_of : List Field → Piece
text_of fs = compact_text (object_of fs)

-- ---- texts that need no escapes

abbrev pub IsPlain : Piece → Type 0
IsPlain s = escape s ≡ s

escape-append : (s t : Piece) → escape (s ++ t) ≡ escape s ++ escape t
escape-append [] t = refl
escape-append (x ∷ s) t = ap (λ l. escape_byte x ++ l) (escape-append s t) ∙ sym (append_assoc (escape_byte x) (escape s) (escape t))

pub plain-append : (s t : Piece) → IsPlain s → IsPlain t → IsPlain (s ++ t)
plain-append s t h k = escape-append s t ∙ ap₂ (λ x y. x ++ y) h k

-- each byte stands for itself
abbrev pub ArePlain : Piece → Type 0
ArePlain [] = ⊤
ArePlain (x ∷ s) = (escape_byte x ≡ x ∷ []) × ArePlain s

pub plain-bytes : (s : Piece) → ArePlain s → IsPlain s
plain-bytes [] h = refl
plain-bytes (x ∷ s) h = ap₂ (λ a b. a ++ b) h.0 (plain-bytes s h.1)

plain-digits : (ds : Piece) → AllDigits 10 ds → IsPlain ds
plain-digits [] d = refl
plain-digits (c ∷ cs) d =
    let low = digit_from_value c d.0 in
    ap₂ (λ a b. a ++ b) (escape_byte_plain c (λ e. omega (arith, low)) (λ e. omega (arith, low)) (omega (arith, low))) (plain-digits cs d.1)

pub plain-decimal : (n : ℕ) → n < 2 ^ 64 → IsPlain (decimal n)
plain-decimal n h = plain-digits (decimal n) (decimal_is_IsNumeral n h).0.1

-- ---- pieces one after the other

abbrev pub joined : List Piece → Piece → Piece
joined [] r = r
joined (x ∷ xs) r = x ++ joined xs r

pub concat-joined : (xs : List Piece) (r : Piece) → concat xs ++ r ≡ joined xs r
concat-joined [] r = refl
concat-joined (x ∷ xs) r = append_assoc x (concat xs) r ∙ ap (λ l. x ++ l) (concat-joined xs r)

concat-alone : (xs : List Piece) → concat xs ≡ joined xs []
concat-alone xs = sym (append-nil (concat xs)) ∙ concat-joined xs []

begun-behind : (phase : Piece) (process : ℕ) (r : Piece) → begun phase process ++ r ≡ codes "{\"ph\":\"" ++ (phase ++ (codes "\",\"pid\":" ++ (decimal process ++ r)))
begun-behind phase process r = concat-joined (codes "{\"ph\":\"" ∷ phase ∷ codes "\",\"pid\":" ∷ decimal process ∷ []) r

threaded-behind : (phase : Piece) (process thread : ℕ) (r : Piece)
    → on_thread phase process thread ++ r ≡ codes "{\"ph\":\"" ++ (phase ++ (codes "\",\"pid\":" ++ (decimal process ++ (codes ",\"tid\":" ++ (decimal thread ++ r)))))
threaded-behind phase process thread r =
    concat-joined (begun phase process ∷ codes ",\"tid\":" ∷ decimal thread ∷ []) r ∙ begun-behind phase process (codes ",\"tid\":" ++ (decimal thread ++ r))

named-text : (what name : Piece) → named what name ≡ codes ",\"name\":\"" ++ (what ++ (codes "\",\"args\":{\"name\":\"" ++ (name ++ codes "\"}}")))
named-text what name = concat-alone (codes ",\"name\":\"" ∷ what ∷ codes "\",\"args\":{\"name\":\"" ∷ name ∷ codes "\"}}" ∷ [])

-- ---- each kind of event

pub process-text : (process : ℕ) (name : Piece) → IsPlain name → process_event process name ≡ text_of (process_fields process name)
unfolding escape_byte
process-text process name plain =
    begun-behind (codes "M") process (named (codes "process_name") name)
    ∙ ap (λ l. codes "{\"ph\":\"M\",\"pid\":" ++ (decimal process ++ l)) (named-text (codes "process_name") name)
    ∙ ap (λ e. codes "{\"ph\":\"M\",\"pid\":" ++ (decimal process ++ (codes ",\"name\":\"process_name\",\"args\":{\"name\":\"" ++ (e ++ codes "\"}}")))) (sym plain)
    ∙ simp append_assoc refl

pub thread-text : (process thread : ℕ) (name : Piece) → IsPlain name → thread_event process thread name ≡ text_of (thread_fields process thread name)
unfolding escape_byte
thread-text process thread name plain =
    threaded-behind (codes "M") process thread (named (codes "thread_name") name)
    ∙ ap (λ l. codes "{\"ph\":\"M\",\"pid\":" ++ (decimal process ++ (codes ",\"tid\":" ++ (decimal thread ++ l)))) (named-text (codes "thread_name") name)
    ∙ ap (λ e. codes "{\"ph\":\"M\",\"pid\":" ++ (decimal process ++ (codes ",\"tid\":" ++ (decimal thread ++ (codes ",\"name\":\"thread_name\",\"args\":{\"name\":\"" ++ (e ++ codes "\"}}")))))) (sym plain)
    ∙ simp append_assoc refl

-- the text of arguments, up to the bracket that closes them
abbrev pub AreArguments : Piece → List Field → Type 0
AreArguments text fields = (r : Piece) → text ++ (125 ∷ r) ≡ members_text false (members_of fields) ++ r

pub span-text : (process thread from to : ℕ) (kind name arguments : Piece) (fields : List Field) → IsPlain kind → IsPlain name → AreArguments arguments fields
    → span_event process thread from to kind name arguments ≡ text_of (span_fields process thread from to kind name fields)
unfolding escape_byte
span-text process thread from to kind name arguments fields plain_kind plain_name are =
    threaded-behind (codes "X") process thread (concat rest)
    ∙ ap (λ l. codes "{\"ph\":\"X\",\"pid\":" ++ (decimal process ++ (codes ",\"tid\":" ++ (decimal thread ++ l)))) (concat-alone rest)
    ∙ simp (append_assoc, plain_kind, plain_name, are (125 ∷ [])) refl
  where
    rest : List Piece
    rest =
        codes ",\"ts\":" ∷ microseconds from ∷ codes ",\"dur\":" ∷ microseconds (to - from) ∷ codes ",\"cat\":\"" ∷ kind
        ∷ codes "\",\"name\":\"" ∷ name ∷ codes "\",\"args\":{" ∷ arguments ∷ codes "}}" ∷ []

pub instant-text : (process thread tick : ℕ) (name : Piece) (job : ℕ) → IsPlain name → instant_event process thread tick name job ≡ text_of (instant_fields process thread tick name job)
unfolding escape_byte
instant-text process thread tick name job plain =
    threaded-behind (codes "i") process thread (concat rest)
    ∙ ap (λ l. codes "{\"ph\":\"i\",\"pid\":" ++ (decimal process ++ (codes ",\"tid\":" ++ (decimal thread ++ l)))) (concat-alone rest)
    ∙ simp (append_assoc, plain) refl
  where
    rest : List Piece
    rest =
        codes ",\"ts\":" ∷ microseconds tick ∷ codes ",\"s\":\"t\",\"name\":\"" ∷ name ∷ codes "\",\"args\":{\"job\":" ∷ decimal job
        ∷ codes "}}" ∷ []

pub count-text : (process tick : ℕ) (name : Piece) (left : ℕ) → IsPlain name → count_event process tick name left ≡ text_of (count_fields process tick name left)
unfolding escape_byte
count-text process tick name left plain = simp (append_assoc, append-nil, plain) refl

-- ---- arguments

abbrev pub AllPlain : List Piece → Type 0
AllPlain [] = ⊤
AllPlain (s ∷ ss) = IsPlain s × AllPlain ss

-- names behind others, each with a comma before it
abbrev behind_commas : List Piece → Piece → Piece
behind_commas [] r = r
behind_commas (s ∷ ss) r = 44 ∷ 34 ∷ (s ++ (34 ∷ behind_commas ss r))

names-joined : (s : Piece) (ss : List Piece) (r : Piece) → join_with_byte 44 (map quoted (s ∷ ss)) ++ r ≡ 34 ∷ (s ++ (34 ∷ behind_commas ss r))
names-joined s [] r = ap (λ l. 34 ∷ l) (append_assoc s (34 ∷ []) r)
names-joined s (next ∷ ss) r =
    ap (λ l. 34 ∷ l)
    (append_assoc (s ++ 34 ∷ []) (44 ∷ join_with_byte 44 (map quoted (next ∷ ss))) r
    ∙ append_assoc s (34 ∷ []) (44 ∷ (join_with_byte 44 (map quoted (next ∷ ss)) ++ r))
    ∙ ap (λ l. s ++ (34 ∷ 44 ∷ l)) (names-joined next ss r))

names-later : (ss : List Piece) (r : Piece) → AllPlain ss → items_text true (items_of (map string ss)) ++ r ≡ behind_commas ss (93 ∷ r)
names-later [] r h = refl
names-later (s ∷ ss) r h =
    ap (λ e. 44 ∷ (34 ∷ (e ++ 34 ∷ []) ++ items_text true (items_of (map string ss))) ++ r) h.0
    ∙ ap (λ l. 44 ∷ 34 ∷ l)
    (append_assoc (s ++ 34 ∷ []) (items_text true (items_of (map string ss))) r
    ∙ append_assoc s (34 ∷ []) (items_text true (items_of (map string ss)) ++ r)
    ∙ ap (λ l. s ++ (34 ∷ l)) (names-later ss r h.1))

-- an array of names
pub strings-text : (ss : List Piece) (r : Piece) → AllPlain ss → strings ss ++ r ≡ compact_text (strings_of ss) ++ r
strings-text [] r h = refl
strings-text (s ∷ ss) r h =
    ap (λ l. 91 ∷ l)
    (append_assoc (join_with_byte 44 (map quoted (s ∷ ss))) (93 ∷ []) r ∙ names-joined s ss (93 ∷ r))
    ∙ sym all
  where
    all : compact_text (strings_of (s ∷ ss)) ++ r ≡ 91 ∷ 34 ∷ (s ++ (34 ∷ behind_commas ss (93 ∷ r)))
    all =
        ap (λ e. 91 ∷ (34 ∷ (e ++ 34 ∷ []) ++ items_text true (items_of (map string ss))) ++ r) h.0
        ∙ ap (λ l. 91 ∷ 34 ∷ l)
        (append_assoc (s ++ 34 ∷ []) (items_text true (items_of (map string ss))) r
        ∙ append_assoc s (34 ∷ []) (items_text true (items_of (map string ss)) ++ r)
        ∙ ap (λ l. s ++ (34 ∷ l)) (names-later ss r h.1))

pub truth-text : (b : Bool) → truth b ≡ compact_text (boolean b)
truth-text true = refl
truth-text false = refl
