-- A document whose array has its items a line each is read as that document.
use Rattle.std.proofs.Common.{◌≡◌, ℕ, ◌≤◌, ◌<◌, Bool, true, false, List, [], ◌∷◌, ◌++◌, fold, map, Some, option_and_then, refl, sym, ap, ◌∙◌, append_assoc, append-nil, arith, subst, inr}
use Rattle.std.specs.Prelude.{All, codes, max, ⊤}
use Rattle.json.specs.Json as json
use Rattle.json.specs.Lex.{tokens}
use Rattle.json.specs.Print.{ArePrintable, ends, escape_byte, print, print_from, separator, token_text}
use Rattle.json.specs.Spaced.{AreGaps, IsGap, print_spaced}
use Rattle.json.specs.Token.{Token, begin_object, end_object, begin_array, end_array, key}
use Rattle.json.specs.Token as token
use Rattle.json.specs.Tree.{json_tokens, items_tokens, members_tokens}
use Rattle.json.specs.Tree as tree
use Rattle.json.proofs.Printed.Tokens.{tokens-print_spaced}
use Rattle.json.proofs.Printed.Trees.{ArePrintable-json_tokens, value-json_tokens}
use Rattle.serde_json.specs.Data.{Data, array, object, string, Items, no_items, item, Members, no_members, member, depth, items_depth, members_depth}
use Rattle.serde_json.specs.Read.{max_depth, of_json, read}
use Rattle.serde_json.specs.Written.{compact_text, items_outline, members_outline, outline}
use Rattle.serde_json.proofs.Texts.{print-outline}
use Rattle.event_texts.specs.EventText.{event_lines}
use Rattle.event_laws.specs.AsRead.{IsWhole, ItemsAreWhole, as_read}
use Rattle.event_laws.specs.EventValues.{Field, items_of, members_of, object_of}
use Rattle.event_laws.proofs.Lexing.{tokens-line}
use Rattle.event_laws.proofs.Outlines.{HasNumbers-outline, depth-outline, of_json-outline}

abbrev Spaced : Type 0
Spaced = List (List ℕ × Token)

abbrev close_up : Token → List ℕ × Token
close_up t = ([], t)

abbrev on_line : Token → List ℕ × Token
on_line t = (10 ∷ [], t)

abbrev tokens_of : Data → List Token
tokens_of d = json_tokens (outline d)

-- an object whose first token begins a line; and all objects, with the bracket behind them
abbrev spaced_object : Members → Spaced → Spaced
spaced_object ms qs = on_line begin_object ∷ (map close_up (members_tokens (members_outline ms)) ++ qs)

abbrev spaced_items : List Members → Spaced → Spaced
spaced_items [] qs = on_line end_array ∷ qs
spaced_items (ms ∷ mss) qs = spaced_object ms (spaced_items mss qs)

abbrev pub objects : List Members → List Data
objects mss = map object mss

-- the document of these objects
abbrev pub document : List Members → Data
document mss =
    object_of ((codes "displayTimeUnit", string (codes "ms")) ∷ (codes "traceEvents", array (items_of (objects mss))) ∷ [])

-- ---- their text

close-print : (c : Bool) (ts : List Token) (qs : Spaced) → print_spaced c (map close_up ts ++ qs) ≡ print_from c ts ++ print_spaced (fold (λ _ t. ends t) c ts) qs
unfolding print_spaced print_from
close-print c [] qs = refl
close-print c (t ∷ ts) qs =
    ap (λ l. separator c t ++ (token_text t ++ l)) (close-print (ends t) ts qs)
    ∙ ap (λ l. separator c t ++ l) (sym (append_assoc (token_text t) _ _)) ∙ sym (append_assoc (separator c t) _ _)

fold-append : (c : Bool) (ts us : List Token) → fold (λ _ t. ends t) c (ts ++ us) ≡ fold (λ _ t. ends t) (fold (λ _ t. ends t) c ts) us
fold-append c [] us = refl
fold-append c (t ∷ ts) us = fold-append (ends t) ts us

members-end : (c : Bool) (ms : Members) → fold (λ _ t. ends t) c (members_tokens (members_outline ms)) ≡ true
members-end c no_members = refl
members-end c (member k d ms) = fold-append false (tokens_of d) (members_tokens (members_outline ms)) ∙ members-end (fold (λ _ t. ends t) false (tokens_of d)) ms

object-text : (ms : Members) → 123 ∷ print_from false (members_tokens (members_outline ms)) ≡ compact_text (object ms)
unfolding print_from
object-text ms = print-outline (object ms)

object-print : (c : Bool) (ms : Members) (qs : Spaced) → print_spaced c (spaced_object ms qs) ≡ separator c begin_object ++ (10 ∷ (compact_text (object ms) ++ print_spaced true qs))
unfolding print_spaced
object-print c ms qs =
    ap (λ l. separator c begin_object ++ (10 ∷ 123 ∷ l)) (close-print false (members_tokens (members_outline ms)) qs)
    ∙ ap (λ b. separator c begin_object ++ (10 ∷ 123 ∷ (print_from false (members_tokens (members_outline ms)) ++ print_spaced b qs))) (members-end false ms)
    ∙ ap (λ l. separator c begin_object ++ (10 ∷ (l ++ print_spaced true qs))) (object-text ms)

-- behind an object stand the others
items-print : (ms : Members) (mss : List Members) (qs : Spaced)
    → event_lines (map compact_text (objects (ms ∷ mss))) ++ (93 ∷ print_spaced true qs) ≡ compact_text (object ms) ++ print_spaced true (spaced_items mss qs)
unfolding print_spaced
items-print ms [] qs = append_assoc (compact_text (object ms)) (10 ∷ []) (93 ∷ print_spaced true qs)
items-print ms (next ∷ mss) qs =
    append_assoc (compact_text (object ms)) (44 ∷ 10 ∷ event_lines (map compact_text (objects (next ∷ mss)))) (93 ∷ print_spaced true qs)
    ∙ ap (λ l. compact_text (object ms) ++ (44 ∷ 10 ∷ l)) (items-print next mss qs)
    ∙ ap (λ l. compact_text (object ms) ++ l) (sym (object-print true next (spaced_items mss qs)))

all-print : (mss : List Members) (qs : Spaced) → 10 ∷ (event_lines (map compact_text (objects mss)) ++ (93 ∷ print_spaced true qs)) ≡ print_spaced false (spaced_items mss qs)
unfolding print_spaced
all-print [] qs = refl
all-print (ms ∷ mss) qs = ap (λ l. 10 ∷ l) (items-print ms mss qs) ∙ sym (object-print false ms (spaced_items mss qs))

-- ---- the whole document

abbrev spaced_document : List Members → Spaced
spaced_document mss =
    close_up begin_object ∷ close_up (key (codes "displayTimeUnit")) ∷ close_up (token.string (codes "ms")) ∷ close_up (key (codes "traceEvents"))
    ∷ close_up begin_array ∷ spaced_items mss (close_up end_object ∷ [])

abbrev pub document_text : List (List ℕ) → List ℕ
document_text events = codes "{\"displayTimeUnit\":\"ms\",\"traceEvents\":[\n" ++ (event_lines events ++ codes "]}\n")

text-printed : (mss : List Members) → document_text (map compact_text (objects mss)) ≡ print_spaced false (spaced_document mss) ++ 10 ∷ []
unfolding print_spaced escape_byte
text-printed mss = ap (λ l. codes "{\"displayTimeUnit\":\"ms\",\"traceEvents\":[" ++ l) tail
  where
    tail : 10 ∷ (event_lines (map compact_text (objects mss)) ++ (93 ∷ 125 ∷ 10 ∷ [])) ≡ print_spaced false (spaced_items mss (close_up end_object ∷ [])) ++ 10 ∷ []
    tail =
        ap (λ l. 10 ∷ l) (sym (append_assoc (event_lines (map compact_text (objects mss))) (93 ∷ 125 ∷ []) (10 ∷ [])))
        ∙ ap (λ l. l ++ 10 ∷ []) (all-print mss (close_up end_object ∷ []))

-- ---- and its tokens

closed-tokens : (ts : List Token) (qs : Spaced) → map (λ p. p.1) (map close_up ts ++ qs) ≡ ts ++ map (λ p. p.1) qs
closed-tokens [] qs = refl
closed-tokens (t ∷ ts) qs = ap (λ l. t ∷ l) (closed-tokens ts qs)

items-tokens : (mss : List Members) (qs : Spaced) → map (λ p. p.1) (spaced_items mss qs) ≡ items_tokens (items_outline (items_of (objects mss))) ++ map (λ p. p.1) qs
items-tokens [] qs = refl
items-tokens (ms ∷ mss) qs =
    let own = members_tokens (members_outline ms) in
    ap (λ l. begin_object ∷ l)
    (closed-tokens own (spaced_items mss qs) ∙ ap (λ l. own ++ l) (items-tokens mss qs) ∙ sym (append_assoc own (items_tokens (items_outline (items_of (objects mss)))) _))

document-tokens : (mss : List Members) → map (λ p. p.1) (spaced_document mss) ≡ tokens_of (document mss)
document-tokens mss =
    ap (λ l. begin_object ∷ key (codes "displayTimeUnit") ∷ token.string (codes "ms") ∷ key (codes "traceEvents") ∷ begin_array ∷ l) (items-tokens mss (close_up end_object ∷ []))

closed-gaps : (ts : List Token) (qs : Spaced) → AreGaps qs → AreGaps (map close_up ts ++ qs)
closed-gaps [] qs h = h
closed-gaps (t ∷ ts) qs h = (tt, closed-gaps ts qs h)

items-gaps : (mss : List Members) (qs : Spaced) → AreGaps qs → AreGaps (spaced_items mss qs)
items-gaps [] qs h = ((inr refl, tt), h)
items-gaps (ms ∷ mss) qs h = ((inr refl, tt), closed-gaps (members_tokens (members_outline ms)) (spaced_items mss qs) (items-gaps mss qs h))

document-gaps : (mss : List Members) → AreGaps (spaced_document mss)
document-gaps mss = (tt, (tt, (tt, (tt, (tt, items-gaps mss (close_up end_object ∷ []) (tt, tt))))))

pub document-read : (mss : List Members) → IsWhole (document mss) → depth (document mss) ≤ max_depth
    → read (document_text (map compact_text (objects mss))) ≡ Some (as_read (document mss))
document-read mss whole shallow =
    ap (λ ts. option_and_then of_json (option_and_then (λ p. json.if_last p.0 p.1) (json.value max_depth ts))) (all_tokens ∙ sym (append-nil _))
    ∙ ap (λ r. option_and_then of_json (option_and_then (λ p. json.if_last p.0 p.1) r)) (value-json_tokens (outline doc) max_depth [] (rw (depth-outline doc) shallow))
    ∙ of_json-outline doc whole
  where
    doc : Data
    doc = document mss

    printable : ArePrintable (map (λ p. p.1) (spaced_document mss))
    printable = subst ArePrintable (sym (document-tokens mss)) (ArePrintable-json_tokens (outline doc) (HasNumbers-outline doc whole))

    all_tokens : tokens (document_text (map compact_text (objects mss))) ≡ tokens_of doc
    all_tokens =
        ap tokens (text-printed mss)
        ∙ tokens-line (spaced_document mss) (document-gaps mss) printable
        ∙ tokens-print_spaced (spaced_document mss) (document-gaps mss) printable
        ∙ document-tokens mss
