-- The compact text of a value reads as that value, where its numbers are whole and its members rise.
use Rattle.std.proofs.Common.{◌≡◌, ℕ, suc, max, ◌^◌, ◌<◌, ◌≤◌, List, [], ◌∷◌, ◌++◌, codes, decimal, Bool, true, false, ◌&&◌, Some, option_map, option_and_then, refl, ap, ap₂, sym, ◌∙◌, append-nil}
use Rattle.std.specs.Prelude.{⊤}
use Rattle.std.specs.Str.{IsUtf8}
use Rattle.std.specs.Ordering.{nat_cmp, match_ordering}
use Rattle.std.specs.Cmp.Lexicographic.{slice_cmp}
use Rattle.std.specs.declared.cmp.Ordering.{Ordering}
use Rattle.std.specs.declared.cmp.Ordering.TheVariants.{Less, Equal, Greater}
use Rattle.std.proofs.lemmas.Bool.{and_parts}
use Rattle.std.proofs.lemmas.Str.{IsUtf8-append, IsUtf8-from_ascii}
use Rattle.std.proofs.lemmas.Fmt.{IsAscii-decimal}
use Rattle.json.proofs.Printed.Utf8.{IsUtf8-are_ascii, IsUtf8-quoted, IsUtf8-boolean}
use Rattle.json.specs.Print.{quoted}
use Rattle.json.specs.Json as json
use Rattle.json.specs.Lex.{tokens}
use Rattle.json.specs.Tree as tree
use Rattle.json.proofs.Printed.Tokens.{tokens-print}
use Rattle.json.proofs.Printed.Trees.{ArePrintable-json_tokens, value-json_tokens}
use Rattle.json.proofs.Printed.Decimals.{IsNumber-decimal}
use Rattle.serde_json.specs.Data.{unsigned, negative, float, Data, null, boolean, number, string, array, object, Items, no_items, item, Members, no_members, member, put, depth, items_depth, members_depth}
use Rattle.serde_json.specs.Read.{read, of_json, of_items, of_members, max_depth}
use Rattle.serde_json.specs.Written.{outline, items_outline, members_outline, compact_text, items_text, members_text, comma_if}
use Rattle.serde_json.proofs.Numbers.{number_of-decimal}
use Rattle.serde_json.proofs.Texts.{print-outline}

-- ---- values that have text, whole numbers of 64 bits alone, and members in rising order

abbrev is_above : Ordering → Bool
is_above Greater = true
is_above _ = false

-- a key is above all of these
abbrev pub after_all : List ℕ → Members → Bool
after_all k no_members = true
after_all k (member l d ms) = is_above (slice_cmp nat_cmp k l) && after_all k ms

abbrev pub joined : Members → Members → Members
joined no_members ms = ms
joined (member k d fs) ms = member k d (joined fs ms)

abbrev pub rises_from : Members → Members → Bool
rises_from found no_members = true
rises_from found (member k d ms) = after_all k found && rises_from (joined found (member k d no_members)) ms

abbrev mutual
  pub IsStored : Data → Type 0
  IsStored null = ⊤
  IsStored (boolean b) = ⊤
  IsStored (number (unsigned n)) = n < 2 ^ 64
  IsStored (number (negative z)) = ⊥
  IsStored (number (float x)) = ⊥
  IsStored (string s) = IsUtf8 s
  IsStored (array ds) = AreStored ds
  IsStored (object ms) = (rises_from no_members ms ≡ true) × MembersStored ms

  pub AreStored : Items → Type 0
  AreStored no_items = ⊤
  AreStored (item d ds) = IsStored d × AreStored ds

  pub MembersStored : Members → Type 0
  MembersStored no_members = ⊤
  MembersStored (member k d ms) = IsUtf8 k × IsStored d × MembersStored ms

put-by : (o : Ordering) (a b c : Members) → is_above o ≡ true → match_ordering o a b c ≡ c
put-by Less a b c h = cc
put-by Equal a b c h = cc
put-by Greater a b c h = refl

put-after : (k : List ℕ) (d : Data) (found : Members) → after_all k found ≡ true → put k d found ≡ joined found (member k d no_members)
put-after k d no_members h = refl
put-after k d (member l e ms) h =
    let parts = and_parts (is_above (slice_cmp nat_cmp k l)) (after_all k ms) h in
    put-by (slice_cmp nat_cmp k l) _ _ _ parts.0 ∙ ap (member l e) (put-after k d ms parts.1)

joined-one : (found : Members) (k : List ℕ) (d : Data) (ms : Members) → joined (joined found (member k d no_members)) ms ≡ joined found (member k d ms)
joined-one no_members k d ms = refl
joined-one (member l e fs) k d ms = ap (member l e) (joined-one fs k d ms)

joined-end : (found : Members) → found ≡ joined found no_members
joined-end no_members = refl
joined-end (member l e fs) = ap (member l e) (joined-end fs)

mutual
  of_json-outline : (d : Data) → IsStored d → of_json (outline d) ≡ Some d
  of_json-outline null h = refl
  of_json-outline (boolean b) h = refl
  of_json-outline (number (unsigned n)) h = ap (option_map number) (number_of-decimal n h)
  of_json-outline (number (negative z)) h = absurd h
  of_json-outline (number (float x)) h = absurd h
  of_json-outline (string s) h = refl
  of_json-outline (array ds) h = ap (option_map array) (of_items-outline ds h)
  of_json-outline (object ms) h = ap (option_map object) (of_members-outline ms no_members h.0 h.1)

  of_items-outline : (ds : Items) → AreStored ds → of_items (items_outline ds) ≡ Some ds
  of_items-outline no_items h = refl
  of_items-outline (item d ds) h = rw (of_json-outline d h.0) (ap (option_map (item d)) (of_items-outline ds h.1))

  of_members-outline : (ms found : Members) → rises_from found ms ≡ true → MembersStored ms → of_members (members_outline ms) found ≡ Some (joined found ms)
  of_members-outline no_members found rises h = ap Some (joined-end found)
  of_members-outline (member k d ms) found rises h =
      let parts = and_parts (after_all k found) _ rises in
      rw (of_json-outline d h.1, put-after k d found parts.0)
      (of_members-outline ms (joined found (member k d no_members)) parts.1 h.2 ∙ ap Some (joined-one found k d ms))

-- ---- each number's text is a number, and the outline nests as deep

mutual
  HasNumbers-outline : (d : Data) → IsStored d → tree.HasNumbers (outline d)
  HasNumbers-outline null h = tt
  HasNumbers-outline (boolean b) h = tt
  HasNumbers-outline (number (unsigned n)) h = IsNumber-decimal n h
  HasNumbers-outline (number (negative z)) h = absurd h
  HasNumbers-outline (number (float x)) h = absurd h
  HasNumbers-outline (string s) h = tt
  HasNumbers-outline (array ds) h = ItemsHaveNumbers-outline ds h
  HasNumbers-outline (object ms) h = MembersHaveNumbers-outline ms h.1

  ItemsHaveNumbers-outline : (ds : Items) → AreStored ds → tree.ItemsHaveNumbers (items_outline ds)
  ItemsHaveNumbers-outline no_items h = tt
  ItemsHaveNumbers-outline (item d ds) h = (HasNumbers-outline d h.0, ItemsHaveNumbers-outline ds h.1)

  MembersHaveNumbers-outline : (ms : Members) → MembersStored ms → tree.MembersHaveNumbers (members_outline ms)
  MembersHaveNumbers-outline no_members h = tt
  MembersHaveNumbers-outline (member k d ms) h = (HasNumbers-outline d h.1, MembersHaveNumbers-outline ms h.2)

mutual
  depth-outline : (d : Data) → tree.depth (outline d) ≡ depth d
  depth-outline null = refl
  depth-outline (boolean b) = refl
  depth-outline (number n) = refl
  depth-outline (string s) = refl
  depth-outline (array ds) = ap suc (items_depth-outline ds)
  depth-outline (object ms) = ap suc (members_depth-outline ms)

  items_depth-outline : (ds : Items) → tree.items_depth (items_outline ds) ≡ items_depth ds
  items_depth-outline no_items = refl
  items_depth-outline (item d ds) = ap₂ max (depth-outline d) (items_depth-outline ds)

  members_depth-outline : (ms : Members) → tree.members_depth (members_outline ms) ≡ members_depth ms
  members_depth-outline no_members = refl
  members_depth-outline (member k d ms) = ap₂ max (depth-outline d) (members_depth-outline ms)

tokens-compact_text : (d : Data) → IsStored d → tokens (compact_text d) ≡ tree.json_tokens (outline d)
tokens-compact_text d h = ap tokens (sym (print-outline d)) ∙ tokens-print _ (ArePrintable-json_tokens _ (HasNumbers-outline d h))

pub read-compact_text : (d : Data) → IsStored d → depth d ≤ max_depth → read (compact_text d) ≡ Some d
read-compact_text d h shallow =
    ap (λ ts. option_and_then of_json (option_and_then (λ p. json.if_last p.0 p.1) (json.value max_depth ts))) (tokens-compact_text d h ∙ sym (append-nil _))
    ∙ ap (λ r. option_and_then of_json (option_and_then (λ p. json.if_last p.0 p.1) r)) (value-json_tokens (outline d) max_depth [] (rw (depth-outline d) shallow))
    ∙ of_json-outline d h

-- ---- the text is UTF-8

comma_if-utf8 : (b : Bool) → IsUtf8 (comma_if b)
comma_if-utf8 true = IsUtf8-are_ascii (44 ∷ []) refl
comma_if-utf8 false = IsUtf8-are_ascii [] refl

mutual
  pub IsUtf8-compact_text : (d : Data) → IsStored d → IsUtf8 (compact_text d)
  IsUtf8-compact_text null h = IsUtf8-are_ascii (codes "null") refl
  IsUtf8-compact_text (boolean b) h = IsUtf8-boolean b
  IsUtf8-compact_text (number (unsigned n)) h = IsUtf8-from_ascii (decimal n) (IsAscii-decimal n h)
  IsUtf8-compact_text (number (negative z)) h = absurd h
  IsUtf8-compact_text (number (float x)) h = absurd h
  IsUtf8-compact_text (string s) h = IsUtf8-quoted s h
  IsUtf8-compact_text (array ds) h = IsUtf8-append (91 ∷ []) (items_text false ds) (IsUtf8-are_ascii (91 ∷ []) refl) (IsUtf8-items_text false ds h)
  IsUtf8-compact_text (object ms) h = IsUtf8-append (123 ∷ []) (members_text false ms) (IsUtf8-are_ascii (123 ∷ []) refl) (IsUtf8-members_text false ms h.1)

  IsUtf8-items_text : (later : Bool) (ds : Items) → AreStored ds → IsUtf8 (items_text later ds)
  IsUtf8-items_text later no_items h = IsUtf8-are_ascii (93 ∷ []) refl
  IsUtf8-items_text later (item d ds) h =
      IsUtf8-append (comma_if later) (compact_text d ++ items_text true ds) (comma_if-utf8 later)
      (IsUtf8-append (compact_text d) (items_text true ds) (IsUtf8-compact_text d h.0) (IsUtf8-items_text true ds h.1))

  IsUtf8-members_text : (later : Bool) (ms : Members) → MembersStored ms → IsUtf8 (members_text later ms)
  IsUtf8-members_text later no_members h = IsUtf8-are_ascii (125 ∷ []) refl
  IsUtf8-members_text later (member k d ms) h =
      let value = IsUtf8-append (compact_text d) (members_text true ms) (IsUtf8-compact_text d h.1) (IsUtf8-members_text true ms h.2) in
      let after_colon = IsUtf8-append (58 ∷ []) (compact_text d ++ members_text true ms) (IsUtf8-are_ascii (58 ∷ []) refl) value in
      IsUtf8-append (comma_if later) (quoted k ++ 58 ∷ (compact_text d ++ members_text true ms)) (comma_if-utf8 later)
      (IsUtf8-append (quoted k) (58 ∷ (compact_text d ++ members_text true ms)) (IsUtf8-quoted k h.0) after_colon)
