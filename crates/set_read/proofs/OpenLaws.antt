-- A text that reads as an object whose last member has no items, when they are closed behind it, leaves the tokens of its items to be read.
use Rattle.std.proofs.Common.{◌≡◌, ℕ, ◌-◌, ◌<◌, ◌≤◌, List, [], ◌∷◌, ◌++◌, Option, Some, None, option_and_then, refl, sym, ap, ◌∙◌, arith, append_assoc, append-nil}
use Rattle.json.specs.Token.{Token}
use Rattle.json.specs.Json as json
use Rattle.json.specs.Json.{Json, Items, no_items, Members, no_members, member, parse_map, value, if_last}
use Rattle.json.specs.Lex.{tokens}
use Rattle.json.specs.Tree.{json_tokens, items_tokens, members_tokens, depth, members_depth}
use Rattle.json.proofs.Found.{one_reading, Some_inj}
use Rattle.json.proofs.Grammar.{value-begin_array, read_key_is}
use Rattle.json.proofs.Nesting.{value-depth}
use Rattle.json.proofs.Printed.Trees.{value-json_tokens}
use Rattle.json.proofs.Unique.Spelling.{value-json_tokens_back}
use Rattle.serde_json.specs.Data.{Data}
use Rattle.serde_json.specs.Read.{of_json, read}
use Rattle.set_read.specs.inside.Texts.{closing, OpensItems}
use Rattle.set_read.specs.inside.Tokens.{before, with_last, with_no_items, LeavesItems}
use Rattle.set_read.proofs.PlaceLaws.{opens}

-- ---- members, and then the items of the last

module _ (key : List ℕ) where
  abbrev last_member : Items → Members
  last_member js = member key (json.array js) no_members

  -- the tokens of the members and of the last one's key
  abbrev before_tokens : Members → List Token
  before_tokens no_members = Token.key key ∷ []
  before_tokens (member k j ms) = Token.key k ∷ (json_tokens j ++ before_tokens ms)

  members_spelled : (ms : Members) (js : Items) (after : List Token)
      → members_tokens (before ms (last_member js)) ++ after
      ≡ before_tokens ms ++ Token.begin_array ∷ (items_tokens js ++ Token.end_object ∷ after)
  members_spelled no_members js after =
      ap (λ ts. Token.key key ∷ Token.begin_array ∷ ts) (append_assoc (items_tokens js) (Token.end_object ∷ []) after)
  members_spelled (member k j ms) js after =
      ap (λ ts. Token.key k ∷ ts)
      (append_assoc (json_tokens j) (members_tokens (before ms (last_member js))) after
      ∙ ap (λ ts. json_tokens j ++ ts) (members_spelled ms js after)
      ∙ sym (append_assoc (json_tokens j) (before_tokens ms) (Token.begin_array ∷ (items_tokens js ++ Token.end_object ∷ after))))

  -- with the items it nests no deeper than they do, or than without them
  nests : (ms : Members) (js : Items) (n : ℕ) → members_depth (before ms (last_member no_items)) ≤ n → depth (json.array js) ≤ n
      → members_depth (before ms (last_member js)) ≤ n
  nests no_members js n h deep = omega arith
  nests (member k j ms) js n h deep = omega (arith, nests ms js n (omega arith) deep)

  leaves : (n : ℕ) (text : List ℕ) (ms : Members) → 1 < n → tokens (text ++ closing) ≡ json_tokens (with_no_items key ms)
      → depth (with_no_items key ms) ≤ n → (items : List ℕ) → LeavesItems key n (tokens (text ++ 91 ∷ items)) ms (tokens items)
  leaves n text ms room e shallow behind js rest after items closed =
      let now = tokens behind in
      let front = Token.begin_object ∷ before_tokens ms in
      let good =
      e ∙ ap (λ ts. Token.begin_object ∷ ts)
      (sym (append-nil (members_tokens (before ms (last_member no_items)))) ∙ members_spelled ms no_items []) in
      let array : value (n - 1) (Token.begin_array ∷ now) ≡ Some (json.array js, rest) =
      value-begin_array (n - 1) now (omega arith) ∙ ap (parse_map json.array) items in
      let spelled = value-json_tokens_back (n - 1) (Token.begin_array ∷ now) rest (json.array js) array in
      let deep = value-depth (n - 1) (Token.begin_array ∷ now) rest (json.array js) array in
      let all : tokens (text ++ 91 ∷ behind) ≡ json_tokens (with_last key ms js) ++ after =
      opens text front good behind
      ∙ ap (λ ts. front ++ ts) (spelled ∙ ap (λ ts. json_tokens (json.array js) ++ ts) (read_key_is rest None after closed))
      ∙ ap (λ ts. Token.begin_object ∷ ts) (sym (members_spelled ms js after)) in
      let fits : depth (with_last key ms js) ≤ n = omega (arith, nests ms js (n - 1) (omega arith) deep) in
      ap (value n) all ∙ value-json_tokens (with_last key ms js) n after fits

-- ---- what both readers make of the text

read_whole : (v : Data) (o : Option (Json × List Token)) → option_and_then of_json (option_and_then (λ p. if_last p.0 p.1) o) ≡ Some v
    → (j : Json) × (o ≡ Some (j, [])) × (of_json j ≡ Some v)
read_whole v None e = absurd cc
read_whole v (Some (j, [])) e = (j, refl, e)
read_whole v (Some (j, t ∷ ts)) e = absurd cc

pub opens_items : (key : List ℕ) (n : ℕ) (text : List ℕ) (ms : Members) (v : Data) → 1 < n
    → value n (tokens (text ++ closing)) ≡ Some (with_no_items key ms, []) → read (text ++ closing) ≡ Some v → OpensItems key n text v
opens_items key n text ms v room known e =
    let ts = tokens (text ++ closing) in
    let j = with_no_items key ms in
    let spelled : ts ≡ json_tokens j = value-json_tokens_back n ts [] j known ∙ append-nil (json_tokens j) in
    let whole = read_whole v (value 127 ts) e in
    let both = one_reading 127 n ts (whole.0, []) (j, []) whole.1 known in
    let same : whole.0 ≡ j = ap (λ p. p.0) (Some_inj (whole.0, []) (j, []) both) in
    (ms, leaves key n text ms room spelled (value-depth n ts [] j known), ap of_json (sym same) ∙ whole.2)
