-- An object whose last member's items were read apart is the value that these make.
use Rattle.std.proofs.Common.{◌≡◌, ℕ, ◌-◌, List, [], length, Option, Some, None, Ok, IsUtf8, option_map, option_and_then, refl, ap, ◌∙◌, arith}
use Rattle.json.specs.Json as json
use Rattle.json.specs.Lex.{tokens}
use Rattle.json.specs.Token.{Token}
use Rattle.rt_task.specs.declared.draft.Draft.{Draft}
use Rattle.serde_json.specs.Data.{Data, array, object, Items, no_items, Members, no_members, put}
use Rattle.serde_json.specs.Read.{of_json, of_items, of_members, converted}
use Rattle.set_read.specs.Sets.{draft_in_bytes}
use Rattle.set_read.specs.inside.Tokens.{before, with_last, with_no_items, AreItems, Completes, LeavesItems}
use Rattle.set_read.proofs.ReadLaws.{read_draft-read}
use Rattle.set_read.proofs.TokenLaws.{converted_some}

then_members : (k : List ℕ) (a b all : json.Members) (found : Members) (o : Option Data) → ((d : Data)
    → of_members all (put k d found) ≡ option_and_then (of_members b) (of_members a (put k d found)))
    → option_and_then (λ d. of_members all (put k d found)) o ≡ option_and_then (of_members b) (option_and_then (λ d. of_members a (put k d found)) o)
then_members k a b all found None more = refl
then_members k a b all found (Some d) more = more d

of_members-before : (a b : json.Members) (found : Members)
    → of_members (before a b) found ≡ option_and_then (of_members b) (of_members a found)
of_members-before json.no_members b found = refl
of_members-before (json.member k j a) b found =
    then_members k a b (before a b) found (of_json j) (λ d. of_members-before a b (put k d found))

module _ (key : List ℕ) where
  -- the items are put at their key
  of_json-with_last : (front : json.Members) (js : json.Items) (ds : Items) (ms : Members) → of_members front no_members ≡ Some ms
      → of_items js ≡ Some ds → of_json (with_last key front js) ≡ Some (object (put key (array ds) ms))
  of_json-with_last front js ds ms e f =
      let last = json.member key (json.array js) json.no_members in
      ap (option_map object) (of_members-before front last no_members ∙ ap (option_and_then (of_members last)) e) ∙ rw f refl

  -- the value without the items, and the value with them
  pub with_items : (depth : ℕ) (first : List Token) (front : json.Members) (now rest after : List Token) (value : Data) (ds : Items)
      → LeavesItems key depth first front now → of_json (with_no_items key front) ≡ Some value → AreItems (depth - 1 - 1) now ds rest
      → json.read_key rest ≡ Some (None, after)
      → (ms : Members) × (value ≡ object (put key (array no_items) ms))
      × (converted of_json (json.value depth first) ≡ Some (object (put key (array ds) ms), after))
  with_items depth first front now rest after value ds leaves written said closed =
      let js =
      converted_some of_items (json.items (json.value (depth - 1 - 1)) (length now) now) ds rest (said (length now) (omega arith)) in
      by_front js.0 js.2 (leaves js.0 rest after js.1 closed) (of_members front no_members) refl
    where
      by_front : (js : json.Items) → of_items js ≡ Some ds → json.value depth first ≡ Some (with_last key front js, after)
          → (o : Option Members) → of_members front no_members ≡ o
          → (ms : Members) × (value ≡ object (put key (array no_items) ms))
          × (converted of_json (json.value depth first) ≡ Some (object (put key (array ds) ms), after))
      by_front js f all None e =
          let last = json.member key (json.array json.no_items) json.no_members in
          let none : of_json (with_no_items key front) ≡ None =
          ap (option_map object) (of_members-before front last no_members ∙ ap (option_and_then (of_members last)) e) in
          absurd cc
      by_front js f all (Some ms) e =
          let same = of_json-with_last front json.no_items no_items ms e refl in (
            ms,
            cc,
            ap (converted of_json) all ∙ ap (option_map (λ d. (d, after))) (of_json-with_last front js ds ms e f),
          )

read_whole : (v : Data) (o : Option (json.Json × List Token)) → converted of_json o ≡ Some (v, [])
    → option_and_then of_json (option_and_then (λ p. json.if_last p.0 p.1) o) ≡ Some v
read_whole v o e =
    let j = converted_some of_json o v [] e in
    ap (λ o. option_and_then of_json (option_and_then (λ p. json.if_last p.0 p.1) o)) j.1 ∙ j.2

pub quick-read : (key bytes : List ℕ) (front : json.Members) (now : List Token) (value : Data) (d : Draft) → IsUtf8 bytes
    → LeavesItems key 127 (tokens bytes) front now → of_json (with_no_items key front) ≡ Some value → Completes key value now d
    → draft_in_bytes bytes ≡ Ok d
quick-read key bytes front now value d utf8 leaves written (ds, rest, said, closed, complete) =
    let (ms, is, whole) = with_items key 127 (tokens bytes) front now rest [] value ds leaves written said closed in
    read_draft-read bytes (object (put key (array ds) ms)) utf8 (read_whole _ (json.value 127 (tokens bytes)) whole) ∙ complete ms is
