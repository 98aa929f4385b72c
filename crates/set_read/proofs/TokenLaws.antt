-- What tokens say, token by token.
use Rattle.std.proofs.Common.{◌≡◌, ℕ, ◌-◌, ◌<◌, List, ◌∷◌, length, Option, Some, None, option_map, refl, ap, ◌∙◌, arith}
use Rattle.json.specs.Token.{Token}
use Rattle.json.specs.Json as json
use Rattle.json.specs.Json.{parse_map, after_end_array, value}
use Rattle.json.proofs.Grammar.{left, value_is, value-begin_array, items_end, items_more, skip_value-shorter}
use Rattle.serde_json.specs.Data.{Data, number, string, array, unsigned, Items, no_items, item}
use Rattle.serde_json.specs.Read.{of_json, of_items, converted, number_of}
use Rattle.set_read.specs.inside.Tokens.{SaysNumber, AreItems}

-- ---- a value that was converted

abbrev pick : {A : Type 0} → A → Option A → A
pick a None = a
pick a (Some b) = b

found : {B : Type 0} (r s : List Token) (x : Option B) (b : B) → option_map {U = B × List Token} (λ y. (y, r)) x ≡ Some (b, s)
    → (r ≡ s) × (x ≡ Some b)
found r s None b e = absurd cc
found r s (Some y) b e = let same = ap (pick (y, r)) e in (ap (λ p. p.1) same, ap (λ p. Some p.0) same)

pub converted_some : {A B : Type 0} (f : A → Option B) (o : Option (A × List Token)) (b : B) (r : List Token)
    → converted f o ≡ Some (b, r) → (a : A) × (o ≡ Some (a, r)) × (f a ≡ Some b)
converted_some f None b r e = absurd cc
converted_some f (Some p) b r e = let both = found p.1 r (f p.0) b e in (p.0, ap (λ s. Some (p.0, s)) both.0, both.1)

twice : {A B : Type 0} (g : A → B) (r : List Token) (x : Option A)
    → option_map (λ b. (b, r)) (option_map g x) ≡ parse_map g (option_map (λ a. (a, r)) x)
twice g r None = refl
twice g r (Some a) = refl

with_item : (j : json.Json) (d : Data) → of_json j ≡ Some d → (o : Option (json.Items × List Token))
    → converted of_items (parse_map (json.item j) o) ≡ parse_map (item d) (converted of_items o)
with_item j d e None = refl
with_item j d e (Some p) = rw e (twice (item d) p.1 (of_items p.0))

converted-array : (o : Option (json.Items × List Token))
    → converted of_json (parse_map json.array o) ≡ parse_map array (converted of_items o)
converted-array None = refl
converted-array (Some p) = twice array p.1 (of_items p.0)

-- a value takes tokens
converted-shorter : (depth : ℕ) (ts r : List Token) (d : Data) → converted of_json (value depth ts) ≡ Some (d, r) → length r < length ts
converted-shorter depth ts r d e = skip_value-shorter depth ts r (ap left (converted_some of_json (value depth ts) d r e).1)

-- ---- items

pub no_more_items : (depth : ℕ) (ts r : List Token) → after_end_array ts ≡ Some r → AreItems depth ts no_items r
no_more_items depth ts r e n enough = ap (converted of_items) (items_end (value depth) n ts r enough e)

pub one_item : (depth : ℕ) (ts r rest : List Token) (d : Data) (ds : Items) → after_end_array ts ≡ None
    → converted of_json (value depth ts) ≡ Some (d, r) → AreItems depth r ds rest → AreItems depth ts (item d ds) rest
one_item depth ts r rest d ds going first more n enough =
    let j = converted_some of_json (value depth ts) d r first in
    let less = converted-shorter depth ts r d first in
    ap (converted of_items) (items_more (value depth) n ts r j.0 (omega arith) going j.1)
    ∙ with_item j.0 d j.2 _ ∙ ap (parse_map (item d)) (more (n - 1) (omega arith))

pub array_said : (depth : ℕ) (ts rest : List Token) (ds : Items) → 0 < depth → AreItems (depth - 1) ts ds rest
    → converted of_json (value depth (Token.begin_array ∷ ts)) ≡ Some (array ds, rest)
array_said depth ts rest ds some say =
    ap (converted of_json) (value-begin_array depth ts some) ∙ converted-array (json.items (value (depth - 1)) (length ts) ts)
    ∙ ap (parse_map array) (say (length ts) (omega arith))

number_said : (depth : ℕ) (s : List ℕ) (n : ℕ) (r : List Token) → number_of s ≡ Some (unsigned n)
    → converted of_json (value depth (Token.number s ∷ r)) ≡ Some (number (unsigned n), r)
number_said depth s n r e = ap (converted of_json) (value_is depth (Token.number s ∷ r)) ∙ rw e refl

string_said : (depth : ℕ) (s : List ℕ) (r : List Token) → converted of_json (value depth (Token.string s ∷ r)) ≡ Some (string s, r)
string_said depth s r = ap (converted of_json) (value_is depth (Token.string s ∷ r))

pub number_item : (depth n : ℕ) (ts r rest : List Token) (ds : Items) → SaysNumber ts n r → AreItems depth r ds rest
    → AreItems depth ts (item (number (unsigned n)) ds) rest
number_item depth n ts r rest ds (s, first, is) more =
    rw first (one_item depth (Token.number s ∷ r) r rest (number (unsigned n)) ds refl (number_said depth s n r is) more)

pub string_item : (depth : ℕ) (s : List ℕ) (ts r rest : List Token) (ds : Items) → ts ≡ Token.string s ∷ r → AreItems depth r ds rest
    → AreItems depth ts (item (string s) ds) rest
string_item depth s ts r rest ds first more = rw first (one_item depth (Token.string s ∷ r) r rest (string s) ds refl (string_said depth s r) more)
