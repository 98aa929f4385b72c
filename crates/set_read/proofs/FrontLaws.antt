-- The members before the last.
use Rattle.std.proofs.Common.{◌≡◌, ℕ, ◌+◌, ◌-◌, ◌<◌, List, [], ◌∷◌, ◌++◌, length, take, get_or, refl, sym, ap, ap₂, ◌∙◌, arith, Bor, Vec}
use Rattle.std.proofs.lemmas.List.{take_all, take_more}
use Rattle.json.specs.Json as json
use Rattle.json.specs.Json.{Members, no_members, member}
use Rattle.json.specs.Value.{value_view, members_view}
use Rattle.json.specs.declared.value.Value.{Value, Object}
use Rattle.json.proofs.Trees.{view-Object}
use Rattle.set_read.specs.inside.Tokens.{before, with_no_items}

members_before : {A : Type 0} (ms : List (Bor (List ℕ) × Value A)) (m : Bor (List ℕ) × Value A)
    → members_view (ms ++ m ∷ []) ≡ before (members_view ms) (member m.0.now (value_view m.1) no_members)
members_before [] m = refl
members_before (n ∷ ms) m = ap (member n.0.now (value_view n.1)) (members_before ms m)

-- where the last member has this key, and no items
pub no_items_last : {A : Type 0} (key : List ℕ) (v : Vec (Bor (List ℕ) × Value A) A) (m : Bor (List ℕ) × Value A) → 0 < length v.items
    → m ≡ get_or v.items (length v.items - 1) m → m.0.now ≡ key → value_view m.1 ≡ json.array json.no_items
    → value_view (Object v) ≡ with_no_items key (members_view (take (length v.items - 1) v.items))
no_items_last key v m some last named none =
    let ms = take (length v.items - 1) v.items in
    let all : v.items ≡ ms ++ m ∷ [] =
    sym (take_all (length v.items - 1 + 1) v.items (omega arith)) ∙ take_more v.items (length v.items - 1) m (omega arith)
    ∙ ap (λ x. ms ++ x ∷ []) (sym last) in
    view-Object v ∙ ap (λ xs. json.object (members_view xs)) all ∙ ap json.object (members_before ms m)
    ∙ ap₂ (λ k j. json.object (before (members_view ms) (member k j no_members))) named none
