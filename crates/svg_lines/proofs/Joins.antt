-- Words joined are the first, and the others each behind a separator.
use Rattle.std.proofs.Common.{◌≡◌, ◌∙◌, ℕ, ◌<◌, List, [], ◌∷◌, ◌++◌, length, drop, get_or, sym, ap}
use Rattle.std.proofs.lemmas.List.{append-nil}
use Rattle.std.specs.List.{join_with_byte}
use Rattle.std.specs.Global.{Vec}
use Rattle.std.specs.Prelude.{flat_map}
use Rattle.svg_lines.specs.Words.{word_items}

join-cons : (c : ℕ) (w : List ℕ) (ws : List (List ℕ)) → join_with_byte c (w ∷ ws) ≡ w ++ flat_map (λ v. c ∷ v) ws
join-cons c w [] = sym (append-nil w)
join-cons c w (v ∷ ws) = ap (λ zs. w ++ c ∷ zs) (join-cons c v ws)

pub first-joined : (c : ℕ) (ws : List (Vec ℕ)) (d : Vec ℕ) → 0 < length ws → (get_or ws 0 d).items ++ flat_map (λ w. c ∷ w) (word_items (drop 1 ws)) ≡ join_with_byte c (word_items ws)
first-joined c [] d h = elim h [ ]
first-joined c (w ∷ ws) d h = sym (join-cons c w.items (word_items ws))

-- after the first word
pub first-put : (c : ℕ) (ws : List (Vec ℕ)) (d : Vec ℕ) (new : List ℕ) → d ≡ get_or ws 0 d → 0 < length ws → new ≡ d.items → new ++ flat_map (λ w. c ∷ w) (word_items (drop 1 ws)) ≡ join_with_byte c (word_items ws)
first-put c ws d new is some h =
    ap (λ z. z ++ flat_map (λ w. c ∷ w) (word_items (drop 1 ws))) (h ∙ ap (λ (v : Vec ℕ). v.items) is) ∙ first-joined c ws d some
