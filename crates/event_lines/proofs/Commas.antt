-- Events with a comma behind each: without the last comma they are lines.
use Rattle.std.proofs.Common.{◌≡◌, ◌∙◌, ℕ, ◌+◌, List, [], ◌∷◌, ◌++◌, length, sym, refl, ap, ap₂, arith, append_assoc, append-nil, length-append}
use Rattle.std.specs.Prelude.{Option, None, Some, MatchOption, ◌==◌, if◌then◌else◌}
use Rattle.event_texts.specs.EventText.{event_lines}
use Rattle.event_texts.specs.Records.{Piece}
use Rattle.event_lines.specs.inside.Commas.{with_comma, with_commas}

-- events with a comma and a line feed between them
abbrev pub between : List Piece → List ℕ
between [] = []
between (e ∷ []) = e
between (e ∷ f ∷ es) = e ++ 44 ∷ 10 ∷ between (f ∷ es)

with_commas-cons : (e : Piece) (es : List Piece) → with_commas (e ∷ es) ≡ between (e ∷ es) ++ 44 ∷ 10 ∷ []
unfolding with_comma
with_commas-cons e [] = append-nil (e ++ 44 ∷ 10 ∷ [])
with_commas-cons e (f ∷ es) =
    append_assoc e (44 ∷ 10 ∷ []) (with_commas (f ∷ es)) ∙ ap (λ xs. e ++ 44 ∷ 10 ∷ xs) (with_commas-cons f es)
    ∙ sym (append_assoc e (44 ∷ 10 ∷ between (f ∷ es)) (44 ∷ 10 ∷ []))

event_lines-cons : (e : Piece) (es : List Piece) → event_lines (e ∷ es) ≡ between (e ∷ es) ++ 10 ∷ []
event_lines-cons e [] = refl
event_lines-cons e (f ∷ es) = ap (λ xs. e ++ 44 ∷ 10 ∷ xs) (event_lines-cons f es) ∙ sym (append_assoc e (44 ∷ 10 ∷ between (f ∷ es)) (10 ∷ []))

-- the last byte of a text, and what stands before it
last-same : (xs ys : List ℕ) (a b : ℕ) → xs ++ a ∷ [] ≡ ys ++ b ∷ [] → (xs ≡ ys) × (a ≡ b)
last-same [] [] a b h = (refl, cc)
last-same [] (y ∷ []) a b h = cc
last-same [] (y ∷ z ∷ ys) a b h = cc
last-same (x ∷ []) [] a b h = cc
last-same (x ∷ z ∷ xs) [] a b h = cc
last-same (x ∷ xs) (y ∷ ys) a b h =
    let first : x ≡ y = cc in
    let others : xs ++ a ∷ [] ≡ ys ++ b ∷ [] = cc in
    let same = last-same xs ys a b others in
    (ap₂ (λ z zs. z ∷ zs) first same.0, same.1)

-- what an attempt to take off the last byte of a text leaves
abbrev pub IsPopped : Option ℕ → List ℕ → List ℕ → Type 0
IsPopped o old new = MatchOption o (old ≡ []) (λ b. old ≡ new ++ b ∷ [])

-- of a text that ends in a byte, this byte is taken off
pub last-popped : (o : Option ℕ) (old new cut : List ℕ) (b : ℕ) → IsPopped o old new → old ≡ cut ++ b ∷ [] → (o ≡ Some b) × (new ≡ cut)
last-popped None old new cut b none is =
    let size : 0 ≡ length cut + 1 = sym (ap length none) ∙ ap length is ∙ length-append cut (b ∷ []) in absurd (omega arith)
last-popped (Some a) old new cut b taken is =
    let same = last-same new cut a b (sym taken ∙ is) in
    (ap Some same.1, same.0)

-- a text whose last byte is taken off if it is a comma
abbrev pub LosesComma : List ℕ → List ℕ → Type 0
LosesComma old new = (cut : List ℕ) (b : ℕ) → old ≡ cut ++ b ∷ [] → new ≡ (if b == 44 then cut else old)

-- Events behind a head that ends in a bracket and a line feed: without the last line feed, without the comma that may stand before it, and
-- with a line feed again, they are lines.
pub comma-dropped : (start : List ℕ) (es : List Piece) (o : Option ℕ) (old rest cut new : List ℕ) → old ≡ (start ++ 91 ∷ 10 ∷ []) ++ with_commas es
    → IsPopped o old rest → LosesComma rest cut → new ≡ cut ++ 10 ∷ [] → new ≡ (start ++ 91 ∷ 10 ∷ []) ++ event_lines es
comma-dropped start [] o old rest cut new is taken loses h =
    let head : List ℕ = start ++ 91 ∷ 10 ∷ [] in
    let rest_is = (last-popped o old rest (start ++ 91 ∷ []) 10 taken (is ∙ append-nil head ∙ sym (append_assoc start (91 ∷ []) (10 ∷ [])))).1 in
    h ∙ ap (λ xs. xs ++ 10 ∷ []) (loses start 91 rest_is ∙ rest_is) ∙ append_assoc start (91 ∷ []) (10 ∷ []) ∙ sym (append-nil head)
comma-dropped start (e ∷ es) o old rest cut new is taken loses h =
    let head : List ℕ = start ++ 91 ∷ 10 ∷ [] in
    let front : List ℕ = head ++ between (e ∷ es) in
    let whole : old ≡ front ++ 44 ∷ 10 ∷ [] =
    is ∙ ap (λ xs. head ++ xs) (with_commas-cons e es) ∙ sym (append_assoc head (between (e ∷ es)) (44 ∷ 10 ∷ [])) in
    let rest_is = (last-popped o old rest (front ++ 44 ∷ []) 10 taken (whole ∙ sym (append_assoc front (44 ∷ []) (10 ∷ [])))).1 in
    h ∙ ap (λ xs. xs ++ 10 ∷ []) (loses front 44 rest_is)
    ∙ append_assoc head (between (e ∷ es)) (10 ∷ []) ∙ ap (λ xs. head ++ xs) (sym (event_lines-cons e es))
