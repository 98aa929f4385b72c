-- A run of equal parts is the first span from where it begins.
use Rattle.std.proofs.Common.{◌≡◌, ◌∙◌, ℕ, zero, suc, ◌+◌, ◌-◌, ◌*◌, ◌<◌, ◌≤◌, Bool, true, false, List, [], ◌∷◌, ◌++◌, length, map, drop, get_or, replicate, refl, sym, ap, subst, arith, append_assoc, drop-cons}
use Rattle.std.proofs.lemmas.List.{drop-drop, drop-map, drop_all}
use Rattle.std.specs.Prelude.{if◌then◌else◌, None, Some, ⊤}
use Rattle.rt_rules.proofs.MemberLaws.{equal_self}
use Rattle.trace_views.specs.Cells.{Doing, Playing}
use Rattle.trace_views.specs.Cells as cells
use Rattle.trace_views.specs.Spans.{Span, joined, spans_from}
use Rattle.svg_texts.specs.Lanes.{drawn}
use Rattle.svg_texts.specs.Parts.{Part, held, job, left, link, playing, raised, same_bool, same_doing, same_list, same_part, same_playing, section}
use Rattle.svg_texts.proofs.Lanes.{lanes_tell_apart_lem}
use Rattle.svg_lines.specs.Shown.{RunsTo}

-- ---- each part is equal to itself

same_list-self : (xs : List ℕ) → same_list xs xs ≡ true
same_list-self [] = refl
same_list-self (x ∷ xs) = rw (equal_self x, same_list-self xs) refl

same_bool-self : (b : Bool) → same_bool b b ≡ true
same_bool-self true = refl
same_bool-self false = refl

same_doing-self : (d : Doing) → same_doing d d ≡ true
same_doing-self (cells.works qs) = same_list-self qs
same_doing-self (cells.running qs) = same_list-self qs
same_doing-self (cells.waits s) = equal_self s
same_doing-self (cells.blocked s) = equal_self s
same_doing-self cells.sleeping = refl
same_doing-self cells.ready = refl
same_doing-self cells.away = refl

same_playing-self : (a : Playing) → same_playing a a ≡ true
same_playing-self (cells.works_for t) = equal_self t
same_playing-self (cells.runs_task t) = equal_self t
same_playing-self cells.idle = refl

same_part-self : (x : Part) → same_part x x ≡ true
unfolding same_part
same_part-self (job d k) = rw (same_doing-self d, equal_self k) refl
same_part-self (held ss) = same_list-self ss
same_part-self (section b) = same_bool-self b
same_part-self (raised b) = same_bool-self b
same_part-self (playing a) = same_playing-self a
same_part-self (link None) = refl
same_part-self (link (Some t)) = equal_self t
same_part-self (left n) = equal_self n

-- ---- the first span

-- what a run ends before
abbrev pub Ends : Part → List Part → Type 0
Ends x [] = ⊤
Ends x (y ∷ ys) = same_part x y ≡ false

-- a part before a part that differs from it is a span of its own
alone : (i : ℕ) (x y : Part) (ss : List (Span Part)) → same_part x y ≡ false
    → joined same_part i x (joined same_part (suc i) y ss) ≡ record { from = i; to = suc i; value = x } ∷ joined same_part (suc i) y ss
alone i x y [] h = rw h refl
alone i x y (s ∷ ss) h = by_case (same_part y s.value) refl
  where
    by_case : (b : Bool) → same_part y s.value ≡ b
        → joined same_part i x (if b then (record s { from = suc i } ∷ ss) else (record { from = suc i; to = suc (suc i); value = y } ∷ s ∷ ss))
        ≡ record { from = i; to = suc i; value = x } ∷ (if b then (record s { from = suc i } ∷ ss) else (record { from = suc i; to = suc (suc i); value = y } ∷ s ∷ ss))
    by_case true k =
        let value_is : y ≡ s.value = lanes_tell_apart_lem y s.value k in
        let no : same_part x s.value ≡ false = subst (λ z. same_part x z ≡ false) value_is h in
        rw no refl
    by_case false k = rw h refl

one-span : (i : ℕ) (x : Part) (ys : List Part) → Ends x ys → spans_from same_part i (x ∷ ys) ≡ record { from = i; to = suc i; value = x } ∷ spans_from same_part (suc i) ys
one-span i x [] h = refl
one-span i x (y ∷ ys) h = alone i x y (spans_from same_part (suc (suc i)) ys) h

pub run-span : (k i to : ℕ) (x : Part) (ys : List Part) → to ≡ i + suc k → Ends x ys → spans_from same_part i (replicate (suc k) x ++ ys) ≡ record { from = i; to = to; value = x } ∷ spans_from same_part to ys
run-span zero i to x ys e h =
    let number : suc i ≡ to = omega (arith, e) in
    subst (λ n. spans_from same_part i (x ∷ ys) ≡ record { from = i; to = n; value = x } ∷ spans_from same_part n ys) number (one-span i x ys h)
run-span (suc k) i to x ys e h =
    let number : to ≡ suc i + suc k = omega (arith, e) in
    ap (λ ss. joined same_part i x ss) (run-span k (suc i) to x ys number h) ∙ rw (same_part-self x) refl

-- ---- a run, as it is looked for

pub drop-step : (xs : List Part) (i : ℕ) (x : Part) (rest : List Part) → drop i xs ≡ x ∷ rest → drop (i + 1) xs ≡ rest
drop-step xs i x rest h = sym (drop-drop 1 i xs) ∙ ap (λ (ys : List Part). drop 1 ys) h

pub drop-shown : {A : Type 0} (f : A → Part) (xs : List A) (i : ℕ) (d : A) → i < length xs → drop i (map f xs) ≡ f (get_or xs i d) ∷ drop (i + 1) (map f xs)
drop-shown f xs i d h =
    let next : i + 1 ≡ suc i = omega arith in
    drop-map f i xs ∙ ap (λ ys. map f ys) (drop-cons xs i d h) ∙ ap (λ ys. f (get_or xs i d) ∷ ys) (sym (drop-map f (suc i) xs) ∙ ap (λ n. drop n (map f xs)) (sym next))

pub first-only : (xs : List Part) (from : ℕ) (x : Part) (rest : List Part) → drop from xs ≡ x ∷ rest → drop from xs ≡ replicate (from + 1 - from) x ++ drop (from + 1) xs
first-only xs from x rest h =
    let one : from + 1 - from ≡ 1 = omega arith in
    h ∙ sym (ap (λ (n : ℕ). replicate n x ++ drop (from + 1) xs) one ∙ ap (λ ys. x ∷ ys) (drop-step xs from x rest h))

-- one more that is equal
replicate-pushed : (n : ℕ) (x : Part) (ys : List Part) → replicate n x ++ x ∷ ys ≡ x ∷ (replicate n x ++ ys)
replicate-pushed zero x ys = refl
replicate-pushed (suc n) x ys = ap (λ zs. x ∷ zs) (replicate-pushed n x ys)

pub one-longer : (xs : List Part) (from to : ℕ) (x y : Part) → from < to → same_part x y ≡ true → drop to xs ≡ y ∷ drop (to + 1) xs → drop from xs ≡ replicate (to - from) x ++ drop to xs → drop from xs ≡ replicate (to + 1 - from) x ++ drop (to + 1) xs
one-longer xs from to x y some same_xy next equal =
    let is : x ≡ y = lanes_tell_apart_lem x y same_xy in
    let number : to + 1 - from ≡ suc (to - from) = omega (arith, some) in
    equal ∙ ap (λ zs. replicate (to - from) x ++ zs) (next ∙ ap (λ z. z ∷ drop (to + 1) xs) (sym is)) ∙ replicate-pushed (to - from) x (drop (to + 1) xs) ∙ sym (ap (λ (n : ℕ). replicate n x ++ drop (to + 1) xs) number)

-- equal parts before others are one span
pub span-of : (xs ys : List Part) (from to : ℕ) (x : Part) → from < to → Ends x ys → xs ≡ replicate (to - from) x ++ ys → spans_from same_part from xs ≡ record { from = from; to = to; value = x } ∷ spans_from same_part to ys
span-of xs ys from to x some ends equal =
    let number : to - from ≡ suc (to - from - 1) = omega (arith, some) in
    let reached : to ≡ from + suc (to - from - 1) = omega (arith, some) in
    ap (λ zs. spans_from same_part from zs) (equal ∙ ap (λ (n : ℕ). replicate n x ++ ys) number) ∙ run-span (to - from - 1) from to x ys reached ends

pub run-ends : (xs : List Part) (from to : ℕ) (x : Part) → from < to → Ends x (drop to xs) → drop from xs ≡ replicate (to - from) x ++ drop to xs → spans_from same_part from (drop from xs) ≡ record { from = from; to = to; value = x } ∷ spans_from same_part to (drop to xs)
run-ends xs from to x some ends equal = span-of (drop from xs) (drop to xs) from to x some ends equal

-- ---- the same of elements that show parts

abbrev IsRun : {A : Type 0} → (A → Part) → List A → ℕ → ℕ → Type 0
IsRun shown ps from to = (x : Part) (rest : List Part) → drop from (map shown ps) ≡ x ∷ rest → drop from (map shown ps) ≡ replicate (to - from) x ++ drop to (map shown ps)

head-is : (xs : List Part) (i : ℕ) (x y : Part) (rest : List Part) → drop i xs ≡ x ∷ rest → drop i xs ≡ y ∷ drop (i + 1) xs → x ≡ y
head-is xs i x y rest h k = ap (λ zs. get_or zs 0 x) (sym h ∙ k)

pub grows-here : {A : Type 0} (shown : A → Part) (ps : List A) (from to : ℕ) (a b : A) → a ≡ get_or ps from a → b ≡ get_or ps to b → from < length ps → to < length ps → from < to
    → same_part (shown a) (shown b) ≡ true → IsRun shown ps from to → IsRun shown ps from (to + 1)
grows-here shown ps from to a b is_a is_b in_from in_to some equal so_far x rest h =
    let here : drop from (map shown ps) ≡ shown a ∷ drop (from + 1) (map shown ps) = drop-shown shown ps from a in_from ∙ ap (λ v. shown v ∷ drop (from + 1) (map shown ps)) (sym is_a) in
    let there : drop to (map shown ps) ≡ shown b ∷ drop (to + 1) (map shown ps) = drop-shown shown ps to b in_to ∙ ap (λ v. shown v ∷ drop (to + 1) (map shown ps)) (sym is_b) in
    let first : x ≡ shown a = head-is (map shown ps) from x (shown a) rest h here in
    one-longer (map shown ps) from to x (shown b) some (ap (λ z. same_part z (shown b)) first ∙ equal) there (so_far x rest h)

pub differs-here : {A : Type 0} (shown : A → Part) (ps : List A) (from to : ℕ) (a b : A) → a ≡ get_or ps from a → b ≡ get_or ps to b → from < length ps → to < length ps → from < to
    → same_part (shown a) (shown b) ≡ false → IsRun shown ps from to → RunsTo (map shown ps) from to
differs-here shown ps from to a b is_a is_b in_from in_to some differ so_far x rest h =
    let here : drop from (map shown ps) ≡ shown a ∷ drop (from + 1) (map shown ps) = drop-shown shown ps from a in_from ∙ ap (λ v. shown v ∷ drop (from + 1) (map shown ps)) (sym is_a) in
    let there : drop to (map shown ps) ≡ shown b ∷ drop (to + 1) (map shown ps) = drop-shown shown ps to b in_to ∙ ap (λ v. shown v ∷ drop (to + 1) (map shown ps)) (sym is_b) in
    let first : x ≡ shown a = head-is (map shown ps) from x (shown a) rest h here in
    let no : same_part x (shown b) ≡ false = ap (λ z. same_part z (shown b)) first ∙ differ in
    run-ends (map shown ps) from to x some (subst (λ ys. Ends x ys) (sym there) no) (so_far x rest h)

pub nothing-left : {A : Type 0} (shown : A → Part) (ps : List A) (from to : ℕ) → from < to → length ps ≤ to → IsRun shown ps from to → RunsTo (map shown ps) from to
nothing-left shown ps from to some over so_far x rest h =
    let none : drop to (map shown ps) ≡ [] = drop-map shown to ps ∙ ap (λ ys. map shown ys) (drop_all to ps over) in
    run-ends (map shown ps) from to x some (subst (λ ys. Ends x ys) (sym none) tt) (so_far x rest h)

-- a span is drawn, and then the rest
pub span-drawn : {A : Type 0} (shown : A → Part) (draw : ℕ → ℕ → ℕ → Part → List ℕ) (edge y : ℕ) (ps : List A) (from to : ℕ) (a : A) (top x w : ℕ) (out new all : List ℕ)
    → RunsTo (map shown ps) from to → a ≡ get_or ps from a → from < length ps
    → top ≡ y → x ≡ edge + 20 * from → w ≡ 20 * (to - from) → new ≡ out ++ draw top x w (shown a)
    → out ++ drawn (draw y) edge (spans_from same_part from (drop from (map shown ps))) ≡ all
    → new ++ drawn (draw y) edge (spans_from same_part to (drop to (map shown ps))) ≡ all
span-drawn shown draw edge y ps from to a top x w out new all run is inside at_y at_x at_w written so_far =
    let rest = drawn (draw y) edge (spans_from same_part to (drop to (map shown ps))) in
    let here : drop from (map shown ps) ≡ shown a ∷ drop (from + 1) (map shown ps) = drop-shown shown ps from a inside ∙ ap (λ v. shown v ∷ drop (from + 1) (map shown ps)) (sym is) in
    let moved : draw top x w (shown a) ≡ draw y (edge + 20 * from) (20 * (to - from)) (shown a) = ap (λ n. draw n x w (shown a)) at_y ∙ ap (λ n. draw y n w (shown a)) at_x ∙ ap (λ n. draw y (edge + 20 * from) n (shown a)) at_w in
    let spans_are : drawn (draw y) edge (spans_from same_part from (drop from (map shown ps))) ≡ draw y (edge + 20 * from) (20 * (to - from)) (shown a) ++ rest = ap (λ ss. drawn (draw y) edge ss) (run (shown a) _ here) in
    ap (λ z. z ++ rest) (written ∙ ap (λ z. out ++ z) moved) ∙ append_assoc out _ rest ∙ ap (λ z. out ++ z) (sym spans_are) ∙ so_far

-- the first of the spans is drawn
pub first-drawn : (draw : ℕ → ℕ → ℕ → Part → List ℕ) (edge y from to : ℕ) (part : Part) (rest all : List (Span Part)) (top x w : ℕ) (out new : List ℕ)
    → all ≡ record { from = from; to = to; value = part } ∷ rest → top ≡ y → x ≡ edge + 20 * from → w ≡ 20 * (to - from) → new ≡ out ++ draw top x w part
    → new ++ drawn (draw y) edge rest ≡ out ++ drawn (draw y) edge all
first-drawn draw edge y from to part rest all top x w out new spans_are at_y at_x at_w written =
    let moved : draw top x w part ≡ draw y (edge + 20 * from) (20 * (to - from)) part = ap (λ n. draw n x w part) at_y ∙ ap (λ n. draw y n w part) at_x ∙ ap (λ n. draw y (edge + 20 * from) n part) at_w in
    ap (λ z. z ++ drawn (draw y) edge rest) (written ∙ ap (λ z. out ++ z) moved) ∙ append_assoc out _ (drawn (draw y) edge rest) ∙ ap (λ ss. out ++ drawn (draw y) edge ss) (sym spans_are)
