-- How many lines texts have alike, and what stands behind lines of the grammar.
use Rattle.std.proofs.Common.{◌≡◌, ◌≢◌, ℕ, suc, ◌+◌, ◌<◌, ◌≤◌, ◌==◌, Bool, true, false, List, [], ◌∷◌, ◌++◌, All, drop, get_or, length, refl, sym, ap, ◌∙◌, subst, arith, append_assoc, eqb-true}
use Rattle.std.specs.Prelude.{flat_map, if◌then◌else◌}
use Rattle.std.proofs.Math.Seq.{drop-cons}
use Rattle.std.proofs.lemmas.Bool.Decides.{nat_tests}
use Rattle.std.proofs.lemmas.List.Elements.{All-append, All-cons, All-head, All-nil, All-tail}
use Rattle.rt_rules.proofs.MemberLaws.{equal_self}
use Rattle.trace_lines.specs.declared.format.Version.{Version}
use Rattle.trace_lines.specs.Grammar.{line_text}
use Rattle.trace_lines.specs.Known.{IsLine, Known}
use Rattle.trace_lines.specs.Lines.{Line}
use Rattle.trace_read.specs.Reads.{HasHead}
use Rattle.trace_read.specs.Seen.{Tells}
use Rattle.trace_read.proofs.LineLaws.{line_body, line_body-one_line}
use Rattle.trace_laws.specs.ValidTexts.{BeginAlike, with_feeds}
use Rattle.trace_laws.proofs.Alike.{OnOneLine, alike-cons, alike-none, feeds-cons, head-lines, line-first, name_line, name_line-one, set_line, set_line-one}
use Rattle.trace_check.specs.LinesAlike.{lines_alike}

no_feed : (x : ℕ) → x ≢ 10 → x == 10 ≡ false
no_feed x h = grind (arith, nat_tests)

-- ---- the same line in front

one-alike : (w a b : List ℕ) → OnOneLine w → lines_alike (w ++ 10 ∷ a) (w ++ 10 ∷ b) ≡ suc (lines_alike a b)
one-alike [] a b one = refl
one-alike (x ∷ w) a b one =
    let other : x == 10 ≡ false = no_feed x (All-head (λ (c : ℕ). c ≢ 10) x w one) in
    rw (equal_self x, other) (one-alike w a b (All-tail (λ (c : ℕ). c ≢ 10) x w one))

feeds-alike : (ws : List (List ℕ)) (a b : List ℕ) → All OnOneLine ws → lines_alike (with_feeds ws ++ a) (with_feeds ws ++ b) ≡ length ws + lines_alike a b
feeds-alike [] a b ones = let none : lines_alike a b ≡ 0 + lines_alike a b = omega arith in none
feeds-alike (w ∷ ws) a b ones =
    let more : suc (length ws + lines_alike a b) ≡ length (w ∷ ws) + lines_alike a b = omega arith in
    ap (λ (t : List ℕ). lines_alike t (with_feeds (w ∷ ws) ++ b)) (feeds-cons w ws a) ∙ ap (lines_alike (w ++ 10 ∷ (with_feeds ws ++ a))) (feeds-cons w ws b)
    ∙ one-alike w (with_feeds ws ++ a) (with_feeds ws ++ b) (All-head OnOneLine w ws ones) ∙ ap suc (feeds-alike ws a b (All-tail OnOneLine w ws ones)) ∙ more

lines-alike : (k : Known) (ls : List Line) (a b : List ℕ) → Tells k → All (IsLine k) ls → lines_alike (flat_map (line_text k) ls ++ a) (flat_map (line_text k) ls ++ b) ≡ length ls + lines_alike a b
lines-alike k [] a b tell g = let none : lines_alike a b ≡ 0 + lines_alike a b = omega arith in none
lines-alike k (l ∷ ls) a b tell g =
    let more : suc (length ls + lines_alike a b) ≡ length (l ∷ ls) + lines_alike a b = omega arith in
    ap (λ (t : List ℕ). lines_alike t (flat_map (line_text k) (l ∷ ls) ++ b)) (line-first k l ls a) ∙ ap (lines_alike (line_body k l ++ 10 ∷ (flat_map (line_text k) ls ++ a))) (line-first k l ls b)
    ∙ one-alike (line_body k l) (flat_map (line_text k) ls ++ a) (flat_map (line_text k) ls ++ b) (line_body-one_line k l tell (All-head (IsLine k) l ls g)) ∙ ap suc (lines-alike k ls a b tell (All-tail (IsLine k) l ls g)) ∙ more

-- the same first two lines
heads-alike : (v : Version) (bytes text s r r' : List ℕ) → HasHead v bytes s r → HasHead v text s r' → lines_alike bytes text ≡ suc (suc (lines_alike r r'))
heads-alike v bytes text s r r' g h =
    ap (λ (t : List ℕ). lines_alike t text) (head-lines v bytes s r g) ∙ ap (lines_alike (name_line v ++ 10 ∷ (set_line s ++ 10 ∷ r))) (head-lines v text s r' h)
    ∙ one-alike (name_line v) (set_line s ++ 10 ∷ r) (set_line s ++ 10 ∷ r') (name_line-one v) ∙ ap suc (one-alike (set_line s) r r' (set_line-one s g.on_one_line))

-- the same first two lines, and the same lines of the grammar behind them
pub texts-alike : (v : Version) (k : Known) (ls : List Line) (bytes text s a b : List ℕ) → Tells k → All (IsLine k) ls → HasHead v bytes s (flat_map (line_text k) ls ++ a) → HasHead v text s (flat_map (line_text k) ls ++ b)
    → lines_alike bytes text ≡ length ls + 2 + lines_alike a b
texts-alike v k ls bytes text s a b tell known g h =
    let first : lines_alike bytes text ≡ suc (suc (lines_alike (flat_map (line_text k) ls ++ a) (flat_map (line_text k) ls ++ b))) = heads-alike v bytes text s (flat_map (line_text k) ls ++ a) (flat_map (line_text k) ls ++ b) g h in
    let second : lines_alike (flat_map (line_text k) ls ++ a) (flat_map (line_text k) ls ++ b) ≡ length ls + lines_alike a b = lines-alike k ls a b tell known in
    omega (arith, first, second)

-- ---- it is the greatest number of lines that two texts have alike

pub alike-most : (k : ℕ) (a b : List ℕ) → BeginAlike k a b → k ≤ lines_alike a b
alike-most k a b h =
    let count : lines_alike a b ≡ length h.lines + lines_alike h.rest h.rest' =
    ap (λ (t : List ℕ). lines_alike t b) h.text_is ∙ ap (lines_alike (with_feeds h.lines ++ h.rest)) h.text'_is ∙ feeds-alike h.lines h.rest h.rest' h.are_lines in
    omega (arith, count, h.count)

alike-built : (w a b : List ℕ) → OnOneLine w → BeginAlike (lines_alike a b) (w ++ a) (w ++ b)
alike-built w [] b one = alike-none (w ++ []) (w ++ b)
alike-built w (x ∷ a) [] one = alike-none (w ++ x ∷ a) (w ++ [])
alike-built w (x ∷ a) (y ∷ b) one = by_case (x == y) (x == 10) refl refl (λ v. alike-built v a b)
  where
    by_case : (e f : Bool) → x == y ≡ e → x == 10 ≡ f → ((v : List ℕ) → OnOneLine v → BeginAlike (lines_alike a b) (v ++ a) (v ++ b))
        → BeginAlike (if e then (if f then suc (lines_alike a b) else lines_alike a b) else 0) (w ++ x ∷ a) (w ++ y ∷ b)
    by_case false f same feed rest = alike-none (w ++ x ∷ a) (w ++ y ∷ b)
    by_case true true same feed rest =
        let x_is : 10 ≡ x = sym (eqb-true x 10 feed) in
        let y_is : 10 ≡ y = x_is ∙ eqb-true x y same in
        subst (λ (c : ℕ). BeginAlike (suc (lines_alike a b)) (w ++ c ∷ a) (w ++ y ∷ b)) x_is
        (subst (λ (c : ℕ). BeginAlike (suc (lines_alike a b)) (w ++ 10 ∷ a) (w ++ c ∷ b)) y_is (alike-cons (lines_alike a b) w a b one (rest [] (All-nil (λ (c : ℕ). c ≢ 10)))))
    by_case true false same feed rest =
        let apart : x ≢ 10 = (λ is. let yes : x == 10 ≡ true = rw is refl in cc) in
        let longer : OnOneLine (w ++ x ∷ []) = All-append (λ (c : ℕ). c ≢ 10) w (x ∷ []) one (All-cons (λ (c : ℕ). c ≢ 10) x [] apart (All-nil (λ (c : ℕ). c ≢ 10))) in
        subst (λ (c : ℕ). BeginAlike (lines_alike a b) (w ++ x ∷ a) (w ++ c ∷ b)) (eqb-true x y same)
        (subst (λ (t : List ℕ). BeginAlike (lines_alike a b) t (w ++ x ∷ b)) (append_assoc w (x ∷ []) a)
        (subst (BeginAlike (lines_alike a b) ((w ++ x ∷ []) ++ a)) (append_assoc w (x ∷ []) b) (rest (w ++ x ∷ []) longer)))

pub alike-there : (a b : List ℕ) → BeginAlike (lines_alike a b) a b
alike-there a b = alike-built [] a b (All-nil (λ (c : ℕ). c ≢ 10))

-- ---- where texts differ

-- no line is alike where one of them ends
pub alike-past : (a b : List ℕ) → length b ≤ 0 → lines_alike a b ≡ 0
alike-past [] b past = refl
alike-past (x ∷ a) [] past = refl
alike-past (x ∷ a) (y ∷ b) past = absurd (omega (arith, past))

alike-differ : (x y : ℕ) (a b : List ℕ) → x ≢ y → lines_alike (x ∷ a) (y ∷ b) ≡ 0
alike-differ x y a b other = by_case (x == y) refl
  where
    by_case : (e : Bool) → x == y ≡ e → (if e then (if x == 10 then suc (lines_alike a b) else lines_alike a b) else 0) ≡ 0
    by_case true same = absurd (other (eqb-true x y same))
    by_case false same = refl

-- nor where they differ
pub alike-stop : (a b : List ℕ) (i : ℕ) → i < length a → i < length b → (get_or a i 0 ≡ get_or b i 0 → ⊥) → lines_alike (drop i a) (drop i b) ≡ 0
alike-stop a b i low below other =
    ap (λ (t : List ℕ). lines_alike t (drop i b)) (drop-cons a i 0 low) ∙ ap (lines_alike (get_or a i 0 ∷ drop (suc i) a)) (drop-cons b i 0 below)
    ∙ alike-differ (get_or a i 0) (get_or b i 0) (drop (suc i) a) (drop (suc i) b) other
