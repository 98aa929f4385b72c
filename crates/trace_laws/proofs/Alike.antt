-- Texts with the same first lines.
use Rattle.std.proofs.Common.{◌≡◌, ◌≢◌, ℕ, suc, zero, ◌+◌, ◌-◌, ◌≤◌, List, [], ◌∷◌, ◌++◌, All, codes, length, take, refl, sym, ap, subst, ◌∙◌, arith, append_assoc, length-append}
use Rattle.std.specs.Prelude.{flat_map}
use Rattle.std.proofs.lemmas.List.Elements.{All-nil, All-cons, All-head, All-tail, All-append}
use Rattle.trace_lines.specs.declared.format.Version.{Version}
use Rattle.trace_lines.specs.declared.format.Version.TheVariants.{One, Two}
use Rattle.trace_lines.specs.FirstLine.{first_line}
use Rattle.trace_lines.specs.Grammar.{line_text}
use Rattle.trace_lines.specs.Known.{Known, IsLine}
use Rattle.trace_lines.specs.Lines.{Line}
use Rattle.trace_read.specs.Reads.{HasHead, AreLines}
use Rattle.trace_read.specs.Seen.{Tells}
use Rattle.trace_read.proofs.LineLaws.{line_body, line_text-ends, line_body-one_line, line-unique}
use Rattle.trace_laws.specs.ValidTexts.{with_feeds, BeginAlike}
use Rattle.trace_laws.proofs.OneLine.{one_line-from_free}
use Rattle.trace_laws.proofs.Heads.{first-unique}

abbrev pub OnOneLine : List ℕ → Type 0
OnOneLine w = All (λ (c : ℕ). c ≢ 10) w

-- a text that begins with lines begins with the first of them
pub feeds-cons : (w : List ℕ) (ws : List (List ℕ)) (rest : List ℕ) → with_feeds (w ∷ ws) ++ rest ≡ w ++ 10 ∷ (with_feeds ws ++ rest)
feeds-cons w ws rest = append_assoc (w ++ 10 ∷ []) (with_feeds ws) rest ∙ append_assoc w (10 ∷ []) (with_feeds ws ++ rest)

pub line-first : (k : Known) (l : Line) (ls : List Line) (left : List ℕ) → flat_map (line_text k) (l ∷ ls) ++ left ≡ line_body k l ++ 10 ∷ (flat_map (line_text k) ls ++ left)
line-first k l ls left =
    append_assoc (line_text k l) (flat_map (line_text k) ls) left
    ∙ ap (λ (xs : List ℕ). xs ++ (flat_map (line_text k) ls ++ left)) (line_text-ends k l)
    ∙ append_assoc (line_body k l) (10 ∷ []) (flat_map (line_text k) ls ++ left)

no_line : (w rest : List ℕ) → [] ≢ w ++ 10 ∷ rest
no_line w rest e = omega (arith, ap length e, length-append w (10 ∷ rest))

same_line : (k : Known) (l v : Line) (w : List ℕ) → Tells k → IsLine k l → IsLine k v → line_body k l ≡ w → line_body k v ≡ w → l ≡ v
same_line k l v w tell g h e f =
    let texts : line_text k l ++ [] ≡ line_text k v ++ [] = ap (λ (xs : List ℕ). xs ++ []) (line_text-ends k l ∙ ap (λ (xs : List ℕ). xs ++ 10 ∷ []) (e ∙ sym f) ∙ sym (line_text-ends k v)) in
    (line-unique k l v [] [] tell g h texts).0

-- the text begins with this line of the grammar
line-begins : (k : Known) (l : Line) (w rest text : List ℕ) → line_body k l ≡ w → text ≡ w ++ 10 ∷ rest → text ≡ line_text k l ++ rest
line-begins k l w rest text e f =
    f ∙ ap (λ (xs : List ℕ). xs ++ 10 ∷ rest) (sym e) ∙ sym (append_assoc (line_body k l) (10 ∷ []) rest) ∙ ap (λ (xs : List ℕ). xs ++ rest) (sym (line_text-ends k l))

-- what is left after the lines of a text begins with no line of the grammar
abbrev pub NoneFurther : Known → List ℕ → Type 0
NoneFurther k left = (l : Line) (more : List ℕ) → IsLine k l → left ≢ line_text k l ++ more

pub record AgreeThrough (m : ℕ) (ls vs : List Line) : Type 0 where
  pub within : m ≤ length ls
  pub within' : m ≤ length vs
  pub same : take m ls ≡ take m vs

agree-more : (m : ℕ) (l v : Line) (ls vs : List Line) → l ≡ v → AgreeThrough m ls vs → AgreeThrough (suc m) (l ∷ ls) (v ∷ vs)
agree-more m l v ls vs e h = record {
  within = (let w = h.within in omega arith);
  within' = (let w = h.within' in omega arith);
  same = rw (e, h.same) refl;
}

-- the first line of a text that begins with a line of the grammar
first_of : (k : Known) (l : Line) (ls : List Line) (left w : List ℕ) (ws : List (List ℕ)) (rest : List ℕ) → Tells k → IsLine k l → OnOneLine w → flat_map (line_text k) (l ∷ ls) ++ left ≡ with_feeds (w ∷ ws) ++ rest
    → (line_body k l ≡ w) × (flat_map (line_text k) ls ++ left ≡ with_feeds ws ++ rest)
first_of k l ls left w ws rest tell is one e =
    first-unique (line_body k l) w (flat_map (line_text k) ls ++ left) (with_feeds ws ++ rest) (line_body-one_line k l tell is) one (sym (line-first k l ls left) ∙ e ∙ feeds-cons w ws rest)

-- texts with the same first lines agree in so many of their lines as both have
agree-lines : (k : Known) (m : ℕ) (ws : List (List ℕ)) (ls vs : List Line) (left more rest rest' : List ℕ) → m ≤ length ws → m ≤ length vs → Tells k → All OnOneLine ws → All (IsLine k) ls → All (IsLine k) vs → NoneFurther k left
    → flat_map (line_text k) ls ++ left ≡ with_feeds ws ++ rest → flat_map (line_text k) vs ++ more ≡ with_feeds ws ++ rest' → AgreeThrough m ls vs
agree-lines k zero ws ls vs left more rest rest' low few tell ones g h none e f = record { within = omega arith; within' = omega arith; same = refl }
agree-lines k (suc m) [] ls vs left more rest rest' low few tell ones g h none e f = absurd (omega (arith, low))
agree-lines k (suc m) (w ∷ ws) ls [] left more rest rest' low few tell ones g h none e f = absurd (omega (arith, few))
agree-lines k (suc m) (w ∷ ws) [] (v ∷ vs) left more rest rest' low few tell ones g h none e f =
    let is = All-head (IsLine k) v vs h in
    let one = All-head OnOneLine w ws ones in
    let first = first_of k v vs more w ws rest' tell is one f in
    absurd (none v (with_feeds ws ++ rest) is (line-begins k v w (with_feeds ws ++ rest) left first.0 (e ∙ feeds-cons w ws rest)))
agree-lines k (suc m) (w ∷ ws) (l ∷ ls) (v ∷ vs) left more rest rest' low few tell ones g h none e f =
    let l_is = All-head (IsLine k) l ls g in
    let v_is = All-head (IsLine k) v vs h in
    let one = All-head OnOneLine w ws ones in
    let first = first_of k l ls left w ws rest tell l_is one e in
    let first' = first_of k v vs more w ws rest' tell v_is one f in
    agree-more m l v ls vs (same_line k l v w tell l_is v_is first.0 first'.0)
    (agree-lines k m ws ls vs left more rest rest' (omega (arith, low)) (omega (arith, few)) tell (All-tail OnOneLine w ws ones) (All-tail (IsLine k) l ls g) (All-tail (IsLine k) v vs h) none first.1 first'.1)

-- ---- the head

abbrev pub name_line : Version → List ℕ
name_line One = codes "rtsched trace 1"
name_line Two = codes "rtsched trace 2"

abbrev pub set_line : List ℕ → List ℕ
set_line s = codes "set " ++ s

pub name_line-one : (v : Version) → OnOneLine (name_line v)
name_line-one One = one_line-from_free (name_line One) refl
name_line-one Two = one_line-from_free (name_line Two) refl

name_line-feed : (v : Version) (rest : List ℕ) → first_line v ++ rest ≡ name_line v ++ 10 ∷ rest
name_line-feed One rest = refl
name_line-feed Two rest = refl

pub set_line-one : (s : List ℕ) → OnOneLine s → OnOneLine (set_line s)
set_line-one s h = All-append (λ (c : ℕ). c ≢ 10) (codes "set ") s (one_line-from_free (codes "set ") refl) h

pub head-lines : (v : Version) (bytes s r : List ℕ) → HasHead v bytes s r → bytes ≡ name_line v ++ 10 ∷ (set_line s ++ 10 ∷ r)
head-lines v bytes s r h = h.bytes_are ∙ name_line-feed v (set_line s ++ 10 ∷ r)

-- the second of a text's lines, and what follows it
second_of : (u : Version) (bytes s r a b rest : List ℕ) (ws : List (List ℕ)) → HasHead u bytes s r → OnOneLine a → OnOneLine b → bytes ≡ with_feeds (a ∷ b ∷ ws) ++ rest → (set_line s ≡ b) × (r ≡ with_feeds ws ++ rest)
second_of u bytes s r a b rest ws h one two e =
    let first = first-unique (name_line u) a (set_line s ++ 10 ∷ r) (with_feeds (b ∷ ws) ++ rest) (name_line-one u) one (sym (head-lines u bytes s r h) ∙ e ∙ feeds-cons a (b ∷ ws) rest) in
    first-unique (set_line s) b r (with_feeds ws ++ rest) (set_line-one s h.on_one_line) two (first.1 ∙ feeds-cons b ws rest)

-- ---- the same first lines

-- the lines after the first two
pub record AlikeAfter (n : ℕ) (bytes text : List ℕ) : Type 0 where
  pub first : List ℕ
  pub second : List ℕ
  pub others : List (List ℕ)
  pub rest : List ℕ
  pub rest' : List ℕ
  pub count : length others ≡ n - 2
  pub first_one : OnOneLine first
  pub second_one : OnOneLine second
  pub others_one : All OnOneLine others
  pub text_is : bytes ≡ with_feeds (first ∷ second ∷ others) ++ rest
  pub text'_is : text ≡ with_feeds (first ∷ second ∷ others) ++ rest'

after_two : (n : ℕ) (bytes text rest rest' : List ℕ) (ws : List (List ℕ)) → 2 ≤ n → length ws ≡ n → All OnOneLine ws → bytes ≡ with_feeds ws ++ rest → text ≡ with_feeds ws ++ rest' → AlikeAfter n bytes text
after_two n bytes text rest rest' [] many count ones e f = absurd (omega arith)
after_two n bytes text rest rest' (a ∷ []) many count ones e f = absurd (omega arith)
after_two n bytes text rest rest' (a ∷ b ∷ ws) many count ones e f =
    let tail = All-tail OnOneLine a (b ∷ ws) ones in
    record {
      first = a;
      second = b;
      others = ws;
      rest = rest;
      rest' = rest';
      count = omega arith;
      first_one = All-head OnOneLine a (b ∷ ws) ones;
      second_one = All-head OnOneLine b ws tail;
      others_one = All-tail OnOneLine b ws tail;
      text_is = e;
      text'_is = f;
    }

alike-after : (n : ℕ) (bytes text : List ℕ) → BeginAlike n bytes text → 2 ≤ n → AlikeAfter n bytes text
alike-after n bytes text h many = after_two n bytes text h.rest h.rest' h.lines many h.count h.are_lines h.text_is h.text'_is

after_prefix : (s s' : List ℕ) → set_line s ≡ set_line s' → s ≡ s'
after_prefix s s' e = cc

-- two texts with the same first two lines have the same set
pub alike-head : (u u' : Version) (n : ℕ) (bytes text s r s' r' : List ℕ) → BeginAlike n bytes text → 2 ≤ n → HasHead u bytes s r → HasHead u' text s' r' → s ≡ s'
alike-head u u' n bytes text s r s' r' h many g g' =
    let a = alike-after n bytes text h many in
    let one = second_of u bytes s r a.first a.second a.rest a.others g a.first_one a.second_one a.text_is in
    let two = second_of u' text s' r' a.first a.second a.rest' a.others g' a.first_one a.second_one a.text'_is in
    after_prefix s s' (one.0 ∙ sym two.0)

-- and where their lines are known, the same first lines after them, so many as there are
pub alike-take : (k : Known) (u u' : Version) (n m : ℕ) (bytes text s r s' r' left more : List ℕ) (ls vs : List Line) → Tells k → HasHead u bytes s r → HasHead u' text s' r' → AreLines k r ls left → All (IsLine k) vs → r' ≡ flat_map (line_text k) vs ++ more
    → BeginAlike n bytes text → m + 2 ≤ n → m ≤ length vs → AgreeThrough m ls vs
alike-take k u u' n m bytes text s r s' r' left more ls vs tell g g' are known rest_is h many few =
    let a = alike-after n bytes text h (omega (arith, many)) in
    let one = second_of u bytes s r a.first a.second a.rest a.others g a.first_one a.second_one a.text_is in
    let two = second_of u' text s' r' a.first a.second a.rest' a.others g' a.first_one a.second_one a.text'_is in
    agree-lines k m a.others ls vs left more a.rest a.rest' (omega (arith, many, a.count)) few tell a.others_one are.lines_known known are.none_further (sym are.text_is ∙ one.1) (sym rest_is ∙ two.1)

-- ---- made alike

pub alike-none : (bytes text : List ℕ) → BeginAlike 0 bytes text
alike-none bytes text = record { lines = []; rest = bytes; rest' = text; count = refl; are_lines = All-nil OnOneLine; text_is = refl; text'_is = refl }

-- texts with the same first line have the lines that follow it alike
pub alike-cons : (n : ℕ) (w bytes text : List ℕ) → OnOneLine w → BeginAlike n bytes text → BeginAlike (suc n) (w ++ 10 ∷ bytes) (w ++ 10 ∷ text)
alike-cons n w bytes text one h = record {
  lines = w ∷ h.lines;
  rest = h.rest;
  rest' = h.rest';
  count = (let c = h.count in omega arith);
  are_lines = All-cons OnOneLine w h.lines one h.are_lines;
  text_is = ap (λ (xs : List ℕ). w ++ 10 ∷ xs) h.text_is ∙ sym (feeds-cons w h.lines h.rest);
  text'_is = ap (λ (xs : List ℕ). w ++ 10 ∷ xs) h.text'_is ∙ sym (feeds-cons w h.lines h.rest');
}

-- texts that begin with the first line have it alike
pub alike-one : (v : Version) (bytes text x y : List ℕ) → bytes ≡ first_line v ++ x → text ≡ first_line v ++ y → BeginAlike 1 bytes text
alike-one v bytes text x y e f =
    subst (λ (t : List ℕ). BeginAlike 1 t text) (sym (e ∙ name_line-feed v x))
    (subst (BeginAlike 1 (name_line v ++ 10 ∷ x)) (sym (f ∙ name_line-feed v y)) (alike-cons 0 (name_line v) x y (name_line-one v) (alike-none x y)))

pub alike-one_head : (v : Version) (bytes text s r s' r' : List ℕ) → HasHead v bytes s r → HasHead v text s' r' → BeginAlike 1 bytes text
alike-one_head v bytes text s r s' r' g h = alike-one v bytes text (codes "set " ++ (s ++ 10 ∷ r)) (codes "set " ++ (s' ++ 10 ∷ r')) g.bytes_are h.bytes_are

same_first : (m : ℕ) (l v : Line) (ls vs : List Line) → take (suc m) (l ∷ ls) ≡ take (suc m) (v ∷ vs) → (l ≡ v) × (take m ls ≡ take m vs)
same_first m l v ls vs e = let f : l ∷ take m ls ≡ v ∷ take m vs = e in (cc, cc)

alike-lines : (k : Known) (m : ℕ) (ls vs : List Line) (left more : List ℕ) → Tells k → All (IsLine k) ls → AgreeThrough m ls vs → BeginAlike m (flat_map (line_text k) ls ++ left) (flat_map (line_text k) vs ++ more)
alike-lines k zero ls vs left more tell g h = alike-none (flat_map (line_text k) ls ++ left) (flat_map (line_text k) vs ++ more)
alike-lines k (suc m) [] vs left more tell g h = absurd (let w = h.within in omega arith)
alike-lines k (suc m) (l ∷ ls) [] left more tell g h = absurd (let w = h.within' in omega arith)
alike-lines k (suc m) (l ∷ ls) (v ∷ vs) left more tell g h =
    let same = same_first m l v ls vs h.same in
    let rest : AgreeThrough m ls vs = record { within = (let w = h.within in omega arith); within' = (let w = h.within' in omega arith); same = same.1 } in
    let made = alike-cons m (line_body k l) (flat_map (line_text k) ls ++ left) (flat_map (line_text k) vs ++ more) (line_body-one_line k l tell (All-head (IsLine k) l ls g)) (alike-lines k m ls vs left more tell (All-tail (IsLine k) l ls g) rest) in
    subst (λ (t : List ℕ). BeginAlike (suc m) t (flat_map (line_text k) (v ∷ vs) ++ more)) (sym (line-first k l ls left))
    (subst (BeginAlike (suc m) (line_body k l ++ 10 ∷ (flat_map (line_text k) ls ++ left))) (ap (λ (x : Line). line_body k x ++ 10 ∷ (flat_map (line_text k) vs ++ more)) same.0 ∙ sym (line-first k v vs more)) made)

-- the same lines in front of texts that begin alike
pub alike-behind : (k : Known) (n : ℕ) (ls : List Line) (x y : List ℕ) → Tells k → All (IsLine k) ls → BeginAlike n x y → BeginAlike (length ls + n) (flat_map (line_text k) ls ++ x) (flat_map (line_text k) ls ++ y)
alike-behind k n [] x y tell g h = let none : n ≡ 0 + n = omega arith in subst (λ (m : ℕ). BeginAlike m x y) none h
alike-behind k n (l ∷ ls) x y tell g h =
    let more : suc (length ls + n) ≡ length (l ∷ ls) + n = omega arith in
    subst (λ (m : ℕ). BeginAlike m (flat_map (line_text k) (l ∷ ls) ++ x) (flat_map (line_text k) (l ∷ ls) ++ y)) more
    (subst (λ (t : List ℕ). BeginAlike (suc (length ls + n)) t (flat_map (line_text k) (l ∷ ls) ++ y)) (sym (line-first k l ls x))
    (subst (BeginAlike (suc (length ls + n)) (line_body k l ++ 10 ∷ (flat_map (line_text k) ls ++ x))) (sym (line-first k l ls y))
    (alike-cons (length ls + n) (line_body k l) (flat_map (line_text k) ls ++ x) (flat_map (line_text k) ls ++ y) (line_body-one_line k l tell (All-head (IsLine k) l ls g))
    (alike-behind k n ls x y tell (All-tail (IsLine k) l ls g) h))))

-- the same first two lines in front of them
pub alike-two : (u : Version) (m : ℕ) (bytes text s r r' : List ℕ) → HasHead u bytes s r → HasHead u text s r' → BeginAlike m r r' → BeginAlike (m + 2) bytes text
alike-two u m bytes text s r r' g g' rests =
    let two = alike-cons (suc m) (name_line u) (set_line s ++ 10 ∷ r) (set_line s ++ 10 ∷ r') (name_line-one u) (alike-cons m (set_line s) r r' (set_line-one s g.on_one_line) rests) in
    let count : suc (suc m) ≡ m + 2 = omega arith in
    subst (λ (n : ℕ). BeginAlike n bytes text) count
    (subst (λ (t : List ℕ). BeginAlike (suc (suc m)) t text) (sym (head-lines u bytes s r g)) (subst (BeginAlike (suc (suc m)) (name_line u ++ 10 ∷ (set_line s ++ 10 ∷ r))) (sym (head-lines u text s r' g')) two))

-- the same set and the same first lines make texts alike
pub alike-made : (k : Known) (u : Version) (m : ℕ) (bytes text s r r' left more : List ℕ) (ls vs : List Line) → Tells k → HasHead u bytes s r → HasHead u text s r' → AreLines k r ls left → r' ≡ flat_map (line_text k) vs ++ more
    → AgreeThrough m ls vs → BeginAlike (m + 2) bytes text
alike-made k u m bytes text s r r' left more ls vs tell g g' are rest_is h =
    let others = alike-lines k m ls vs left more tell are.lines_known h in
    let rests : BeginAlike m r r' = subst (λ (t : List ℕ). BeginAlike m t r') (sym are.text_is) (subst (BeginAlike m (flat_map (line_text k) ls ++ left)) (sym rest_is) others) in
    alike-two u m bytes text s r r' g g' rests
