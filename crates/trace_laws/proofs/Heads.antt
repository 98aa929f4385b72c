-- The head of a trace: one text has one, and the text of histories has the canonical text of its set.
use Rattle.std.proofs.Common.{◌≡◌, ◌≢◌, ℕ, List, [], ◌∷◌, ◌++◌, All, codes, get_or, refl, sym, ap, subst, ◌∙◌, arith, append_assoc}
use Rattle.std.specs.Prelude.{flat_map}
use Rattle.std.proofs.lemmas.List.{append_cancel_left}
use Rattle.rt_task.specs.declared.Parts.{Parts}
use Rattle.rt_rules.specs.declared.history.Entry.{Entry}
use Rattle.set_canonical.specs.Canonical.{canonical}
use Rattle.trace_lines.specs.declared.format.Version.{Version}
use Rattle.trace_lines.specs.declared.format.Version.TheVariants.{One, Two}
use Rattle.trace_lines.specs.FirstLine.{first_line}
use Rattle.trace_lines.specs.Grammar.{line_text}
use Rattle.trace_lines.specs.Known.{known_of}
use Rattle.trace_text.specs.TraceText.{lines_from, trace_text}
use Rattle.trace_read.specs.Reads.{HasHead}
use Rattle.trace_read.specs.Reading.{cut}
use Rattle.trace_read.proofs.WordLaws.{cut-feed}

pub first-unique : (v w x y : List ℕ) → All (λ (c : ℕ). c ≢ 10) v → All (λ (c : ℕ). c ≢ 10) w → v ++ 10 ∷ x ≡ w ++ 10 ∷ y → (v ≡ w) × (x ≡ y)
first-unique v w x y g h same =
    let cuts = sym (cut-feed v x g) ∙ ap (cut 10) same ∙ cut-feed w y h in
    (ap (λ (p : List ℕ × List ℕ). p.0) cuts, ap (λ (p : List ℕ × List ℕ). p.1) cuts)

-- the digit in the first line
abbrev digit : List ℕ → ℕ
digit text = get_or text 14 0

-- a text begins with the first line of one format
pub version-unique : (v w : Version) (x y : List ℕ) → first_line v ++ x ≡ first_line w ++ y → v ≡ w
version-unique One One x y e = refl
version-unique One Two x y e = absurd (let h : 49 ≡ 50 = ap digit e in omega (arith, h))
version-unique Two One x y e = absurd (let h : 50 ≡ 49 = ap digit e in omega (arith, h))
version-unique Two Two x y e = refl

pub record OneHead (v w : Version) (s s' r r' : List ℕ) : Type 0 where
  pub version : v ≡ w
  pub set_text : s ≡ s'
  pub rest : r ≡ r'

pub head-unique : (v w : Version) (bytes s r s' r' : List ℕ) → HasHead v bytes s r → HasHead w bytes s' r' → OneHead v w s s' r r'
head-unique v w bytes s r s' r' g h =
    let version : v ≡ w = version-unique v w (codes "set " ++ (s ++ 10 ∷ r)) (codes "set " ++ (s' ++ 10 ∷ r')) (sym g.bytes_are ∙ h.bytes_are) in
    let same : bytes ≡ first_line v ++ (codes "set " ++ (s' ++ 10 ∷ r')) = subst (λ (u : Version). bytes ≡ first_line u ++ (codes "set " ++ (s' ++ 10 ∷ r'))) (sym version) h.bytes_are in
    let second = append_cancel_left (first_line v) (codes "set " ++ (s ++ 10 ∷ r)) (codes "set " ++ (s' ++ 10 ∷ r')) (sym g.bytes_are ∙ same) in
    let parts = first-unique s s' r r' g.on_one_line h.on_one_line (append_cancel_left (codes "set ") (s ++ 10 ∷ r) (s' ++ 10 ∷ r') second) in
    record { version = version; set_text = parts.0; rest = parts.1 }

-- the lines of histories after the first two
abbrev pub lines_of : Version → Parts → List (List Entry) → List ℕ
lines_of v p hs = flat_map (line_text (known_of v p)) (lines_from p 0 hs)

-- the text of histories begins with the first line, and has this head
pub trace-begins : (v : Version) (p : Parts) (hs : List (List Entry)) → trace_text v p hs ≡ first_line v ++ (codes "set " ++ (canonical p ++ 10 ∷ lines_of v p hs))
unfolding trace_text
trace-begins v p hs =
    append_assoc (first_line v) (codes "set " ++ (canonical p ++ 10 ∷ [])) (lines_of v p hs)
    ∙ ap (λ (xs : List ℕ). first_line v ++ (codes "set " ++ xs)) (append_assoc (canonical p) (10 ∷ []) (lines_of v p hs))

pub trace-head : (v : Version) (p : Parts) (hs : List (List Entry)) → All (λ (c : ℕ). c ≢ 10) (canonical p) → HasHead v (trace_text v p hs) (canonical p) (lines_of v p hs)
trace-head v p hs one = record { bytes_are = trace-begins v p hs; on_one_line = one }

-- the same of a text with more behind it
head-longer : (first words set rest more : List ℕ) → (first ++ (words ++ (set ++ 10 ∷ rest))) ++ more ≡ first ++ (words ++ (set ++ 10 ∷ (rest ++ more)))
head-longer first words set rest more =
    append_assoc first (words ++ (set ++ 10 ∷ rest)) more
    ∙ ap (λ (xs : List ℕ). first ++ xs) (append_assoc words (set ++ 10 ∷ rest) more ∙ ap (λ (xs : List ℕ). words ++ xs) (append_assoc set (10 ∷ rest) more))

pub longer-begins : (v : Version) (p : Parts) (hs : List (List Entry)) (more text : List ℕ) → text ≡ trace_text v p hs ++ more → text ≡ first_line v ++ (codes "set " ++ (canonical p ++ 10 ∷ (lines_of v p hs ++ more)))
longer-begins v p hs more text is =
    is ∙ ap (λ (xs : List ℕ). xs ++ more) (trace-begins v p hs) ∙ head-longer (first_line v) (codes "set ") (canonical p) (lines_of v p hs) more

pub longer-head : (v : Version) (p : Parts) (hs : List (List Entry)) (more text : List ℕ) → text ≡ trace_text v p hs ++ more → All (λ (c : ℕ). c ≢ 10) (canonical p) → HasHead v text (canonical p) (lines_of v p hs ++ more)
longer-head v p hs more text is one = record { bytes_are = longer-begins v p hs more text is; on_one_line = one }
