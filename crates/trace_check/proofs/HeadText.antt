-- A text that begins with the first two lines of a canonical set.
use Rattle.std.proofs.Common.{◌≡◌, ℕ, Bool, true, List, [], ◌∷◌, ◌++◌, codes, sym, ap, ◌∙◌, subst, append_assoc, eqb, length, drop, take, ◌-◌}
use Rattle.std.specs.Prelude.{◌↔◌}
use Rattle.std.specs.List.{starts_with}
use Rattle.std.proofs.lemmas.Slice.Eq.{starts_is}
use Rattle.std.proofs.lemmas.Bool.Decides.{Decides-eqb}
use Rattle.rt_task.specs.declared.Parts.{Parts}
use Rattle.rt_task.specs.Validity.{IsValid}
use Rattle.set_canonical.specs.Canonical.{canonical}
use Rattle.trace_lines.specs.FirstLine.{first_line}
use Rattle.trace_lines.specs.declared.format.Version.{Version}
use Rattle.trace_read.specs.Reads.{HasHead, IsHeadOf}
use Rattle.trace_read.specs.declared.head.TraceHead.{TraceHead}
use Rattle.trace_laws.proofs.Heads.{head-unique}
use Rattle.trace_laws.proofs.OneLine.{canonical-one_line}
use Rattle.trace_text.specs.TraceText.{head_text}
use Rattle.trace_check.proofs.TextPositions.{rest-of}

pub has-head : (v : Version) (p : Parts) (bytes head : List ℕ) (b : Bool) → head ≡ head_text v p → b ≡ starts_with eqb bytes head
    → (b ≡ true) ↔ ((rest : List ℕ) × (bytes ≡ head_text v p ++ rest))
has-head v p bytes head b is told =
    let s = starts_is Decides-eqb bytes head b told in
    (λ yes. (drop (length head) bytes, s.0 yes ∙ ap (λ (h : List ℕ). h ++ drop (length head) bytes) is), λ has. s.1 has.0 (has.1 ∙ ap (λ (h : List ℕ). h ++ has.0) (sym is)))

-- the two lines, and what stands after them
pub head-text : (v : Version) (p : Parts) (rest : List ℕ) → head_text v p ++ rest ≡ first_line v ++ (codes "set " ++ (canonical p ++ 10 ∷ rest))
head-text v p rest =
    append_assoc (first_line v) (codes "set " ++ (canonical p ++ 10 ∷ [])) rest
    ∙ ap (λ (xs : List ℕ). first_line v ++ (codes "set " ++ xs)) (append_assoc (canonical p) (10 ∷ []) rest)

pub canonical-said : (v : Version) (p : Parts) (bytes set_text rest more : List ℕ) → IsValid p → HasHead v bytes set_text rest → bytes ≡ head_text v p ++ more → set_text ≡ canonical p
canonical-said v p bytes set_text rest more valid head is =
    let other : HasHead v bytes (canonical p) more = record { bytes_are = is ∙ head-text v p more; on_one_line = canonical-one_line p valid } in
    (head-unique v v bytes set_text rest (canonical p) more head other).set_text

pub canonical-begins : (v : Version) (p : Parts) (bytes set_text rest : List ℕ) → HasHead v bytes set_text rest → set_text ≡ canonical p → bytes ≡ head_text v p ++ rest
canonical-begins v p bytes set_text rest head is =
    head.bytes_are ∙ ap (λ (s : List ℕ). first_line v ++ (codes "set " ++ (s ++ 10 ∷ rest))) is ∙ sym (head-text v p rest)

-- a head that was read of a text which begins with the lines of its set has the canonical set, and the text goes on behind it
pub canonical-head : (bytes : List ℕ) (h : TraceHead) (p : Parts) → IsHeadOf bytes h → IsValid h.setup → p ≡ h.setup → (more : List ℕ) × (bytes ≡ head_text h.version p ++ more)
    → HasHead h.version bytes (canonical h.setup) (take (length bytes - h.length) (drop h.length bytes))
canonical-head bytes h p r valid same begins =
    let said = canonical-said h.version h.setup bytes r.set_text (drop h.length bytes) begins.0 valid r.head (begins.1 ∙ ap (λ (q : Parts). head_text h.version q ++ begins.0) same) in
    subst (HasHead h.version bytes (canonical h.setup)) (sym (rest-of h.length bytes)) (subst (λ (s : List ℕ). HasHead h.version bytes s (drop h.length bytes)) said r.head)
