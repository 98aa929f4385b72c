-- What stands behind the first two lines of a trace.
use Rattle.std.proofs.Common.{◌≡◌, ℕ, ◌+◌, ◌-◌, ◌≤◌, List, [], ◌∷◌, ◌++◌, codes, drop, length, sym, ap, ◌∙◌, subst, arith, append_assoc, length-append}
use Rattle.std.proofs.Math.Seq.{drop-append-add}
use Rattle.trace_lines.specs.declared.format.Version.{Version}
use Rattle.trace_lines.specs.FirstLine.{first_line}
use Rattle.trace_read.specs.Reads.{HasHead}

head-parts : (v : Version) (bytes set_text rest : List ℕ) → HasHead v bytes set_text rest → bytes ≡ (first_line v ++ (codes "set " ++ (set_text ++ 10 ∷ []))) ++ rest
head-parts v bytes set_text rest h =
    h.bytes_are ∙ ap (λ (xs : List ℕ). first_line v ++ (codes "set " ++ xs)) (sym (append_assoc set_text (10 ∷ []) rest))
    ∙ ap (λ (xs : List ℕ). first_line v ++ xs) (sym (append_assoc (codes "set ") (set_text ++ 10 ∷ []) rest))
    ∙ sym (append_assoc (first_line v) (codes "set " ++ (set_text ++ 10 ∷ [])) rest)

behind : (front rest : List ℕ) → drop (length (front ++ rest) - length rest) (front ++ rest) ≡ rest
behind front rest =
    let number : length (front ++ rest) - length rest ≡ length front + 0 = omega (arith, length-append front rest) in
    ap (λ (n : ℕ). drop n (front ++ rest)) number ∙ drop-append-add front rest 0

-- what is left of the bytes
pub head-behind : (v : Version) (bytes set_text rest : List ℕ) → HasHead v bytes set_text rest → drop (length bytes - length rest) bytes ≡ rest
head-behind v bytes set_text rest h =
    let front : List ℕ = first_line v ++ (codes "set " ++ (set_text ++ 10 ∷ [])) in
    let is : bytes ≡ front ++ rest = head-parts v bytes set_text rest h in
    ap (λ (xs : List ℕ). drop (length xs - length rest) xs) is ∙ behind front rest

pub head-longer : (v : Version) (bytes set_text rest : List ℕ) → HasHead v bytes set_text rest → length rest ≤ length bytes
head-longer v bytes set_text rest h =
    let front : List ℕ = first_line v ++ (codes "set " ++ (set_text ++ 10 ∷ [])) in
    omega (arith, ap length (head-parts v bytes set_text rest h), length-append front rest)
