-- A line that begins with a digit is an entry's.
use Rattle.std.proofs.Common.{◌≡◌, ℕ, ◌==◌, Bool, true, false, List, [], ◌∷◌, refl, ap, sym, ◌∙◌, eqb-true}
use Rattle.std.specs.Char.{is_ascii_digit}
use Rattle.trace_lines.specs.Known.{Known}
use Rattle.trace_lines.specs.Words.{Word}
use Rattle.trace_read.specs.Reading.{cut, front, begins_with_digit, entry_line_in, line_after, line_in}
use Rattle.trace_read.proofs.WordLaws.{front-cons, cut-later}

-- a digit is none of the other characters
no_digit : (n c : ℕ) → is_ascii_digit n ≡ false → is_ascii_digit c ≡ true → c == n ≡ false
no_digit n c other digit = by_case (c == n) refl
  where
    by_case : (b : Bool) → c == n ≡ b → b ≡ false
    by_case true e = let same : c ≡ n = eqb-true c n e in let clash : true ≡ false = sym digit ∙ ap is_ascii_digit same ∙ other in cc
    by_case false e = refl

by_word : (k : Known) (c : ℕ) (w : Word) (text rest : List ℕ) → is_ascii_digit c ≡ true → line_after k (c ∷ w) text rest ≡ entry_line_in k text
by_word k c w text rest h = rw (no_digit 103 c refl h, no_digit 98 c refl h, no_digit 101 c refl h, no_digit 99 c refl h) refl

cut_digit : (c : ℕ) (cs : List ℕ) → is_ascii_digit c ≡ true → cut 32 (front (c ∷ cs)) ≡ (c ∷ (cut 32 (front cs)).0, (cut 32 (front cs)).1)
cut_digit c cs h = ap (cut 32) (front-cons c cs (no_digit 10 c refl h)) ∙ cut-later 32 c (front cs) (no_digit 32 c refl h)

pub entry_by_digit : (k : Known) (text : List ℕ) → begins_with_digit text ≡ true → line_in k (front text) ≡ entry_line_in k (front text)
unfolding line_in
entry_by_digit k [] h = cc
entry_by_digit k (c ∷ cs) h =
    ap (λ (p : List ℕ × List ℕ). line_after k p.0 (front (c ∷ cs)) p.1) (cut_digit c cs h) ∙ by_word k c (cut 32 (front cs)).0 (front (c ∷ cs)) (cut 32 (front cs)).1 h
