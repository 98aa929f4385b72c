-- The lines of a text, and the second one of a trace.
use Rattle.std.proofs.Common.{◌≡◌, ◌≢◌, ℕ, suc, ◌==◌, Bool, true, false, List, [], ◌∷◌, ◌++◌, All, length, take, codes, refl, sym, ap, ◌∙◌, arith}
use Rattle.std.specs.Prelude.{Option, None, Some, MatchOption}
use Rattle.std.proofs.Math.Seq.{take-append_seam}
use Rattle.std.proofs.lemmas.Bool.Decides.{nat_tests}
use Rattle.std.proofs.lemmas.List.{append_cancel_left}
use Rattle.std.proofs.lemmas.List.Elements.{All-head, All-tail}
use Rattle.trace_lines.specs.declared.format.Version.{Version}
use Rattle.trace_read.specs.Reads.{HasHead}
use Rattle.trace_laws.proofs.Alike.{OnOneLine, head-lines, name_line, name_line-one, set_line, set_line-one}
use Rattle.trace_check.specs.LinesAlike.{behind_line}
use Rattle.explain_command.specs.Lines.{line_length}

no_feed : (x : ℕ) → x ≢ 10 → x == 10 ≡ false
no_feed x h = grind (arith, nat_tests)

pub behind-feed : (w x : List ℕ) → OnOneLine w → behind_line (w ++ 10 ∷ x) ≡ x
behind-feed [] x one = refl
behind-feed (c ∷ w) x one = rw (no_feed c (All-head (λ (c : ℕ). c ≢ 10) c w one)) (behind-feed w x (All-tail (λ (c : ℕ). c ≢ 10) c w one))

pub line_length-feed : (w x : List ℕ) → OnOneLine w → line_length (w ++ 10 ∷ x) ≡ length w
line_length-feed [] x one = refl
line_length-feed (c ∷ w) x one = rw (no_feed c (All-head (λ (c : ℕ). c ≢ 10) c w one)) (ap suc (line_length-feed w x (All-tail (λ (c : ℕ). c ≢ 10) c w one)))

-- what stands behind the first line of a trace
pub second-line : (v : Version) (bytes text rest : List ℕ) → HasHead v bytes text rest → behind_line bytes ≡ set_line text ++ 10 ∷ rest
second-line v bytes text rest head =
    ap behind_line (head-lines v bytes text rest head) ∙ behind-feed (name_line v) (set_line text ++ 10 ∷ rest) (name_line-one v)

-- the second line
pub set_line-cut : (v : Version) (bytes text rest : List ℕ) → HasHead v bytes text rest → take (line_length (behind_line bytes)) (behind_line bytes) ≡ set_line text
set_line-cut v bytes text rest head =
    ap (λ (xs : List ℕ). take (line_length xs) xs) (second-line v bytes text rest head)
    ∙ ap (λ (n : ℕ). take n (set_line text ++ 10 ∷ rest)) (line_length-feed (set_line text) rest (set_line-one text head.on_one_line))
    ∙ take-append_seam (set_line text) (10 ∷ rest)
