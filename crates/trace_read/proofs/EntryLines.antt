-- The line of an entry begins with a digit, and says the entry behind its first word.
use Rattle.std.proofs.Common.{◌≡◌, ℕ, ◌+◌, ◌<◌, ◌≤◌, ◌^◌, ◌%◌, true, List, [], ◌∷◌, ◌++◌, length, map, Some, decimal, refl, sym, ap, ◌∙◌, subst, arith, append_assoc}
use Rattle.std.proofs.lemmas.Bool.Decides.{nat_tests}
use Rattle.std.proofs.lemmas.Fmt.{decimal_by_steps}
use Rattle.rt_rules.specs.declared.history.Entry.{Entry}
use Rattle.trace_lines.specs.Words.{Word, join}
use Rattle.trace_lines.specs.Grammar.{act_words, link_word, line_text, line_words, reply_words}
use Rattle.trace_lines.specs.Known.{Known, IsEntryLine, IsLine}
use Rattle.trace_lines.specs.Lines.{Link, entry_line}
use Rattle.trace_read.specs.Reading.{begins_with_digit, behind, entry_said, front}
use Rattle.trace_read.specs.Seen.{Tells}
use Rattle.trace_read.proofs.EachLaws.{length-cut}
use Rattle.trace_read.proofs.LineLaws.{entry_at-join, fits_64}
use Rattle.trace_read.proofs.ReadLaws.{front_is}
use Rattle.trace_read.proofs.WordLaws.{cut-join, decimal-plain}

-- a number begins with a digit, whatever stands behind it
number-digit : (n : ℕ) → n < 2 ^ 64 → (xs : List ℕ) → begins_with_digit (decimal n ++ xs) ≡ true
number-digit n fits = decimal_by_steps (λ m ds. (xs : List ℕ) → begins_with_digit (ds ++ xs) ≡ true) one more n fits
  where
    one : (m : ℕ) → m < 10 → (xs : List ℕ) → begins_with_digit (((48 + m) ∷ []) ++ xs) ≡ true
    one m h xs = grind (arith, nat_tests)

    more : (m : ℕ) (ds : List ℕ) → 10 ≤ m → ((xs : List ℕ) → begins_with_digit (ds ++ xs) ≡ true) → (xs : List ℕ) → begins_with_digit ((ds ++ ((48 + m % 10) ∷ [])) ++ xs) ≡ true
    more m ds h k xs = ap begins_with_digit (append_assoc ds ((48 + m % 10) ∷ []) xs) ∙ k ((48 + m % 10) ∷ xs)

pub entry-digit : (k : Known) (i : ℕ) (e : Entry) (links : List Link) (more : List ℕ) → IsLine k (entry_line i e links) → begins_with_digit (line_text k (entry_line i e links) ++ more) ≡ true
unfolding line_text line_words
entry-digit k i e links more known = ap begins_with_digit (shape (decimal i) _ more) ∙ number-digit i (fits_64 i known.number) _
  where
    shape : (w rest more : List ℕ) → ((w ++ 32 ∷ rest) ++ 10 ∷ []) ++ more ≡ w ++ (32 ∷ rest ++ 10 ∷ more)
    shape w rest more = append_assoc (w ++ 32 ∷ rest) (10 ∷ []) more ∙ append_assoc w (32 ∷ rest) (10 ∷ more)

-- such a text has a line, behind which it is shorter
pub digit-shorter : (text rest : List ℕ) → begins_with_digit text ≡ true → rest ≡ behind text → length rest < length text
digit-shorter [] rest h e = cc
digit-shorter (x ∷ xs) rest h e = subst (λ (ys : List ℕ). length ys < length (x ∷ xs)) (sym e) (length-cut 10 (x ∷ xs) (omega arith))

said-body : (k : Known) (i : ℕ) (e : Entry) (links : List Link) → Tells k → IsEntryLine k i e.step.tick.0 e.step.cpu.0 e.step.act e.reply links
    → entry_said k (join 32 (decimal i ∷ decimal e.step.tick.0 ∷ decimal e.step.cpu.0 ∷ (act_words k e.step.act ++ (reply_words k e.reply ++ map (link_word k) links)))) ≡ Some e
said-body k i e links tell h =
    let ws : List Word = act_words k e.step.act ++ (reply_words k e.reply ++ map (link_word k) links) in
    let first = cut-join (decimal i) (decimal e.step.tick.0 ∷ decimal e.step.cpu.0 ∷ ws) (decimal-plain i (fits_64 i h.number)) in
    let entry = entry_at-join k i e links (map (link_word k) links) tell h in
    rw (first, entry) refl

pub entry-said : (k : Known) (i : ℕ) (e : Entry) (links : List Link) (text more : List ℕ) → Tells k → IsLine k (entry_line i e links) → text ≡ line_text k (entry_line i e links) ++ more
    → entry_said k (front text) ≡ Some e
unfolding line_words
entry-said k i e links text more tell known is = ap (entry_said k) (front_is k text more (entry_line i e links) tell known is) ∙ said-body k i e links tell known
