-- A value for each word of a text, one word after another.
use Rattle.std.proofs.Common.{◌≡◌, ℕ, ◌+◌, ◌<◌, ◌==◌, Bool, true, false, List, [], ◌∷◌, ◌++◌, length, Option, Some, None, refl, sym, ap, ◌∙◌, subst, arith, append_assoc}
use Rattle.std.specs.Prelude.{option_map, if◌then◌else◌}
use Rattle.trace_lines.specs.Words.{Word}
use Rattle.trace_read.specs.Reading.{cut, pieces, each_in}
use Rattle.trace_read.proofs.WordLaws.{pieces-cut}

shorter_step : (c x : ℕ) (xs : List ℕ) (b : Bool) → length (cut c xs).1 < length xs + 1 → length (if◌then◌else◌ {A = List ℕ × List ℕ} b ([], xs) (x ∷ (cut c xs).0, (cut c xs).1)).1 < length (x ∷ xs)
shorter_step c x xs true h = omega arith
shorter_step c x xs false h = omega arith

shorter : (c : ℕ) (xs : List ℕ) → length (cut c xs).1 < length xs + 1
shorter c [] = omega arith
shorter c (x ∷ xs) = let h : length (cut c (x ∷ xs)).1 < length (x ∷ xs) = shorter_step c x xs (x == c) (shorter c xs) in omega arith

pub length-cut : (c : ℕ) (text : List ℕ) → 0 < length text → length (cut c text).1 < length text
length-cut c [] h = absurd (omega arith)
length-cut c (x ∷ xs) h = shorter_step c x xs (x == c) (shorter c xs)

-- what is left after a cut is shorter
pub length_left : (c : ℕ) (text word left : List ℕ) → 0 < length text → (word, left) ≡ cut c text → length left < length text
length_left c text word left h e = subst (λ (p : List ℕ × List ℕ). length p.1 < length text) (sym e) (length-cut c text h)

pieces-parts : (text word left : List ℕ) → 0 < length text → (word, left) ≡ cut 32 text → pieces 32 text ≡ word ∷ pieces 32 left
pieces-parts text word left h e = pieces-cut 32 text h ∙ sym (ap (λ (p : List ℕ × List ℕ). p.0 ∷ pieces 32 p.1) e)

-- the first word has no value
pub each_in-none : {A : Type 0} (read : Word → Option A) (text word left : List ℕ) → 0 < length text → (word, left) ≡ cut 32 text → None ≡ read word → each_in read (pieces 32 text) ≡ None
each_in-none read text word left h e none = rw (pieces-parts text word left h e, sym none) refl

append-each : {A : Type 0} (got : List A) (x : A) (o : Option (List A)) → option_map (λ xs. (got ++ x ∷ []) ++ xs) o ≡ option_map (λ xs. got ++ xs) (option_map (λ xs. x ∷ xs) o)
append-each got x None = refl
append-each got x (Some xs) = ap Some (append_assoc got (x ∷ []) xs)

-- the first word has a value, which is put to those that came before
pub each_in-more : {A : Type 0} (read : Word → Option A) (text word left : List ℕ) (got more : List A) (x : A) → 0 < length text → (word, left) ≡ cut 32 text → Some x ≡ read word → more ≡ got ++ x ∷ []
    → option_map (λ xs. more ++ xs) (each_in read (pieces 32 left)) ≡ option_map (λ xs. got ++ xs) (each_in read (pieces 32 text))
each_in-more read text word left got more x h e is longer =
    rw (pieces-parts text word left h e, sym is, longer) (append-each got x (each_in read (pieces 32 left)))
