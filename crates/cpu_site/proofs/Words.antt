-- The interrupt word that a processor took last, as its list grows.
use Rattle.std.proofs.Common.{◌≡◌, ◌≢◌, ℕ, ◌+◌, ◌≤◌, Bool, true, false, List, [], ◌∷◌, ◌++◌, length, take, refl, sym, ap, ◌∙◌, arith, append_assoc, append-nil, length-append, take_all}
use Rattle.std.specs.Prelude.{◌==◌, ◌&&◌, if◌then◌else◌, map}
use Rattle.std.proofs.lemmas.Bool.Decides.{nat_tests}
use Rattle.std.proofs.lemmas.List.{take-append-le}
use Rattle.rt_task.specs.declared.Step.{Step}
use Rattle.rt_rules.specs.declared.history.Entry.{Entry}
use Rattle.rt_model.specs.Group.{Group}
use Rattle.rt_model.specs.Histories.{raises}
use Rattle.rt_plays.specs.Scripts.{script, steps_of}
use Rattle.turn_cell.specs.Words.{entries_of}
use Rattle.turn_cell.proofs.Tools.{entries-append}
use Rattle.cpu_site.specs.Seats.{cpu_of, is_irq, last_irq_from, last_irq, through_irq, word_taken}

last_irq_from-append : (q n m : ℕ) (es : List Entry) (e : Entry) → last_irq_from q n m (es ++ e ∷ []) ≡ (if (cpu_of e == q) && is_irq e.step.act then n + length es + 1 else last_irq_from q n m es)
last_irq_from-append q n m [] e = by_case ((cpu_of e == q) && is_irq e.step.act)
  where
    by_case : (b : Bool) → (if b then n + 1 else m) ≡ (if b then n + 0 + 1 else m)
    by_case true = omega arith
    by_case false = refl
last_irq_from-append q n m (x ∷ es) e = last_irq_from-append q (n + 1) (if (cpu_of x == q) && is_irq x.step.act then n + 1 else m) es e ∙ by_case ((cpu_of e == q) && is_irq e.step.act) (last_irq_from q (n + 1) (if (cpu_of x == q) && is_irq x.step.act then n + 1 else m) es)
  where
    by_case : (b : Bool) (k : ℕ) → (if b then n + 1 + length es + 1 else k) ≡ (if b then n + length (x ∷ es) + 1 else k)
    by_case true k = omega arith
    by_case false k = refl

last_irq_from-le : (q n m : ℕ) (es : List Entry) → m ≤ n → last_irq_from q n m es ≤ n + length es
last_irq_from-le q n m [] low = omega (arith, low)
last_irq_from-le q n m (x ∷ es) low = let h = last_irq_from-le q (n + 1) (if (cpu_of x == q) && is_irq x.step.act then n + 1 else m) es (choice ((cpu_of x == q) && is_irq x.step.act)) in omega (arith, h)
  where
    choice : (b : Bool) → (if b then n + 1 else m) ≤ n + 1
    choice true = omega arith
    choice false = omega (arith, low)

through-same : (q : ℕ) (es : List Entry) (e : Entry) → last_irq q (es ++ e ∷ []) ≡ last_irq q es → through_irq q (es ++ e ∷ []) ≡ through_irq q es
through-same q es e is = ap (λ n. take n (es ++ e ∷ [])) is ∙ take-append-le (last_irq q es) es (e ∷ []) (let h = last_irq_from-le q 0 0 es (omega arith) in omega (arith, h))

through-other : (q : ℕ) (es : List Entry) (e : Entry) → cpu_of e ≢ q → through_irq q (es ++ e ∷ []) ≡ through_irq q es
through-other q es e other =
    let no : (cpu_of e == q) ≡ false = grind (arith, nat_tests, other) in
    through-same q es e (last_irq_from-append q 0 0 es e ∙ ap (λ b. if b && is_irq e.step.act then 0 + length es + 1 else last_irq q es) no)

-- its own entry: an interrupt takes the word
pub word-own : (g : Group) (q : ℕ) (es : List Entry) (e : Entry) → cpu_of e ≡ q → word_taken g q (es ++ e ∷ []) ≡ (if is_irq e.step.act then raises g q (es ++ e ∷ []) else word_taken g q es)
word-own g q es e own = by_case (is_irq e.step.act) refl
  where
    yes : (cpu_of e == q) ≡ true
    yes = grind (arith, nat_tests, own)

    by_case : (b : Bool) → is_irq e.step.act ≡ b → word_taken g q (es ++ e ∷ []) ≡ (if b then raises g q (es ++ e ∷ []) else word_taken g q es)
    by_case true is =
        let at : last_irq q (es ++ e ∷ []) ≡ 0 + length es + 1 = last_irq_from-append q 0 0 es e ∙ ap (λ b. if b && is_irq e.step.act then 0 + length es + 1 else last_irq q es) yes ∙ ap (λ b. if b then 0 + length es + 1 else last_irq q es) is in
        ap (λ (xs : List Entry). raises g q xs) (take_all (last_irq q (es ++ e ∷ [])) (es ++ e ∷ []) (omega (arith, at, length-append es (e ∷ []))))
    by_case false is =
        ap (λ (xs : List Entry). raises g q xs) (through-same q es e (last_irq_from-append q 0 0 es e ∙ ap (λ b. if b && is_irq e.step.act then 0 + length es + 1 else last_irq q es) yes ∙ ap (λ b. if b then 0 + length es + 1 else last_irq q es) is))

pub no-more : {A : Type 0} (xs ys : List A) → xs ++ ys ≡ xs → ys ≡ []
no-more xs [] is = refl
no-more xs (y ∷ ys) is = let long = length-append xs (y ∷ ys) in let same = ap length is in absurd (omega (arith, long, same))

pub none-of : (q : ℕ) (b : Entry) (bs : List Entry) → entries_of cpu_of q (b ∷ bs) ≡ [] → (cpu_of b ≢ q) × (entries_of cpu_of q bs ≡ [])
none-of q b bs none = by_case (cpu_of b == q) refl none
  where
    by_case : (t : Bool) → (cpu_of b == q) ≡ t → (if t then b ∷ entries_of cpu_of q bs else entries_of cpu_of q bs) ≡ [] → (cpu_of b ≢ q) × (entries_of cpu_of q bs ≡ [])
    by_case true is k = let long = ap length k in absurd (omega (arith, long))
    by_case false is k = (grind (arith, nat_tests, is), k)

through-others : (q : ℕ) (es bs : List Entry) → entries_of cpu_of q bs ≡ [] → through_irq q (es ++ bs) ≡ through_irq q es
through-others q es [] none = ap (through_irq q) (append-nil es)
through-others q es (b ∷ bs) none =
    let parts = none-of q b bs none in
    ap (through_irq q) (sym (append_assoc es (b ∷ []) bs)) ∙ through-others q (es ++ b ∷ []) bs parts.1 ∙ through-other q es b parts.0

-- entries of others leave it as it is
pub word-others : (g : Group) (q : ℕ) (es zs bs : List Entry) → zs ≡ es ++ bs → entries_of cpu_of q zs ≡ entries_of cpu_of q es → word_taken g q zs ≡ word_taken g q es
word-others g q es zs bs is same =
    let none : entries_of cpu_of q bs ≡ [] = no-more (entries_of cpu_of q es) (entries_of cpu_of q bs) (sym (entries-append cpu_of q es bs) ∙ ap (entries_of cpu_of q) (sym is) ∙ same) in
    ap (λ (xs : List Entry). raises g q xs) (ap (through_irq q) is ∙ through-others q es bs none)

-- the steps of a processor are those of its entries
pub script-of : (q : ℕ) (es : List Entry) → script (steps_of es) q ≡ map (λ (e : Entry). e.step) (entries_of cpu_of q es)
script-of q [] = refl
script-of q (e ∷ es) = by_case (cpu_of e == q) (script-of q es)
  where
    by_case : (b : Bool) → script (steps_of es) q ≡ map (λ (x : Entry). x.step) (entries_of cpu_of q es) → (if b then e.step ∷ script (steps_of es) q else script (steps_of es) q) ≡ map (λ (x : Entry). x.step) (if b then e ∷ entries_of cpu_of q es else entries_of cpu_of q es)
    by_case true rest = ap (λ (ss : List Step). e.step ∷ ss) rest
    by_case false rest = rest
