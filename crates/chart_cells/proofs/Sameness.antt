-- The test of equal cells of tasks decides.
use Rattle.std.proofs.Common.{◌≡◌, ℕ, Bool, true, false, List, [], ◌∷◌, ◌≢◌, ◌∙◌, ◌<◌, ◌≤◌, ◌+◌, ◌++◌, length, map, take, get_or, refl, sym, ap, subst, arith}
use Rattle.std.specs.Prelude.{◌==◌, not}
use Rattle.std.proofs.lemmas.Bool.Decides.{nat_tests}
use Rattle.std.proofs.lemmas.List.{get_or-map, length-map, map-append, take_all, take_more}
use Rattle.rt_rules.proofs.BoolLaws.{both, clash, not_false, not_true, unless}
use Rattle.rt_rules.proofs.MemberLaws.{equal_self}
use Rattle.trace_views.specs.Cells.{Doing, TaskCell}
use Rattle.trace_views.specs.Cells as cells
use Rattle.event_texts.specs.TaskSpans.{same_cell, same_doing, same_numbers, same_truth}

pub equal : (x y : ℕ) → x == y ≡ true → x ≡ y
equal x y h = grind (arith, nat_tests)

numbers-tell : (xs ys : List ℕ) → same_numbers xs ys ≡ true → xs ≡ ys
numbers-tell [] [] h = refl
numbers-tell [] (y ∷ ys) h = cc
numbers-tell (x ∷ xs) [] h = cc
numbers-tell (x ∷ xs) (y ∷ ys) h = let two = both (x == y) (same_numbers xs ys) h in λ i. equal x y two.0 i ∷ numbers-tell xs ys two.1 i

numbers-know : (xs : List ℕ) → same_numbers xs xs ≡ true
numbers-know [] = refl
numbers-know (x ∷ xs) = rw (equal_self x, numbers-know xs) refl

-- as they are found to be the same, or not
module _ {A : Type 0} (number : A → ℕ) (xs ys : List A) where
  pub lengths-differ : length xs ≢ length ys → false ≡ same_numbers (map number xs) (map number ys)
  lengths-differ differ =
      sym (unless (same_numbers (map number xs) (map number ys)) (λ h. differ (sym (length-map xs number) ∙ ap length (numbers-tell (map number xs) (map number ys) h) ∙ length-map ys number)))

  module _ (long : length xs ≡ length ys) (i : ℕ) where
    pub items-differ : (d : A) → i < length xs → not (number (get_or xs i d) == number (get_or ys i d)) ≡ true → false ≡ same_numbers (map number xs) (map number ys)
    items-differ d low differ = sym (unless (same_numbers (map number xs) (map number ys)) (λ h. no (there h)))
      where
        there : same_numbers (map number xs) (map number ys) ≡ true → number (get_or xs i d) ≡ number (get_or ys i d)
        there h =
            let low_too : i < length ys = omega arith in
            sym (get_or-map number xs i d 0 low) ∙ ap (λ zs. get_or zs i 0) (numbers-tell (map number xs) (map number ys) h) ∙ get_or-map number ys i d 0 low_too

        no : number (get_or xs i d) ≡ number (get_or ys i d) → ⊥
        no e = let same : number (get_or xs i d) == number (get_or ys i d) ≡ true = ap (λ n. number (get_or xs i d) == n) (sym e) ∙ equal_self (number (get_or xs i d)) in clash _ same (not_true _ differ)

    pub items-more : (d : A) → i < length xs → map number (take i xs) ≡ map number (take i ys) → not (number (get_or xs i d) == number (get_or ys i d)) ≡ false → map number (take (i + 1) xs) ≡ map number (take (i + 1) ys)
    items-more d low before same =
        let low_too : i < length ys = omega arith in
        next xs low ∙ (λ j. before j ++ equal (number (get_or xs i d)) (number (get_or ys i d)) (not_false _ same) j ∷ []) ∙ sym (next ys low_too)
      where
        next : (zs : List A) → i < length zs → map number (take (i + 1) zs) ≡ map number (take i zs) ++ number (get_or zs i d) ∷ []
        next zs inside = ap (map number) (take_more zs i d inside) ∙ map-append number (take i zs) (get_or zs i d ∷ [])

    pub items-same : length xs ≤ i → map number (take i xs) ≡ map number (take i ys) → true ≡ same_numbers (map number xs) (map number ys)
    items-same all same =
        let all_too : length ys ≤ i = omega arith in
        let is = ap (map number) (sym (take_all i xs all)) ∙ same ∙ ap (map number) (take_all i ys all_too) in
        sym (subst (λ zs. same_numbers (map number xs) zs ≡ true) is (numbers-know (map number xs)))

truth-tells : (a b : Bool) → same_truth a b ≡ true → a ≡ b
truth-tells true b h = sym h
truth-tells false true h = cc
truth-tells false false h = refl

truth-knows : (a : Bool) → same_truth a a ≡ true
truth-knows true = refl
truth-knows false = refl

doing-tells : (x y : Doing) → same_doing x y ≡ true → x ≡ y
doing-tells (cells.works qs) (cells.works rs) h = ap cells.works (numbers-tell qs rs h)
doing-tells (cells.blocked s) (cells.blocked r) h = ap cells.blocked (equal s r h)
doing-tells (cells.waits s) (cells.waits r) h = ap cells.waits (equal s r h)
doing-tells cells.sleeping cells.sleeping h = refl
doing-tells (cells.running qs) (cells.running rs) h = ap cells.running (numbers-tell qs rs h)
doing-tells cells.ready cells.ready h = refl
doing-tells cells.away cells.away h = refl
doing-tells x y h = cc

doing-knows : (x : Doing) → same_doing x x ≡ true
doing-knows (cells.works qs) = numbers-know qs
doing-knows (cells.blocked s) = equal_self s
doing-knows (cells.waits s) = equal_self s
doing-knows cells.sleeping = refl
doing-knows (cells.running qs) = numbers-know qs
doing-knows cells.ready = refl
doing-knows cells.away = refl

pub cell-tells : (x y : TaskCell) → same_cell x y ≡ true → x ≡ y
cell-tells x y h =
    let a = both (same_doing x.doing y.doing) _ h in
    let b = both (x.job == y.job) _ a.1 in
    let c = both (same_numbers x.held y.held) _ b.1 in
    let d = both (same_truth x.non_preemptive y.non_preemptive) _ c.1 in
    λ i. record {
      doing = doing-tells x.doing y.doing a.0 i;
      job = equal x.job y.job b.0 i;
      held = numbers-tell x.held y.held c.0 i;
      non_preemptive = truth-tells x.non_preemptive y.non_preemptive d.0 i;
      raised = truth-tells x.raised y.raised d.1 i;
    }

pub cell-knows : (x : TaskCell) → same_cell x x ≡ true
cell-knows x = rw (doing-knows x.doing, equal_self x.job, numbers-know x.held, truth-knows x.non_preemptive, truth-knows x.raised) refl
