-- Laws of the first element that breaks a rule.
use Rattle.std.proofs.Common.{◌≡◌, ℕ, zero, suc, ◌+◌, ◌==◌, ◌<◌, List, [], ◌∷◌, ◌++◌, Bool, true, false, ◌||◌, cond, length, take, drop, get_or, Option, Some, None, refl, ap, sym, subst, length-take, ◌∙◌, arith, add-one, drop-cons}
use Rattle.std.proofs.lemmas.List.{take_more}
use Rattle.std.proofs.lemmas.Bool.Decides.{nat_tests}
use Rattle.std.specs.Prelude.{option_map}
use Rattle.rt_task.specs.declared.bad_set.SetKind.{SetKind}
use Rattle.rt_task.specs.declared.bad_set.SetStop.{SetStop}
use Rattle.rt_task.specs.declared.bad_set.Part.{Part}
use Rattle.rt_task.specs.Answers.{StopsAt}
use Rattle.rt_task.specs.declared.bad_set.BadSet.{BadSet}
use Rattle.rt_task.specs.Refusals.{bad, each, first, first_failing}
use Rattle.rt_task.specs.RuleWords.{is_empty}

pub first_failing-next : {A : Type 0} (rule : List A → A → Bool) (xs : List A) (i : ℕ) (d : A) → i < length xs → rule (take i xs) (get_or xs i d) ≡ true
    → first_failing rule (take (i + 1) xs) (drop (i + 1) xs) ≡ first_failing rule (take i xs) (drop i xs)
first_failing-next rule xs i d lt ok =
    let x = get_or xs i d in
    let rest = drop (i + 1) xs in
    let split : drop i xs ≡ x ∷ rest = rw add-one (drop-cons xs i d lt) in
    ap (λ e. first_failing rule e rest) (take_more xs i d lt)
    ∙ ap (λ b. cond b (first_failing rule (take i xs ++ x ∷ []) rest) (Some (length (take i xs)))) (sym ok)
    ∙ ap (first_failing rule (take i xs)) (sym split)

pub is_empty-take : {A : Type 0} (xs : List A) (i : ℕ) → i < length xs → (i == 0) ≡ is_empty (take i xs)
is_empty-take [] i lt = absurd (omega arith)
is_empty-take (x ∷ xs) zero lt = refl
is_empty-take (x ∷ xs) (suc i) lt = grind (arith, nat_tests)

pub if-true : (a b : Bool) → cond a true b ≡ (a || b)
if-true true b = refl
if-true false b = refl

-- x stands at i and passes
pub first_failing-passes : {A : Type 0} (rule : List A → A → Bool) (xs : List A) (i : ℕ) (x : A) → i < length xs → x ≡ get_or xs i x → rule (take i xs) x ≡ true
    → first_failing rule (take (i + 1) xs) (drop (i + 1) xs) ≡ first_failing rule (take i xs) (drop i xs)
first_failing-passes rule xs i x lt at ok = first_failing-next rule xs i x lt (ap (rule (take i xs)) (sym at) ∙ ok)

-- x stands at i and fails
pub first_failing-fails : {A : Type 0} (rule : List A → A → Bool) (xs : List A) (i : ℕ) (x : A) → i < length xs → x ≡ get_or xs i x → rule (take i xs) x ≡ false
    → first_failing rule (take i xs) (drop i xs) ≡ Some i
first_failing-fails rule xs i x lt at bad =
    let split : drop i xs ≡ get_or xs i x ∷ drop (i + 1) xs = rw add-one (drop-cons xs i x lt) in
    let count : length (take i xs) ≡ i = (let e = length-take i xs in omega arith) in
    ap (first_failing rule (take i xs)) split
    ∙ ap (λ b. cond b (first_failing rule (take i xs ++ get_or xs i x ∷ []) (drop (i + 1) xs)) (Some (length (take i xs)))) (ap (rule (take i xs)) (sym at) ∙ bad)
    ∙ ap Some count

-- the refusal at the first element that fails is the row's
pub each-stops : {A : Type 0} (stop : SetStop) (kind : SetKind) (part : Part) (rule : List A → A → Bool) (xs ys : List A) (i : ℕ) (x : A) → StopsAt stop (Some (bad kind part i)) → xs ≡ ys → i < length xs → x ≡ get_or xs i x → rule (take i xs) x ≡ false
    → first_failing rule (take i xs) (drop i xs) ≡ first_failing rule [] xs → StopsAt stop (each kind part rule ys)
each-stops stop kind part rule xs ys i x stopped same lt at bad_one rest =
    let is : each kind part rule xs ≡ Some (bad kind part i) = ap (option_map (bad kind part)) (sym rest ∙ first_failing-fails rule xs i x lt at bad_one) in
    subst (λ zs. StopsAt stop (each kind part rule zs)) same (subst (StopsAt stop) (sym is) stopped)

-- a rule that is the same for all elements
pub first_failing-holds : {A : Type 0} (rule : List A → A → Bool) (earlier xs : List A) → ((e : List A) (x : A) → rule e x ≡ true) → first_failing rule earlier xs ≡ None
first_failing-holds rule earlier [] h = refl
first_failing-holds rule earlier (x ∷ xs) h = ap (λ b. cond b (first_failing rule (earlier ++ x ∷ []) xs) (Some (length earlier))) (h earlier x) ∙ first_failing-holds rule (earlier ++ x ∷ []) xs h

pub each-holds : {A : Type 0} (kind : SetKind) (part : Part) (rule : List A → A → Bool) (xs : List A) → ((e : List A) (x : A) → true ≡ rule e x) → each kind part rule xs ≡ None
each-holds kind part rule xs h = ap (option_map (bad kind part)) (first_failing-holds rule [] xs (λ e x. sym (h e x)))

pub each-none : {A : Type 0} (kind : SetKind) (part : Part) (rule : List A → A → Bool) (xs : List A) → length xs ≡ 0 → each kind part rule xs ≡ None
each-none kind part rule [] h = refl
each-none kind part rule (x ∷ xs) h = absurd (omega arith)

pub each-fails : {A : Type 0} (kind : SetKind) (part : Part) (rule : List A → A → Bool) (xs : List A) → 0 < length xs → ((e : List A) (x : A) → false ≡ rule e x) → each kind part rule xs ≡ Some (bad kind part 0)
each-fails kind part rule [] lt h = absurd (omega arith)
each-fails kind part rule (x ∷ xs) lt h = ap (λ b. option_map (bad kind part) (cond b (first_failing rule (x ∷ []) xs) (Some 0))) (sym (h [] x))

-- where none is refused, each passes; the rule does not look at the elements before
pub passes-at : {A : Type 0} (rule : List A → A → Bool) (p : A → Bool) → ((e : List A) (x : A) → rule e x ≡ p x) → (earlier xs : List A) (i : ℕ) (d : A)
    → first_failing rule earlier xs ≡ None → i < length xs → p (get_or xs i d) ≡ true
passes-at rule p same earlier [] i d none lt = absurd (omega arith)
passes-at rule p same earlier (x ∷ xs) i d none lt =
    by (rule earlier x) refl none (λ j. passes-at rule p same (earlier ++ x ∷ []) xs j d) i lt
  where
    by : (b : Bool) → rule earlier x ≡ b → cond b (first_failing rule (earlier ++ x ∷ []) xs) (Some (length earlier)) ≡ None
        → ((j : ℕ) → first_failing rule (earlier ++ x ∷ []) xs ≡ None → j < length xs → p (get_or xs j d) ≡ true)
        → (i : ℕ) → i < length (x ∷ xs) → p (get_or (x ∷ xs) i d) ≡ true
    by true e none rest zero lt = sym (same earlier x) ∙ e
    by true e none rest (suc j) lt = rest j none (omega arith)
    by false e none rest i lt = cc

pub each-passes : {A : Type 0} (kind : SetKind) (part : Part) (rule : List A → A → Bool) (p : A → Bool) → ((e : List A) (x : A) → rule e x ≡ p x) → (xs : List A) (i : ℕ) (d : A)
    → each kind part rule xs ≡ None → i < length xs → p (get_or xs i d) ≡ true
each-passes kind part rule p same xs i d none lt = passes-at rule p same [] xs i d (by (first_failing rule [] xs) none) lt
  where
    by : (o : Option ℕ) → option_map (bad kind part) o ≡ None → o ≡ None
    by None e = refl
    by (Some n) e = cc

-- where none of several refuses, the third does not
pub third-none : (a b c : Option BadSet) (rest : List (Option BadSet)) → first (a ∷ b ∷ c ∷ rest) ≡ None → c ≡ None
third-none None None None rest h = refl
third-none None None (Some c) rest h = cc
third-none None (Some b) c rest h = cc
third-none (Some a) b c rest h = cc
