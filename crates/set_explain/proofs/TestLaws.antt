-- Rules that are broken, test by test and list by list.
use Rattle.std.proofs.Common.{◌≡◌, List, [], ◌∷◌, ◌++◌, Bool, true, false, Option, None, Some, Result, Ok, Err, map, refl, ap, ◌∙◌}
use Rattle.std.specs.Prelude.{OnOk}
use Rattle.set_explain.specs.Rules as rules
use Rattle.set_explain.specs.Rules.{broken, first_some, unless}
use Rattle.set_explain.specs.Shown.{shown}
use Rattle.set_explain.specs.declared.rule.Rule.{Rule}

-- what is said unless a test holds that is another one's
pub tested : (o : Option Rule) (holds wanted : Bool) (rule : rules.Rule) → shown o ≡ unless holds rule → holds ≡ wanted → shown o ≡ unless wanted rule
tested o holds wanted rule said same = said ∙ ap (λ b. unless b rule) same

infixr 5 ◌then◌
pub ◌then◌ : {A : Type 0} {x y : A} {xs ys : List A} → x ≡ y → xs ≡ ys → (x ∷ xs) ≡ (y ∷ ys)
◌then◌ {x = x} {ys = ys} e f = ap (λ zs. x ∷ zs) f ∙ ap (λ z. z ∷ ys) e

-- the first of two lists that breaks a rule says which
pub broken_append : (xs ys : List rules.Test) → broken (xs ++ ys) ≡ first_some (broken xs ∷ broken ys ∷ [])
broken_append [] ys = by_rest (broken ys)
  where
    by_rest : (o : Option rules.Rule) → o ≡ first_some (None ∷ o ∷ [])
    by_rest None = refl
    by_rest (Some r) = refl
broken_append (x ∷ xs) ys = by_test x.holds (broken_append xs ys)
  where
    by_test : (b : Bool) → broken (xs ++ ys) ≡ first_some (broken xs ∷ broken ys ∷ [])
        → first_some (unless b x.rule ∷ map (λ (t : rules.Test). unless t.holds t.rule) (xs ++ ys)) ≡ first_some (first_some (unless b x.rule ∷ map (λ (t : rules.Test). unless t.holds t.rule) xs) ∷ broken ys ∷ [])
    by_test true e = e
    by_test false e = refl

pub on_ok : {T E P Q : Type 0} (r : Result T E) → (P → Q) → OnOk r P → OnOk r Q
on_ok (Ok x) f h = f h
on_ok (Err e) f h = h
