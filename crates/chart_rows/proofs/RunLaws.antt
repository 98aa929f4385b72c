-- A column more behind those of runs.
use Rattle.std.proofs.Common.{◌≡◌, ◌∙◌, ℕ, zero, suc, List, [], ◌∷◌, ◌++◌, length, get_or, map, set, sym, ap, arith, append_assoc}
use Rattle.std.proofs.lemmas.List.{append-nil, map-append}
use Rattle.std.specs.Prelude.{flat_map}

-- the last one has more in it
pub last-longer : {X A : Type 0} (f : X → List A) (xs : List X) (i : ℕ) (d x y : X) (more : List A) → suc i ≡ length xs → x ≡ get_or xs i d → f y ≡ f x ++ more → flat_map f (set xs i y) ≡ flat_map f xs ++ more
last-longer f [] i d x y more last is h = absurd (omega arith)
last-longer f (z ∷ []) zero d x y more last is h = append-nil (f y) ∙ h ∙ ap (λ v. f v ++ more) is ∙ sym (ap (λ zs. zs ++ more) (append-nil (f z)))
last-longer f (z ∷ w ∷ xs) zero d x y more last is h = absurd (omega arith)
last-longer f (z ∷ []) (suc i) d x y more last is h = absurd (omega arith)
last-longer f (z ∷ w ∷ xs) (suc i) d x y more last is h = ap (λ zs. f z ++ zs) (last-longer f (w ∷ xs) i d x y more (omega arith) is h) ∙ sym (append_assoc (f z) (flat_map f (w ∷ xs)) more)

pub map-more : {X A : Type 0} (f : X → A) (xs new : List X) (x : X) (y : A) → new ≡ xs ++ x ∷ [] → f x ≡ y → map f new ≡ map f xs ++ y ∷ []
map-more f xs new x y is h = ap (map f) is ∙ map-append f xs (x ∷ []) ∙ ap (λ v. map f xs ++ v ∷ []) h
