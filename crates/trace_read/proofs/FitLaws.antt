-- What holds of each element of a list, of each element of what it is mapped to, and of each element of its parts.
use Rattle.std.proofs.Common.{List, [], ◌∷◌, ◌++◌, map, All, ◌↔◌}
use Rattle.std.proofs.lemmas.List.Elements.{All-nil, All-cons, All-head, All-tail, All-map}

all_from_map : {A B : Type 0} (P : B → Type 0) (f : A → B) (xs : List A) → All P (map f xs) → All (λ x. P (f x)) xs
all_from_map P f [] h = All-nil (λ x. P (f x))
all_from_map P f (x ∷ xs) h = All-cons (λ y. P (f y)) x xs (All-head P (f x) (map f xs) h) (all_from_map P f xs (All-tail P (f x) (map f xs) h))

pub iff_map : {A B : Type 0} (T : Type 0) (P : B → Type 0) (f : A → B) (xs : List A) → (T ↔ All (λ x. P (f x)) xs) → (T ↔ All P (map f xs))
iff_map T P f xs h = (λ t. All-map P f xs (h.0 t), λ a. h.1 (all_from_map P f xs a))

pub All-parts : {A : Type 0} (P : A → Type 0) (xs ys : List A) → All P (xs ++ ys) → All P xs × All P ys
All-parts P [] ys h = (All-nil P, h)
All-parts P (x ∷ xs) ys h =
    let parts = All-parts P xs ys (All-tail P x (xs ++ ys) h) in
    (All-cons P x xs (All-head P x (xs ++ ys) h) parts.0, parts.1)
