-- The tests of the element at a place of an array, which is there or is not.
use Rattle.std.proofs.Common.{◌≡◌, ◌∙◌, ◌<◌, ◌≤◌, ℕ, List, length, map, Option, None, Some, [], ap, refl}
use Rattle.std.proofs.lemmas.Option.{slice_get-map, slice_get_past, slice_get_read}
use Rattle.std.specs.Prelude.{slice_get, slice_index_or, option_map}
use Rattle.set_explain.specs.Broken.{alone, tests_at, tests_by}
use Rattle.set_explain.specs.Rules.{Test}

module _ {A B : Type 0} (tests : B → List Test) (f : A → B) (xs : List A) (i : ℕ) where
  tests_of : (o : Option A) → slice_get xs i ≡ o → tests_at (alone tests) (map f xs) i ≡ tests_by tests (option_map f o)
  tests_of o is = ap (tests_by tests) (slice_get-map f xs i ∙ ap (option_map f) is)

  pub tests_there : (x : A) → i < length xs → x ≡ slice_index_or xs i x → tests_at (alone tests) (map f xs) i ≡ tests (f x)
  tests_there x low is = tests_of (Some x) (slice_get_read xs (length xs) i x refl low is)

  pub tests_past : length xs ≤ i → tests_at (alone tests) (map f xs) i ≡ []
  tests_past past = tests_of None (slice_get_past xs i past)
