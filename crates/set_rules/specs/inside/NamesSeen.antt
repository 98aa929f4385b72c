-- Names and numbers met so far, as code keeps them in sets.
use Rattle.std.specs.List.{list_any}
use Rattle.std.specs.Prelude.{ℕ, Bool, ◌==◌, List, bytes_eq}
use Rattle.std.specs.HashSet.{HashSet}
use denote.Ref.{Bor}

abbrev pub has_name : {S : Type 0} → HashSet (Bor (List ℕ)) S → List ℕ → Bool
has_name names w = list_any (λ (k : Bor (List ℕ)). bytes_eq w k.now) names.keys

abbrev pub has_number : {S : Type 0} → HashSet ℕ S → ℕ → Bool
has_number numbers n = list_any (λ m. n == m) numbers.keys
