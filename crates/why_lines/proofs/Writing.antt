-- Texts that are written piece by piece.
use Rattle.std.proofs.Common.{◌≡◌, ℕ, List, [], ◌++◌, append-nil}
use Rattle.std.specs.Prelude.{Result, OnOk}
use Rattle.std.proofs.lemmas.Result.{on_ok_weaker}

pub nothing_behind : (xs : List ℕ) → xs ++ [] ≡ xs
nothing_behind xs = append-nil xs

-- what is so where a call ended well, from what it says of that
pub where_ok : {T E P Q : Type 0} (r : Result T E) → OnOk r P → (P → Q) → OnOk r Q
where_ok r h f = on_ok_weaker r f h
