-- The text of a counter is the text of what the list's map has there.
use Rattle.std.specs.Prelude.{Result, Ok, Err, IfOk, IfSome, slice_get}
use Rattle.std.proofs.Common.{◌≡◌, ℕ, zero, suc, ◌<◌, List, [], ◌∷◌, length, map, get_or, arith}

text-mapped : {P A : Type 0} (f : P → A) (text : A → List ℕ) (v : List ℕ) (ps : List P) (i : ℕ) (p : P) → i < length (map f ps) → p ≡ get_or ps i p
    → v ≡ text (f p) → IfSome (slice_get (map f ps) i) (λ a. v ≡ text a)
text-mapped f text v [] i p below is told = absurd (omega arith)
text-mapped f text v (r ∷ rs) zero p below is told = cc
text-mapped f text v (r ∷ rs) (suc i) p below is told = text-mapped f text v rs i p (omega arith) is told

pub line-mapped : {P A V E : Type 0} (f : P → A) (text : A → List ℕ) (items : V → List ℕ) (ps : List P) (i : ℕ) (p : P) (r : Result V E) → i < length (map f ps)
    → p ≡ get_or ps i p → IfOk r (λ v. items v ≡ text (f p)) → IfOk r (λ v. IfSome (slice_get (map f ps) i) (λ a. items v ≡ text a))
line-mapped f text items ps i p (Ok v) below is told = text-mapped f text (items v) ps i p below is told
line-mapped f text items ps i p (Err e) below is told = told
