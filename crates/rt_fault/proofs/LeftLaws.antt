-- The bytes still to come over several reads.
use Rattle.std.proofs.Common.{ℕ, List, ◌++◌, Option, None, Some, append_assoc}
use Rattle.std.specs.Io.KnownBytes.{Consumes}

-- some bytes, then others
pub Consumes-append : (a b c : Option (List ℕ)) (xs ys : List ℕ) → Consumes a b xs → Consumes b c ys → Consumes a c (xs ++ ys)
Consumes-append None b c xs ys p q = tt
Consumes-append (Some l) None c xs ys p q = absurd p
Consumes-append (Some l) (Some m) None xs ys p q = absurd q
Consumes-append (Some l) (Some m) (Some n) xs ys p q = rw (p, q, append_assoc)
