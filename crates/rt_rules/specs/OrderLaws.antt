-- The order of keys is strict, and total on different keys.
use Rattle.std.specs.Prelude.{◌≡◌, true, false}
use Rattle.std.proofs.Common.{arith}
use Rattle.std.proofs.lemmas.Bool.Decides.{nat_tests}
use Rattle.rt_rules.specs.declared.Key.{Key}
use Rattle.rt_rules.specs.KeyOrder.{higher}

pub higher-irreflexive : (a : Key) → higher a a ≡ false
higher-irreflexive a = grind (arith, nat_tests)

pub higher-transitive : (a b c : Key) → higher a b ≡ true → higher b c ≡ true → higher a c ≡ true
higher-transitive a b c h k = grind (arith, nat_tests, h, k)

-- keys whose parts are the same are the same
pub same_key : (a b : Key) → a.band ≡ b.band → a.major ≡ b.major → a.minor ≡ b.minor → a ≡ b
same_key a b p q r = λ i. record { band = p i; major = q i; minor = r i }

pub higher-total : (a b : Key) → higher a b ≡ false → higher b a ≡ false → a ≡ b
higher-total a b h k = same_key a b (grind (arith, nat_tests, h, k)) (grind (arith, nat_tests, h, k)) (grind (arith, nat_tests, h, k))
