-- Small facts on tests.
use Rattle.std.proofs.Common.{◌≡◌, Bool, true, false, not, ◌&&◌, ◌||◌, ◌⊎◌, inl, inr, refl}

-- what is not so is false
pub unless : (b : Bool) → (b ≡ true → ⊥) → b ≡ false
unless true h = absurd (h refl)
unless false h = refl

pub clash : (b : Bool) → b ≡ true → b ≡ false → ⊥
clash b h k = cc

pub not_true : (b : Bool) → not b ≡ true → b ≡ false
not_true true h = cc
not_true false h = refl

pub not_false : (b : Bool) → not b ≡ false → b ≡ true
not_false true h = refl
not_false false h = cc

pub both : (a b : Bool) → a && b ≡ true → (a ≡ true) × (b ≡ true)
both true b h = (refl, h)
both false b h = cc

pub neither : (a b : Bool) → a || b ≡ false → (a ≡ false) × (b ≡ false)
neither true b h = cc
neither false b h = (refl, h)

pub either : (a b : Bool) → a || b ≡ true → (a ≡ true) ⊎ (b ≡ true)
either true b h = inl refl
either false b h = inr h

-- of two of which one holds it is the other
pub or_else : (a b : Bool) → a || b ≡ true → a ≡ false → b ≡ true
or_else true b h k = cc
or_else false b h k = h

pub or_true : (a : Bool) → a || true ≡ true
or_true true = refl
or_true false = refl

pub or_false : (a : Bool) → a || false ≡ true → a ≡ true
or_false true h = refl
or_false false h = cc

pub and_true : (a : Bool) → a && true ≡ a
and_true true = refl
and_true false = refl

pub and_false : (a : Bool) → a && false ≡ false
and_false true = refl
and_false false = refl

pub or_middle : (a x u : Bool) → a || (x || u) ≡ x || (a || u)
or_middle true true u = refl
or_middle true false u = refl
or_middle false x u = refl

pub or_assoc : (a x u : Bool) → a || (x || u) ≡ (a || x) || u
or_assoc true x u = refl
or_assoc false x u = refl
