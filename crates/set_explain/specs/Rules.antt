-- A rule as a list of what has to be so of single members; the first of these that is not so.
use Rattle.std.specs.Prelude.{ℕ, Bool, true, false, ◌&&◌, List, [], ◌∷◌, map, Option, None, Some}

-- what has to be so of a member, in words
pub record Rule : Type 0 where
  pub member : List ℕ
  pub says : List ℕ

-- whether it is so
pub record Test : Type 0 where
  pub holds : Bool
  pub rule : Rule

abbrev pub test : Bool → List ℕ → List ℕ → Test
test holds member says = record { holds = holds; rule = record { member = member; says = says } }

abbrev pub unless : Bool → Rule → Option Rule
unless true rule = None
unless false rule = Some rule

-- the first that there is
abbrev pub first_some : List (Option Rule) → Option Rule
first_some [] = None
first_some (None ∷ rest) = first_some rest
first_some (Some rule ∷ rest) = Some rule

-- the first rule that is broken
abbrev pub broken : List Test → Option Rule
broken ts = first_some (map (λ (t : Test). unless t.holds t.rule) ts)

abbrev pub all_hold : List Test → Bool
all_hold [] = true
all_hold (t ∷ []) = t.holds
all_hold (t ∷ u ∷ ts) = t.holds && all_hold (u ∷ ts)
