-- Worked rulers: a number is left out where the one before is longer than its position or ends right before it.
use Rattle.std.specs.Fmt.{digits}
use Rattle.std.specs.Prelude.{◌≡◌, [], ◌∷◌, None, Some, codes, refl}
use Rattle.chart_texts.specs.worked.Computed.{charted}
use Rattle.chart_texts.specs.Rulers.{new_clocks, ruler_from}

pub right_behind : ruler_from [] 0 (Some 10 ∷ Some 11 ∷ Some 12 ∷ []) ≡ codes "10  12"
unfolding charted digits
right_behind = refl

pub too_long : ruler_from [] 0 (None ∷ Some 12345 ∷ Some 7 ∷ Some 8 ∷ Some 9 ∷ []) ≡ codes "  12345 9"
unfolding charted digits
too_long = refl

-- the clock of the first column stands, and then each that is not that of the column before
pub clocks_of_entries : ruler_from [] 0 (new_clocks None (3 ∷ 3 ∷ 4 ∷ 4 ∷ 6 ∷ [])) ≡ codes "3   4   6"
unfolding charted digits
clocks_of_entries = refl
