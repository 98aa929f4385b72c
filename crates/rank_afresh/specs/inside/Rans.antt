-- The processors on which what runs may be another.
use Rattle.std.specs.Prelude.{Bool, false, true}
use Rattle.rank_afresh.specs.declared.ran.Ran.{Ran}
use Rattle.rank_afresh.specs.declared.ran.Ran.TheVariants as rans

-- whether there are none
abbrev pub is_nowhere : Ran → Bool
is_nowhere rans.Nowhere = true
is_nowhere _ = false
