-- FMLP for long requests (Block, Leontyev, Brandenburg and Anderson, RTCSA 2007): requests wait first in, first out.
use Rattle.std.specs.Prelude.{ℕ, List, [], ◌∷◌, ◌++◌}
use Rattle.rt_rules.specs.Numbers.{without}
use Rattle.rt_rules.specs.SemState.{SemAct, Asks, Frees, Neither}

-- the requests that are open, in order of asking: the first holds
abbrev pub fmlp_after : SemAct → List ℕ → List ℕ
fmlp_after (Asks t s) line = line ++ t ∷ []
fmlp_after (Frees t s) line = without t line
fmlp_after Neither line = line
