-- A text that is made in pieces.
use Rattle.std.specs.Prelude.{ℕ, List, flat_map, Vec}
use Rattle.std.specs.declared.alloc.Global.{Global}

-- the pieces one behind the other
abbrev pub whole_text : List (Vec ℕ Global) → List ℕ
whole_text pieces = flat_map (λ (v : Vec ℕ Global). v.items) pieces
