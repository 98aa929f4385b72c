-- Words and their characters.
use Rattle.std.specs.Global.{Vec}
use Rattle.std.specs.Prelude.{ℕ, List, map}

abbrev pub word_items : List (Vec ℕ) → List (List ℕ)
word_items ws = map (λ (w : Vec ℕ). w.items) ws
