use Rattle.std.proofs.Common.{◌≡◌, ◌++◌, ℕ, List, length}
use Rattle.std.specs.Str.Parse.{AllDigits, digits_value}
use Rattle.set_read.proofs.lexemes.digits.Given as goal

-- the digits so far, and then what is left, are the text
abbrev pub invariant-loop-left : goal.invariant-loop-left
invariant-loop-left l = (ds : List ℕ) × (l.fn.text ≡ ds ++ l.left) × AllDigits 10 ds × (digits_value 10 ds ≡ l.n)

abbrev pub decreases-loop-left : goal.decreases-loop-left
decreases-loop-left l = length l.left
