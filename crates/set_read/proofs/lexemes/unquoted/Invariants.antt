use Rattle.std.proofs.Common.{◌≡◌, take}
use Rattle.json.specs.Print.{escape}
use Rattle.set_read.proofs.lexemes.unquoted.Given as goal

-- what was passed needs no escapes
abbrev pub invariant-loop-i : goal.invariant-loop-i
invariant-loop-i l = escape (take l.i l.bytes) ≡ take l.i l.bytes
