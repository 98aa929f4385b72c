use Rattle.std.proofs.Common.{◌≡◌, drop}
use Rattle.json.specs.Print.{escape}
use Rattle.set_canonical.proofs.put.are_plain.Given as goal

-- where the rest of the text stands as it is, all of it does
abbrev pub invariant-loop-byte : goal.invariant-loop-byte
invariant-loop-byte l = escape (drop l.byte-index l.text) ≡ drop l.byte-index l.text → escape l.text ≡ l.text
