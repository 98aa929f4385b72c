use Rattle.std.proofs.Common.{◌≡◌, map, take}
use Rattle.resv_core.specs.Known.{home_of}
use Rattle.resv_core.proofs.opening.homes.Given as goal

-- the reservations so far
abbrev pub invariant-loop-resv : goal.invariant-loop-resv
invariant-loop-resv l = l.homes.items ≡ map home_of (take l.resv-index l.parts.resvs)
