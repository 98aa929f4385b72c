use Rattle.std.proofs.Common.{◌≡◌, ◌≤◌, ◌-◌, ℕ, List, Option, length, vec_len}
use Rattle.std.specs.Io.KnownBytes.{Consumes}
use Rattle.rt_fault.proofs.reading.read_all.Given as goal

-- the bytes so far were taken from the front, and are within the limit; no read failed
pub record HasRead (limit piece : ℕ) (bytes : List ℕ) (before now : Option (List ℕ)) (count_before count_now : ℕ) : Type 0 where
  pub buffer : piece ≡ 65536
  pub within : length bytes ≤ limit
  pub taken : Consumes before now bytes
  pub unfailed : count_now ≡ count_before

abbrev pub invariant-loop-bytes : goal.invariant-loop-bytes
invariant-loop-bytes g l =
    HasRead l.limit (vec_len l.piece) l.bytes.items
    (g.S.Source.left l.initial.src) (g.S.Source.left l.src) (g.S.Source.faults l.initial.src) (g.S.Source.faults l.src)

abbrev pub decreases-loop-bytes : goal.decreases-loop-bytes
decreases-loop-bytes g l = l.limit - vec_len l.bytes
