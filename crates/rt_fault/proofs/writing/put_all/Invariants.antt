use Rattle.std.proofs.Common.{◌≡◌, ◌++◌, ℕ, List, length}
use Rattle.rt_fault.specs.Held.{Held, Extends}
use Rattle.rt_fault.proofs.writing.put_all.Given as goal

-- what was written so far stands before the rest, and the sink holds it; no write failed
pub record Written (bytes rest : List ℕ) (before now : Held) (count_before count_now : ℕ) : Type 0 where
  pub front : List ℕ
  pub split : bytes ≡ front ++ rest
  pub held : Extends before now front
  pub unfailed : count_now ≡ count_before

abbrev pub invariant-loop-rest : goal.invariant-loop-rest
invariant-loop-rest g l =
    Written l.bytes l.rest (g.K.Sink.held l.initial.out) (g.K.Sink.held l.out) (g.K.Sink.faults l.initial.out) (g.K.Sink.faults l.out)

abbrev pub decreases-loop-rest : goal.decreases-loop-rest
decreases-loop-rest g l = length l.rest
