use Rattle.std.proofs.Common.{◌≡◌, ℕ, List, take}
use Rattle.rt_fault.specs.Held.{Held, Extends}
use Rattle.event_lines.specs.WholeText.{whole_text}
use Rattle.view_command.proofs.pieces.put_pieces.Given as goal

-- the sink holds what was written so far, and no write failed
pub record Written (front : List ℕ) (before now : Held) (count_before count_now : ℕ) : Type 0 where
  pub held : Extends before now front
  pub unfailed : count_now ≡ count_before

abbrev pub invariant-loop-piece : goal.invariant-loop-piece
invariant-loop-piece g l =
    Written (whole_text (take l.piece-index l.pieces)) (g.K.Sink.held l.initial.out) (g.K.Sink.held l.out) (g.K.Sink.faults l.initial.out) (g.K.Sink.faults l.out)
