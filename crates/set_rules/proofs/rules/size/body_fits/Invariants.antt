use Rattle.std.proofs.Common.{◌≡◌, nat_le, drop}
use Rattle.rt_base.specs.declared.TheConstants.{MOST_OPERATIONS}
use Rattle.rt_task.specs.RuleWords.{body_len}
use Rattle.set_rules.proofs.rules.size.body_fits.Given as goal

-- whether the rest fits in what is left is whether all fits
abbrev pub invariant-loop-piece : goal.invariant-loop-piece
invariant-loop-piece l = nat_le (body_len (drop l.piece-index l.pieces)) l.left ≡ nat_le (body_len l.pieces) MOST_OPERATIONS
