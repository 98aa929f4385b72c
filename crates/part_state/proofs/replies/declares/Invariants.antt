use Rattle.std.proofs.Common.{◌≡◌, drop}
use Rattle.part_state.specs.Uses.{is_declared}
use Rattle.part_state.proofs.replies.declares.Given as goal

-- the rest answers as the whole
abbrev pub invariant-loop-used : goal.invariant-loop-used
invariant-loop-used l = is_declared l.sem (drop l.used-index l.uses) ≡ is_declared l.sem l.uses
