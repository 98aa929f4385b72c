use Rattle.std.proofs.Common.{◌≡◌, ◌++◌}
use Rattle.split_part.proofs.senders.posters_of.Given as goal

-- those so far are the same
abbrev pub invariant-loop-sender : goal.invariant-loop-sender
invariant-loop-sender g l = l.posters.items ++ l.sender-iterator.rest.items ≡ l.fn.senders.items
