use Rattle.std.proofs.Common.{◌≡◌, ◌++◌, [], All}
use Rattle.split_part.proofs.senders.senders_of.Given as goal

-- those so far are the same
abbrev pub invariant-loop-poster : goal.invariant-loop-poster
invariant-loop-poster g l = record {
  same : l.senders.items ++ l.poster-iterator.rest.items ≡ l.fn.posters.items;
  unposted : All (λ b. b.posted ≡ []) l.poster-iterator.rest.items;
}
