use Rattle.std.proofs.Common.{◌≡◌, ◌++◌}
use Rattle.split_part.specs.Closings.{CanTake, HasTakenAll, claims_in}
use Rattle.split_part.proofs.closing.take_rest.Given as goal

-- those so far were taken, and the others can be
abbrev pub invariant-loop-grant : goal.invariant-loop-grant
invariant-loop-grant g l = record {
  gone : _;
  rest_is : l.fn.rest.items ≡ gone ++ l.grant-iterator.rest.items;
  took : HasTakenAll l.fn.part l.part (claims_in gone);
  can : CanTake l.part (claims_in l.grant-iterator.rest.items);
}
