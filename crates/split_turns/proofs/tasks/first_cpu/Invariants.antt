use Rattle.std.proofs.Common.{◌≡◌, ◌≤◌}
use Rattle.rt_model.specs.Group.{first_in}
use Rattle.split_turns.proofs.tasks.first_cpu.Given as goal

abbrev pub invariant-loop-c : goal.invariant-loop-c
invariant-loop-c l = record {
  first : l.first ≡ first_in l.rows l.c;
  early : l.c ≤ l.cluster;
}
