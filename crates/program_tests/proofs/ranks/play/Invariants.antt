use Rattle.std.proofs.Common.{◌≡◌, ◌+◌}
use Rattle.rt_model.specs.Group.{Group}
use Rattle.rt_model.specs.Past.{Past}
use Rattle.rank_afresh.specs.Standing.{IsAt, group_of}
use Rattle.program_tests.proofs.ranks.play.Given as goal

-- the first group stands at a past, with room for the steps that are left, and the list has room for its tasks
abbrev pub invariant-loop-i : goal.invariant-loop-i
invariant-loop-i g l = record {
  group : ◌≡◌ {A = Group} (group_of l.afresh) (record { setup = l.setup; number = 0 });
  at : (past : Past) × IsAt l.afresh past;
  room : l.afresh.spare + l.i-counter ≡ 100;
  list : l.list.room ≡ 8;
}
