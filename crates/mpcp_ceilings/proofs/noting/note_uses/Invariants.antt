use Rattle.std.proofs.Common.{◌≡◌, drop, length}
use Rattle.mpcp_ceilings.specs.inside.Noting.{noted_uses}
use Rattle.mpcp_ceilings.proofs.noting.note_uses.Given as goal

abbrev pub invariant-loop-sem : goal.invariant-loop-sem
invariant-loop-sem l = record {
  rest : noted_uses l.task.prio l.task.cluster (drop l.sem-index l.task.uses) l.rows ≡ noted_uses l.task.prio l.task.cluster l.task.uses l.initial.rows;
  count : length l.rows ≡ length l.initial.rows;
}
