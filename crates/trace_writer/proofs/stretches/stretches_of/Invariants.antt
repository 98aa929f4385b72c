use Rattle.std.proofs.Common.{◌≡◌, length}
use Rattle.rt_plays.specs.Groups.{group_of}
use Rattle.trace_text.specs.Groups.{cpu_numbers}
use Rattle.trace_writer.specs.Stretches.{AreStretches}
use Rattle.trace_writer.proofs.stretches.stretches_of.Given as goal

-- the processors so far stand in the stretches of their clusters
abbrev pub invariant-loop-i : goal.invariant-loop-i
invariant-loop-i l = record {
  long : length l.stretches.items ≡ l.clusters;
  are : AreStretches (group_of l.engine) (cpu_numbers l.cpus) l.i l.stretches.items;
}
