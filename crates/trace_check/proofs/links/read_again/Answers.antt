use Rattle.std.proofs.Common.{sym, subst}
use Rattle.std.specs.Prelude.{None}
use Rattle.rt_plays.specs.Homes.{IsProcessorOf}
use Rattle.rank_afresh.specs.Standing.{group_of}
use Rattle.trace_lines.specs.declared.links.CpuLink.{CpuLink}
use Rattle.trace_text.proofs.ReplayLaws.{at_position}
use Rattle.trace_check.proofs.links.read_again.Goals as goal

pub linked-task-requires : goal.linked-task-requires
linked-task-requires c =
    let d : CpuLink = record { cpu = record { 0 = 0 }; task = None } in
    subst (λ (x : CpuLink). IsProcessorOf (group_of c.args.afresh.now) x.cpu.0) (sym (at_position c.loop-i.links c.args.links.now c.loop-i.i d c.loop-i.invariant.0))
    (c.requires c.loop-i.i d c.loop-i-test.true)
