use Rattle.std.proofs.Common.{sym, subst}
use Rattle.std.specs.Prelude.{None}
use Rattle.rt_plays.specs.Homes.{IsProcessorOf}
use Rattle.rt_plays.specs.Groups.{group_of}
use Rattle.trace_lines.specs.declared.links.CpuLink.{CpuLink}
use Rattle.trace_text.proofs.ReplayLaws.{at_position}
use Rattle.trace_writer.proofs.links.read_beside.Goals as goal

pub link_by-task-requires-clause-there : goal.link_by-task-requires-clause-there
link_by-task-requires-clause-there c =
    let d : CpuLink = record { cpu = record { 0 = 0 }; task = None } in
    subst (λ (x : CpuLink). IsProcessorOf (group_of c.args.engine.now) x.cpu.0) (sym (at_position c.loop-i.links c.args.links.now c.loop-i.i d c.loop-i.invariant.0))
    (c.requires.there c.loop-i.i d c.loop-i-test.true)
