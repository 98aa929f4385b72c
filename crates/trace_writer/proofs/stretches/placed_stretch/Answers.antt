use Rattle.std.proofs.Common.{ap, sym, get_or, subst}
use Rattle.rt_base.specs.declared.CpuNo.{CpuNo}
use Rattle.rt_plays.specs.Groups.{group_of}
use Rattle.rt_plays.specs.Homes.{IsProcessorOf}
use Rattle.trace_text.specs.Groups.{cpu_numbers}
use Rattle.trace_writer.proofs.StretchLaws.{number-at, outside-apart}
use Rattle.trace_writer.proofs.stretches.placed_stretch.Goals as goal

pub returns-in-Some-clause-still : goal.returns-in-Some-clause-still
returns-in-Some-clause-still c = λ h e same k low out.
    let group = ap group_of same in
    let first : CpuNo = record { 0 = 0 } in
    let there = subst (λ q. IsProcessorOf (group_of c.args.engine.now) q) (sym (number-at c.args.cpus.now k first low)) (c.requires.there k first low) in
    let apart = outside-apart (group_of c.args.engine.now) (cpu_numbers c.args.cpus.now) _ c.args.stretches.now c.requires.stretches k c.in-Some.cluster.0 c.stretch_of.result low c.stretch_of.ensures out in
    c.in-Some.ensures h e same (get_or (cpu_numbers c.args.cpus.now) k 0) (subst (λ g. IsProcessorOf g (get_or (cpu_numbers c.args.cpus.now) k 0)) group there) (rw group at apart)
