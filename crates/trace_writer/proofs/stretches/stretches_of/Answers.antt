use Rattle.std.proofs.Common.{rules, ◌<◌, sym, ap, ◌∙◌, length, arith}
use Rattle.std.proofs.lemmas.List.{get_or_read}
use Rattle.rt_base.specs.declared.CpuNo.{CpuNo}
use Rattle.rt_model.specs.Group.{cluster_with}
use Rattle.rt_plays.specs.Groups.{group_of}
use Rattle.trace_text.specs.Groups.{cpu_numbers}
use Rattle.trace_writer.specs.Stretches.{nowhere}
use Rattle.trace_writer.proofs.StretchLaws.{home-low, number-at, stretches-next}
use Rattle.trace_writer.proofs.stretches.stretches_of.Goals as goal
use Rattle.trace_writer.proofs.stretches.stretches_of.Goals.{After-home-home}

abbrev first : CpuNo
first = record { 0 = 0 }

low : (c : After-home-home) → c.home-home.result.0 < length c.loop-i.stretches.items
low c =
    omega (arith, c.requires.clusters, c.loop-i.invariant.long, home-low (group_of c.args.engine.now) c.args.cpus.now c.loop-i.i first c.home-home.result.0 c.loop-i-test.true c.requires.there c.home-home.ensures)

pub index-requires : goal.index-requires
index-requires c = omega (arith, low (goal.at.index-requires c).After-home-home, c.loop-i.stretches.ok.0)

pub index_mut-requires : goal.index_mut-requires
index_mut-requires c = omega (arith, low (goal.at.index_mut-requires c).After-home-home, c.loop-i.stretches.ok.0)

pub loop-i-preserved : goal.loop-i-preserved
loop-i-preserved c =
    let there = low (goal.at.loop-i-preserved c).After-home-home in
    let home = c.home-home.ensures ∙ ap (cluster_with (group_of c.args.engine.now)) (sym (number-at c.args.cpus.now c.loop-i.i first c.loop-i-test.true)) in
    let stretch = get_or_read c.loop-i.stretches.items c.home-home.result.0 c.index.result.now there c.index.ensures nowhere in
    record {
      long = search (rules, c.loop-i.invariant.long);
      are = rw c.start_or.ensures (stretches-next (group_of c.args.engine.now) (cpu_numbers c.args.cpus.now) c.loop-i.i c.loop-i.stretches.items c.loop-i.invariant.are c.home-home.result.0 c.index.result.now home there stretch);
    }
