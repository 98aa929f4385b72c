use Rattle.std.proofs.Common.{◌∙◌, sym, ap}
use Rattle.rt_base.specs.declared.CpuNo.{CpuNo}
use Rattle.std.proofs.Common.{Vec, Global}
use Rattle.chart_rows.proofs.Changed.{running-no, running-yes}
use Rattle.chart_rows.proofs.loops.running.Goals as goal
use Rattle.chart_rows.proofs.loops.running.Goals.{then-runs+in_ok-push, else-runs}

pub loop-played-preserved : goal.loop-played-preserved
loop-played-preserved c = λ g. elim c.if-runs.branch [
  | then-runs+in_ok-push w ↦ running-yes g c.args.task.0 c.args.plays.now c.loop-played.played-index _ c.loop-played.cpus.items c.if-runs.cpus.items c.loop-played-test.true (c.loop-played.invariant g)
      (sym (c.runs.ensures g) ∙ w.if-runs.true) (ap (λ (v : Vec CpuNo Global). v.items) w.cpus-is ∙ w.in_ok-push.ensures.items)
  | else-runs w ↦ running-no g c.args.task.0 c.args.plays.now c.loop-played.played-index _ c.loop-played.cpus.items c.if-runs.cpus.items c.loop-played-test.true (c.loop-played.invariant g)
      (sym (c.runs.ensures g) ∙ w.if-runs.false) (ap (λ (v : Vec CpuNo Global). v.items) w.cpus-is)
]
