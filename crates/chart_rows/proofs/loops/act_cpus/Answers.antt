use Rattle.std.proofs.Common.{◌∙◌, ap, set, subst, sym}
use Rattle.chart_rows.specs.Rows.{CpuKept, cpu_acted}
use Rattle.chart_rows.specs.Units.{IsTold}
use Rattle.chart_rows.proofs.OneChanged.{one-changed}
use Rattle.chart_rows.proofs.OneRow.{none-acted, unit-stays}
use Rattle.chart_rows.proofs.loops.act_cpus.Goals as goal

pub returns-in_default : goal.returns-in_default
returns-in_default c = λ g m once acted told. sym (none-acted g m c.args.unit.now c.in_default.not-Some told c.args.cpus.now)

pub returns-in-Some-place_of : goal.returns-in-Some-place_of
returns-in-Some-place_of c = λ g m once acted told.
    let place = c.in-Some-place_of.place in
    let row : CpuKept = c.index-cpus-place.result in
    let at = c.in-Some-place_of.ensures in
    ap (set c.args.cpus.now place) (c.act_cpu.ensures g m acted (subst (IsTold g m) c.in-Some.is told))
    ∙ one-changed (λ (k : CpuKept). k.cpu) (cpu_acted g m) m.act.cpu (unit-stays g m) c.args.cpus.now place row once at.0 (at.1 row ∙ acted)
