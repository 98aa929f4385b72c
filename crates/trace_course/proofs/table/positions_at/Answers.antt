use Rattle.std.proofs.Common.{◌<◌, List, ℕ, length, get_or, ap, refl, ◌∙◌, arith, length-set}
use Rattle.std.specs.Prelude.{Option, None, Some}
use Rattle.std.proofs.lemmas.List.{length-replicate}
use Rattle.rt_base.specs.declared.CpuNo.{CpuNo}
use Rattle.trace_course.specs.Followed.{position_in}
use Rattle.trace_course.proofs.Positions.{opened-none, opened-more}
use Rattle.trace_course.proofs.table.positions_at.Goals as goal

pub loop-cpu-init : goal.loop-cpu-init
loop-cpu-init c = (
  ap length c.in_ok-positions.ensures ∙ length-replicate {A = Option ℕ} 64 None,
  λ q. ap (λ (os : List (Option ℕ)). position_in os q) c.in_ok-positions.ensures ∙ opened-none 64 q,
)

pub loop-cpu-preserved : goal.loop-cpu-preserved
loop-cpu-preserved c =
    let d : CpuNo = record { 0 = 0 } in
    let cpu : CpuNo = get_or c.args.cpus.now c.loop-cpu.cpu-index d in
    let low : cpu.0 < 64 = c.requires c.loop-cpu.cpu-index d c.loop-cpu-test.true in (
      length-set c.loop-cpu.positions.items cpu.0 (Some c.args.position) ∙ c.loop-cpu.invariant.0,
      opened-more c.args.cpus.now c.loop-cpu.cpu-index cpu d c.args.position c.loop-cpu.positions.items c.loop-cpu-test.true refl (omega (arith, low, c.loop-cpu.invariant.0)) c.loop-cpu.invariant.1,
    )
