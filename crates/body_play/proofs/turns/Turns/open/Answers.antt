use Rattle.std.proofs.Common.{◌≡◌, ◌+◌, ◌<◌, ℕ, List, length, take, get_or, set, ap, sym, subst, refl, ◌∙◌, arith, length-set}
use Rattle.std.specs.Prelude.{Option, None, Some}
use Rattle.std.proofs.lemmas.List.{length-replicate, take_all}
use Rattle.rt_base.specs.declared.CpuNo.{CpuNo}
use Rattle.rt_rules.specs.Numbers.{has}
use Rattle.body_play.specs.declared.turn.Turn.{Turn}
use Rattle.body_play.specs.Turns.{numbers_of, row_of}
use Rattle.body_play.specs.contracts.turns.Turns.{the_view}
use Rattle.body_play.proofs.Rows.{before_all, given, more-given, none-given, rows-first}
use Rattle.body_play.proofs.turns.Turns.open.Goals as goal

pub loop-cpu-init : goal.loop-cpu-init
loop-cpu-init c = (
  ap length c.in_ok-rows.ensures ∙ length-replicate {A = Option Turn} 64 None,
  λ q. ap (λ (os : List (Option Turn)). row_of os q) c.in_ok-rows.ensures ∙ none-given 64 q,
)

pub loop-cpu-preserved : goal.loop-cpu-preserved
loop-cpu-preserved c =
    let d : CpuNo = record { 0 = 0 } in
    let cpu : CpuNo = get_or c.args.cpus.now c.loop-cpu.cpu-index d in
    let low : cpu.0 < 64 = c.requires c.loop-cpu.cpu-index d c.loop-cpu-test.true in
    let rows : List (Option Turn) = c.loop-cpu.rows.items in
    subst (λ (t : Turn). (length (set rows cpu.0 (Some t)) ≡ 64) × ((q : ℕ) → row_of (set rows cpu.0 (Some t)) q ≡ given (has q (numbers_of (take (c.loop-cpu.cpu-index + 1) c.args.cpus.now))))) (sym c.before_all.ensures) (
      length-set rows cpu.0 (Some before_all) ∙ c.loop-cpu.invariant.0,
      more-given c.args.cpus.now c.loop-cpu.cpu-index cpu d rows c.loop-cpu-test.true refl (omega (arith, low, c.loop-cpu.invariant.0)) c.loop-cpu.invariant.1,
    )

pub returns : goal.returns
returns c = λ g same far.
    let all : take c.loop-cpu.cpu-index c.args.cpus.now ≡ c.args.cpus.now = take_all c.loop-cpu.cpu-index c.args.cpus.now (omega (arith, c.loop-cpu-test.false)) in
    rows-first g (numbers_of c.args.cpus.now) (the_view (record { horizon = c.args.horizon; rows = c.loop-cpu.rows })) same far
    (λ q. c.loop-cpu.invariant.1 q ∙ ap (λ (qs : List CpuNo). given (has q (numbers_of qs))) all)
