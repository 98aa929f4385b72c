use Rattle.std.proofs.Common.{◌≡◌, ◌+◌, length, sym, ap, ◌∙◌, arith, length-append, subst}
use Rattle.rt_task.specs.Validity.{IsValid}
use Rattle.rt_task.specs.declared.Parts.{Parts}
use Rattle.rt_plays.proofs.SetLimits.{sets_are_in_limits}
use Rattle.split_turns.specs.SplitTurns.{AreTurnsFrom, IsTurnOf}
use Rattle.split_turns.proofs.SetLaws.{few-sems, some-cpu, turns-more}
use Rattle.split_turns.proofs.turns.SemTurns.open.Goals as goal

pub homes-requires-clause-cpus : goal.homes-requires-clause-cpus
homes-requires-clause-cpus c =
    let valid : IsValid c.parts-parts.result.now = subst IsValid (sym c.parts-parts.ensures.parts) c.parts-parts.ensures.valid in
    (sets_are_in_limits c.parts-parts.result.now valid).few_cpus

pub homes-requires-clause-tasks : goal.homes-requires-clause-tasks
homes-requires-clause-tasks c =
    let valid : IsValid c.parts-parts.result.now = subst IsValid (sym c.parts-parts.ensures.parts) c.parts-parts.ensures.valid in
    (sets_are_in_limits c.parts-parts.result.now valid).few_tasks

pub overflow_cast-sem : goal.overflow_cast-sem
overflow_cast-sem c =
    let valid : IsValid c.parts-parts.result.now = subst IsValid (sym c.parts-parts.ensures.parts) c.parts-parts.ensures.valid in
    let few = few-sems c.parts-parts.result.now valid in
    let all = ap length c.as_slice-items.ensures in
    omega (arith, few, all, c.loop-i-test.true)

pub overflow_add-sem : goal.overflow_add-sem
overflow_add-sem c =
    let valid : IsValid c.parts-parts.result.now = subst IsValid (sym c.parts-parts.ensures.parts) c.parts-parts.ensures.valid in
    let few = few-sems c.parts-parts.result.now valid in
    let all = ap length c.as_slice-items.ensures in
    omega (arith, few, all, c.loop-i-test.true)

pub open_turn-requires-clause-limits : goal.open_turn-requires-clause-limits
open_turn-requires-clause-limits c =
    sets_are_in_limits c.parts-parts.result.now (subst IsValid (sym c.parts-parts.ensures.parts) c.parts-parts.ensures.valid)

pub open_turn-requires-clause-cpus : goal.open_turn-requires-clause-cpus
open_turn-requires-clause-cpus c =
    some-cpu c.parts-parts.result.now (subst IsValid (sym c.parts-parts.ensures.parts) c.parts-parts.ensures.valid)

pub loop-i-preserved : goal.loop-i-preserved
loop-i-preserved c =
    let p : Parts = c.parts-parts.result.now in
    let count = c.loop-i.invariant.count in
    let more = c.in_ok-push.ensures.items in
    let at : c.loop-i.i + 1 ≡ 1 + length c.loop-i.turns.items = omega (arith, count) in
    let is = subst (λ n. IsTurnOf p n c.in_ok-open_turn.field-0) at c.in_ok-open_turn.ensures in
    record {
      count = ap length more ∙ length-append c.loop-i.turns.items _ ∙ ap (λ n. n + 1) count;
      each = subst (AreTurnsFrom p 1) (sym more) (turns-more p 1 c.loop-i.turns.items c.in_ok-open_turn.field-0 c.loop-i.invariant.each is);
    }
