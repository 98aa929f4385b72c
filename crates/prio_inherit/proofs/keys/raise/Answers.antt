use Rattle.std.proofs.Common.{◌≡◌, ◌<◌, ◌∙◌, length, get_or, sym, ap, [], arith, length-set}
use Rattle.std.specs.Prelude.{Some, None}
use Rattle.std.proofs.lemmas.List.{get_or_read}
use Rattle.rt_base.specs.TaskNos.{number_of_task, numbers_of_tasks}
use Rattle.rt_rules.specs.KeyOrder.{higher}
use Rattle.sem_laws.specs.KeptKeys.{key_at}
use Rattle.prio_inherit.proofs.Settling.{next_of-numbers, walk-came, walk-end, settled}
use Rattle.prio_inherit.proofs.Raising.{Raises, raises-step, raises-stop}
use Rattle.prio_inherit.proofs.keys.raise.Goals as goal

pub returns-then-not-is_higher-clause-local : goal.returns-then-not-is_higher-clause-local
returns-then-not-is_higher-clause-local c =
    let here : number_of_task c.loop-step.at ≡ Some c.in-Some.task.0 = ap number_of_task c.in-Some.is in
    let raising : Raises c.args.nexts.now c.args.keys.now.items (number_of_task c.args.start) c.loop-step.keys.items (Some c.in-Some.task.0) c.args.key = rw here at c.loop-step.invariant.raising in
    let below : c.in-Some.task.0 < length c.loop-step.keys.items = omega (arith, c.loop-step.invariant.at_within c.in-Some.task.0 here, c.loop-step.invariant.keys_length) in
    let read : c.index.result.now ≡ key_at c.loop-step.keys.items c.in-Some.task.0 = get_or_read c.loop-step.keys.items c.in-Some.task.0 c.index.result.now below c.index.ensures _ in
    raises-stop c.args.nexts.now c.args.keys.now.items c.loop-step.keys.items (number_of_task c.args.start) c.args.key c.in-Some.task.0 raising (ap (higher c.args.key) (sym read) ∙ sym c.is_higher.ensures ∙ c.if-not-is_higher.true)

pub loop-step-preserved : goal.loop-step-preserved
loop-step-preserved c =
    let here : number_of_task c.loop-step.at ≡ Some c.in-Some.task.0 = ap number_of_task c.in-Some.is in
    let raising : Raises c.args.nexts.now c.args.keys.now.items (number_of_task c.args.start) c.loop-step.keys.items (Some c.in-Some.task.0) c.args.key = rw here at c.loop-step.invariant.raising in
    let below : c.in-Some.task.0 < length c.loop-step.keys.items = omega (arith, c.loop-step.invariant.at_within c.in-Some.task.0 here, c.loop-step.invariant.keys_length) in
    let read : c.index.result.now ≡ key_at c.loop-step.keys.items c.in-Some.task.0 = get_or_read c.loop-step.keys.items c.in-Some.task.0 c.index.result.now below c.index.ensures _ in
    record {
      keys_length = length-set c.loop-step.keys.items c.in-Some.task.0 c.args.key ∙ c.loop-step.invariant.keys_length;
      at_within = λ t e. c.requires.within c.in-Some.task.0 t (next_of-numbers c.args.nexts.now c.in-Some.task.0 ∙ e);
      raising = raises-step c.args.nexts.now c.args.keys.now.items c.loop-step.keys.items (number_of_task c.args.start) c.args.key c.in-Some.task.0 (number_of_task (get_or c.args.nexts.now c.in-Some.task.0 None)) raising (ap (higher c.args.key) (sym read) ∙ sym c.is_higher.ensures ∙ c.if-not-is_higher.false) (next_of-numbers c.args.nexts.now c.in-Some.task.0);
      came = walk-came [] c.args.nexts.now c.loop-step.keys.items (number_of_task c.args.start) c.loop-step._step c.in-Some.task.0 (c.loop-step.invariant.came ∙ here);
    }

pub returns-clause-local : goal.returns-clause-local
returns-clause-local c = λ bases ok. walk-end bases c.args.nexts.now c.loop-step.keys.items c.args.keys.now.items (number_of_task c.args.start) (number_of_task c.loop-step.at) c.loop-step._step ok.settling (c.loop-step.invariant.raising bases ok).settling c.loop-step.invariant.came (omega arith)

pub returns-in_default-clause-local : goal.returns-in_default-clause-local
returns-in_default-clause-local c = λ bases ok. settled bases (numbers_of_tasks c.args.nexts.now) c.loop-step.keys.items (number_of_task c.loop-step.at) (c.loop-step.invariant.raising bases ok).settling (ap number_of_task c.in_default.is)
