use Rattle.std.proofs.Common.{◌≡◌, ◌∙◌, length, ap, arith}
use Rattle.std.specs.Prelude.{Some}
use Rattle.rt_base.specs.TaskNos.{number_of_task, numbers_of_tasks}
use Rattle.sem_laws.specs.KeptKeys.{key_at}
use Rattle.prio_inherit.specs.Waits.{base_of, next_of}
use Rattle.prio_inherit.specs.Local.{IsTop, IsSettling}
use Rattle.prio_inherit.proofs.Settling.{walk-step, walk-came, walk-end}
use Rattle.prio_inherit.proofs.keys.update_walk.Goals as goal

pub loop-step-preserved : goal.loop-step-preserved
loop-step-preserved c =
    let here : number_of_task c.loop-step.at ≡ Some c.in-Some.task.0 = ap number_of_task c.in-Some.is in
    let at : IsSettling c.args.bases.now (numbers_of_tasks c.args.nexts.now) c.loop-step.keys.items (Some c.in-Some.task.0) = rw here at c.loop-step.invariant.settling in
    let top : IsTop (length c.args.nexts.now) (next_of (numbers_of_tasks c.args.nexts.now)) (key_at c.loop-step.keys.items) (base_of c.args.bases.now c.in-Some.task.0) c.in-Some.task.0 c.top_key.result = rw c.as_slice.ensures.value at c.top_key.ensures in
    record {
      settling = walk-step c.args.bases.now c.args.nexts.now c.loop-step.keys.items c.in-Some.task.0 c.top_key.result at top;
      came = walk-came c.args.bases.now c.args.nexts.now c.loop-step.keys.items (number_of_task c.args.start) c.loop-step._step c.in-Some.task.0 (c.loop-step.invariant.came ∙ here);
    }

pub returns-clause-local : goal.returns-clause-local
returns-clause-local c = walk-end c.args.bases.now c.args.nexts.now c.loop-step.keys.items c.args.keys.now.items (number_of_task c.args.start) (number_of_task c.loop-step.at) c.loop-step._step c.requires.settling c.loop-step.invariant.settling c.loop-step.invariant.came (omega arith)
