use Rattle.std.proofs.Common.{◌≡◌, List, not, true, false, take, ap, sym, ◌∙◌, arith, length-take}
use Rattle.rt_task.specs.declared.draft.DraftTask.{DraftTask}
use Rattle.rt_task.specs.declared.bad_set.Part.TheVariants as parts
use Rattle.rt_task.specs.declared.bad_set.SetKind.TheVariants as kinds
use Rattle.rt_task.specs.NameRules as rules
use Rattle.set_rules.specs.inside.NamesSeen.{has_name}
use Rattle.set_rules.proofs.NameLaws.{names-next}
use Rattle.set_rules.proofs.RefusalLaws.{first_failing-passes, each-stops}
use Rattle.set_rules.proofs.rules.name.tasks_named.Goals as goal

pub returns-then-not-branch : goal.returns-then-not-branch
returns-then-not-branch c =
    let xs : List DraftTask = c.as_slice-tasks.result.now in
    let i = c.loop-i.i in
    let x : DraftTask = c.index-tasks-i.result in
    let fails : rules.task_name c.args.d.now (take i xs) x ≡ false = sym (c.in_ok-task_name.ensures (take i xs) (let e = length-take i xs in let lt = c.loop-i-test.true in omega arith) (c.in_ok-is_new.ensures.new ∙ ap not (c.loop-i.invariant.names x.name))) ∙ c.if-not-branch.true in
    each-stops c.stop.result kinds.Name parts.Task (rules.task_name c.args.d.now) xs c.args.d.now.tasks i x c.stop.ensures c.as_slice-tasks.ensures c.loop-i-test.true c.index-tasks-i.is fails c.loop-i.invariant.rest

pub loop-i-preserved : goal.loop-i-preserved
loop-i-preserved c =
    let xs : List DraftTask = c.as_slice-tasks.result.now in
    let i = c.loop-i.i in
    let x : DraftTask = c.index-tasks-i.result in
    let passes : rules.task_name c.args.d.now (take i xs) x ≡ true = sym (c.in_ok-task_name.ensures (take i xs) (let e = length-take i xs in let lt = c.loop-i-test.true in omega arith) (c.in_ok-is_new.ensures.new ∙ ap not (c.loop-i.invariant.names x.name))) ∙ c.if-not-branch.false in
    record {
      rest = first_failing-passes (rules.task_name c.args.d.now) xs i x c.loop-i-test.true c.index-tasks-i.is passes ∙ c.loop-i.invariant.rest;
      names = names-next (λ (y : DraftTask). y.name) xs i x (has_name c.loop-i.names) (has_name c.add_name.new.names) c.loop-i-test.true c.index-tasks-i.is c.loop-i.invariant.names c.in_ok-is_new.ensures.added;
    }
