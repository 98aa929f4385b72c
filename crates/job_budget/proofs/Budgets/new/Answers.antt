use Rattle.rt_task.specs.declared.Task.{Task}
use Rattle.std.proofs.Common.{◌≡◌, ◌∙◌, ap}
use Rattle.std.proofs.lemmas.List.{take_all}
use Rattle.std.specs.FinMap as map
use Rattle.job_budget.specs.Accounts.{opened, accounts_of}
use Rattle.job_budget.proofs.AccountLaws.{from_entries-with_next, contains_key-from_entries}
use Rattle.job_budget.proofs.Budgets.new.Goals as goal

pub loop-task-preserved : goal.loop-task-preserved
loop-task-preserved c = from_entries-with_next (λ (t : Task). t.number.0) opened c.args.tasks.now c.loop-task.task-index c.task-item.result _ _ c.loop-task-test.true c.requires c.task-item.is c.loop-task.invariant c.in_ok-insert.ensures.updates.0

pub returns : goal.returns
returns c =
    let all : map.from_entries c.loop-task.accounts.entries ≡ accounts_of c.args.tasks.now = c.loop-task.invariant ∙ ap accounts_of (take_all c.loop-task.task-index c.args.tasks.now c.loop-task-test.false) in
    record { accounts = all; tasks = λ t. rw all (contains_key-from_entries (λ (t : Task). t.number.0) opened c.args.tasks.now t) }
