use Rattle.std.proofs.Common.{◌≡◌, take}
use Rattle.std.specs.FinMap as map
use Rattle.job_budget.specs.Accounts.{accounts_of}
use Rattle.job_budget.proofs.Budgets.new.Given as goal

-- the tasks so far have their accounts
abbrev pub invariant-loop-task : goal.invariant-loop-task
invariant-loop-task l = map.from_entries l.accounts.entries ≡ accounts_of (take l.task-index l.tasks)
