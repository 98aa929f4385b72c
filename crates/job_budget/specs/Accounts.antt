-- Accounts of tasks: what a charge does to one, and what it owes.
use Rattle.std.specs.Prelude.{ℕ, ◌+◌, ◌^◌, ◌-◌, Bool, not, ◌||◌, List, map, nat_lt, min, if◌then◌else◌}
use Rattle.std.specs.Ordering.{nat_cmp}
use Rattle.std.specs.FinMap as finite
use Rattle.rt_task.specs.declared.Task.{Task}
use Rattle.job_budget.specs.declared.Account.{Account}
use Rattle.job_budget.specs.declared.Owed.{Owed}
use Rattle.job_budget.specs.declared.Owed.TheVariants.{Within, PutOff, Forced}

-- the account of each task, by its number
abbrev pub Accounts : Type 0
Accounts = finite.FinMap nat_cmp Account

abbrev pub task_numbers : List Task → List ℕ
task_numbers tasks = map (λ (t : Task). t.number.0) tasks

-- a task's account with nothing used
abbrev pub opened : Task → Account
opened t = record { cost = t.cost; enforced = t.enforce; used = 0 }

-- each task's account with nothing used
abbrev pub accounts_of : List Task → Accounts
accounts_of tasks = finite.from_entries (map (λ (t : Task). (t.number.0, opened t)) tasks)

-- one unit more is used, up to 2^64-1
abbrev pub charged : Account → Account
charged a = record a { used = min (a.used + 1) (2 ^ 64 - 1) }

-- nothing is used
abbrev pub renewed : Account → Account
renewed a = record a { used = 0 }

-- what an account owes
abbrev pub owed_by : Account → Bool → Bool → Owed
owed_by a holds np = if not a.enforced || nat_lt a.used a.cost then Within else (if holds || np then PutOff else Forced)
