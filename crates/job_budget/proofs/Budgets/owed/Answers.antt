use Rattle.job_budget.proofs.AccountLaws.{get_entries}
use Rattle.job_budget.proofs.Budgets.owed.Goals as goal

pub returns-in-Some : goal.returns-in-Some
returns-in-Some c = rw (← c.self.view_is, get_entries, ← c.in-Some.ensures.value) c.owed.ensures

pub returns-in-None : goal.returns-in-None
returns-in-None c = rw (← c.self.view_is, get_entries, ← c.in-None.ensures.value) tt
