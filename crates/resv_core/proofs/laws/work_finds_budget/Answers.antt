use Rattle.resv_core.proofs.ShownLaws as laws
use Rattle.resv_core.proofs.laws.work_finds_budget.Goals as goal

pub returns : goal.returns
returns c = laws.work_finds_budget
