use Rattle.resv_core.proofs.ServingLaws as laws
use Rattle.resv_core.proofs.laws.work_may_be_charged.Goals as goal

pub returns : goal.returns
returns c = laws.work_may_be_charged
