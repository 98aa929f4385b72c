use Rattle.std.proofs.Common.{refl}
use Rattle.job_views.proofs.Feeding.{kept-opening}
use Rattle.job_views.proofs.table.JobTable.open.Goals as goal

pub returns-clause-opened : goal.returns-clause-opened
returns-clause-opened c = kept-opening _ c.in_ok-tasks.ensures.unbegun c.nobody.ensures refl
