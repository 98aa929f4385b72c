use Rattle.job_views.proofs.Feeding as feeding
use Rattle.job_views.proofs.table.nobody.Goals as goal

pub returns : goal.returns
returns c = feeding.nobody 64
