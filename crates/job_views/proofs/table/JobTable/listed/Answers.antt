use Rattle.std.proofs.Common.{◌∙◌, arith}
use Rattle.job_views.proofs.Lines.{ended-low, listed-is, task-early, task-within}
use Rattle.job_views.proofs.table.JobTable.listed.Goals as goal

pub index-jobs-requires : goal.index-jobs-requires
index-jobs-requires c = let low = task-within c.requires.0 c.requires.1 _ _ _ c.requires.2 in omega (arith, low, c.args.self.now.tasks.ok.0)

pub listed-requires-clause-early : goal.listed-requires-clause-early
listed-requires-clause-early c = task-early c.requires.0 c.requires.1 _ _ _ c.requires.2 c.index-jobs.result.now c.index-jobs.ensures

pub listed-requires-clause-few : goal.listed-requires-clause-few
listed-requires-clause-few c = ended-low c.requires.0 c.requires.1 _ _ _ c.requires.2 c.index-jobs.result.now c.index-jobs.ensures

pub returns : goal.returns
returns c = λ g past is. c.listed.ensures ∙ listed-is g past _ _ _ is c.index-jobs.result.now c.index-jobs.ensures
