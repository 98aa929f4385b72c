use Rattle.std.proofs.Common.{◌∙◌, arith}
use Rattle.job_views.proofs.Lines.{job-few, positions-low, positions-there, row-is, task-early, task-within}
use Rattle.job_views.proofs.table.JobTable.row.Goals as goal

pub index-jobs-requires : goal.index-jobs-requires
index-jobs-requires c = let low = task-within c.requires.0 c.requires.1 _ _ _ c.requires.2.with_requests.table in omega (arith, low, c.args.self.now.tasks.ok.0)

pub row-requires-clause-early : goal.row-requires-clause-early
row-requires-clause-early c = task-early c.requires.0 c.requires.1 _ _ _ c.requires.2.with_requests.table c.index-jobs.result.now c.index-jobs.ensures

pub row-requires-clause-few : goal.row-requires-clause-few
row-requires-clause-few c = job-few c.requires.0 c.requires.1 _ _ _ _ _ c.requires.2 c.index-jobs.result.now c.index-jobs.ensures

pub row-requires-clause-made : goal.row-requires-clause-made
row-requires-clause-made c = positions-low c.requires.0 c.requires.1 _ _ _ _ _ c.requires.2 c.index-jobs.result.now c.index-jobs.ensures

pub row-requires-clause-placed : goal.row-requires-clause-placed
row-requires-clause-placed c = positions-there c.requires.0 c.requires.1 _ _ _ _ _ c.requires.2 c.index-jobs.result.now c.index-jobs.ensures

pub returns : goal.returns
returns c = λ g past is. c.row.ensures ∙ row-is g past _ _ _ _ _ is c.index-jobs.result.now c.index-jobs.ensures
