use Rattle.std.proofs.Common.{◌∙◌, arith}
use Rattle.std.proofs.lemmas.Result.{IfOk-weaker}
use Rattle.job_marks.proofs.Marked.{ends-few, marks-are, task-early, task-within}
use Rattle.job_marks.proofs.job_times.JobTimes.marks.Goals as goal

pub index-times-requires : goal.index-times-requires
index-times-requires c = let low = task-within c.requires.0 c.requires.1 c.requires.2 _ _ _ c.requires.3 in omega (arith, low, c.args.self.now.tasks.ok.0)

pub marks-requires-clause-early : goal.marks-requires-clause-early
marks-requires-clause-early c = task-early c.requires.0 c.requires.1 c.requires.2 _ _ _ c.requires.3 c.index-times.result.now c.index-times.ensures

pub marks-requires-clause-few : goal.marks-requires-clause-few
marks-requires-clause-few c = ends-few c.requires.0 c.requires.1 c.requires.2 _ _ _ c.requires.3 c.index-times.result.now c.index-times.ensures

pub returns : goal.returns
returns c = IfOk-weaker c.marks.result _ _ (λ v marked g past t is. marked ∙ marks-are g past t _ _ _ is c.index-times.result.now c.index-times.ensures) c.marks.ensures
