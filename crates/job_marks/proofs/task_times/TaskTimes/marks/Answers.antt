use Rattle.std.proofs.Common.{◌≡◌, ◌∙◌, ap, arith, map}
use Rattle.rt_rules.specs.Numbers.{numbers_from}
use Rattle.job_marks.specs.inside.Marks.{marks_by}
use Rattle.job_marks.specs.JobTimes.{times_of}
use Rattle.job_marks.proofs.Marked.{marks-next}
use Rattle.job_marks.proofs.task_times.TaskTimes.marks.Goals as goal

pub loop-i-preserved : goal.loop-i-preserved
loop-i-preserved c =
    marks-next (marks_by c.args.task.now (times_of c.args.self.now) c.args.clock.0) c.loop-i.i c.mark.result c.loop-i.marks.items c.push.new.self.items c.mark.ensures c.in_ok-push.ensures.items c.loop-i.invariant

pub returns : goal.returns
returns c =
    let all : c.loop-i.i ≡ c.listed-count.result = omega (arith, c.loop-i-test.false, c.loop-i.auto.i-end) in
    c.loop-i.invariant ∙ ap (λ n. map (marks_by c.args.task.now (times_of c.args.self.now) c.args.clock.0) (numbers_from 1 n)) (all ∙ c.listed-count.ensures.listed)
