use Rattle.std.proofs.Common.{◌≡◌, true, false, refl, sym, ap, ◌∙◌}
use Rattle.rt_rules.specs.Numbers.{rest}
use Rattle.group_jobs.specs.Facts.{JobFacts}
use Rattle.group_jobs.specs.Kept.{job_of, with_job}
use Rattle.group_jobs.specs.Moves.{after_op, is_end, job_ended, op_done}
use Rattle.group_jobs.specs.GroupJobs.{GroupJobs}
use Rattle.group_jobs.specs.States.{job_with}
use Rattle.group_jobs.proofs.GroupJobs.count.Goals as goal

pub returns-then-ends-clause-ends : goal.returns-then-ends-clause-ends
returns-then-ends-clause-ends c =
    let job : JobFacts = job_of c.args.self.now.kept c.args.task.0 in
    let clock : c.self.inside.clock ≡ c.args.self.now.kept.clock = ap (λ (g : GroupJobs). g.kept.clock) c.self.view_is in
    let done : job_with c.after_op-after.result job.to_come ≡ op_done c.args.self.now.kept.clock c.args.op job = c.after_op-after.ensures.facts job.to_come ∙ ap (λ k. op_done k c.args.op (job_with c.state.result job.to_come)) clock ∙ ap (op_done c.args.self.now.kept.clock c.args.op) (sym c.state.ensures) in
    c.ends_job-ends.ensures c.args.self.now.kept.clock job.to_come job done

pub returns-then-ends-clause-job : goal.returns-then-ends-clause-job
returns-then-ends-clause-job c =
    let job : JobFacts = job_of c.args.self.now.kept c.args.task.0 in
    let clock : c.self.inside.clock ≡ c.args.self.now.kept.clock = ap (λ (g : GroupJobs). g.kept.clock) c.self.view_is in
    let done : job_with c.after_op-after.result job.to_come ≡ op_done c.args.self.now.kept.clock c.args.op job = c.after_op-after.ensures.facts job.to_come ∙ ap (λ k. op_done k c.args.op (job_with c.state.result job.to_come)) clock ∙ ap (op_done c.args.self.now.kept.clock c.args.op) (sym c.state.ensures) in
    let ends : is_end c.args.row.now c.args.self.now.kept.clock c.args.op c.args.holds_none job ≡ true = sym (c.ends_job-ends.ensures c.args.self.now.kept.clock job.to_come job done) ∙ c.if-ends.true in
    let next : job_with c.next_job.result (rest job.to_come) ≡ job_ended job = c.next_job.ensures job.to_come ∙ ap job_ended done in
    let after : after_op c.args.row.now c.args.self.now.kept.clock c.args.op c.args.holds_none job ≡ job_ended job = rw ends refl in
    c.put_next.ensures ∙ ap (λ j. let g : GroupJobs = record c.args.self.now { kept = with_job c.args.task.0 j c.args.self.now.kept } in g) (next ∙ sym after)

pub returns-else-ends-clause-ends : goal.returns-else-ends-clause-ends
returns-else-ends-clause-ends c =
    let job : JobFacts = job_of c.args.self.now.kept c.args.task.0 in
    let clock : c.self.inside.clock ≡ c.args.self.now.kept.clock = ap (λ (g : GroupJobs). g.kept.clock) c.self.view_is in
    let done : job_with c.after_op-after.result job.to_come ≡ op_done c.args.self.now.kept.clock c.args.op job = c.after_op-after.ensures.facts job.to_come ∙ ap (λ k. op_done k c.args.op (job_with c.state.result job.to_come)) clock ∙ ap (op_done c.args.self.now.kept.clock c.args.op) (sym c.state.ensures) in
    c.ends_job-ends.ensures c.args.self.now.kept.clock job.to_come job done

pub returns-else-ends-clause-job : goal.returns-else-ends-clause-job
returns-else-ends-clause-job c =
    let job : JobFacts = job_of c.args.self.now.kept c.args.task.0 in
    let clock : c.self.inside.clock ≡ c.args.self.now.kept.clock = ap (λ (g : GroupJobs). g.kept.clock) c.self.view_is in
    let done : job_with c.after_op-after.result job.to_come ≡ op_done c.args.self.now.kept.clock c.args.op job = c.after_op-after.ensures.facts job.to_come ∙ ap (λ k. op_done k c.args.op (job_with c.state.result job.to_come)) clock ∙ ap (op_done c.args.self.now.kept.clock c.args.op) (sym c.state.ensures) in
    let ends : is_end c.args.row.now c.args.self.now.kept.clock c.args.op c.args.holds_none job ≡ false = sym (c.ends_job-ends.ensures c.args.self.now.kept.clock job.to_come job done) ∙ c.if-ends.false in
    let after : after_op c.args.row.now c.args.self.now.kept.clock c.args.op c.args.holds_none job ≡ op_done c.args.self.now.kept.clock c.args.op job = rw ends refl in
    c.put.ensures ∙ ap (λ j. let g : GroupJobs = record c.args.self.now { kept = with_job c.args.task.0 j c.args.self.now.kept } in g) (done ∙ sym after)
