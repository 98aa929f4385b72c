use Rattle.std.proofs.Common.{◌≡◌, ℕ, ◌-◌, ◌<◌, ◌^◌, ap, ◌∙◌, sym, arith}
use Rattle.std.specs.Prelude.{Option, unwrap_or}
use Rattle.std.proofs.lemmas.List.{get_or_read}
use Rattle.rt_base.specs.declared.TheConstants.{TICK_END}
use Rattle.rt_task.specs.declared.Task.{Task}
use Rattle.rt_model.specs.Group.{no_task}
use Rattle.group_jobs.specs.Kept.{job_of}
use Rattle.group_jobs.specs.Words.{release_of}
use Rattle.group_jobs.specs.GroupJobs.{task_in}
use Rattle.group_jobs.specs.inside.Keys.{key_under, resv_prio}
use Rattle.group_jobs.proofs.KeyWords.{key-under}
use Rattle.group_jobs.proofs.ReleaseBounds.{release-low}
use Rattle.group_jobs.proofs.GroupJobs.base_key.Goals as goal

pub key_under-requires : goal.key_under-requires
key_under-requires c =
    let row : c.index-tasks-task.result ≡ task_in c.args.parts.now.tasks c.args.task.0 = get_or_read c.args.parts.now.tasks (c.args.task.0 - 1) c.index-tasks-task.result (omega (arith, c.requires.task.low, c.requires.task.high, c.requires.task.all)) (rw c.as_slice-tasks.ensures at c.index-tasks-task.is) no_task in
    let release : c.unwrap_or-release.result ≡ unwrap_or (release_of (task_in c.args.parts.now.tasks c.args.task.0) (job_of c.args.self.now.kept c.args.task.0)) 0 = c.unwrap_or-release.ensures ∙ ap (λ (o : Option ℕ). unwrap_or o 0) (rw c.as_slice-tasks.ensures at c.release.ensures) in
    let low : unwrap_or (release_of (task_in c.args.parts.now.tasks c.args.task.0) (job_of c.args.self.now.kept c.args.task.0)) 0 < 2 ^ 62 = release-low c.args.self.now.kept c.args.parts.now.tasks c.args.task.0 c.requires.task in
    let deadline : c.index-tasks-task.result.rel_deadline < TICK_END = rw row c.requires.deadline in
    omega (arith, release, low, deadline)

pub returns : goal.returns
returns c =
    let row : c.index-tasks-task.result ≡ task_in c.args.parts.now.tasks c.args.task.0 = get_or_read c.args.parts.now.tasks (c.args.task.0 - 1) c.index-tasks-task.result (omega (arith, c.requires.task.low, c.requires.task.high, c.requires.task.all)) (rw c.as_slice-tasks.ensures at c.index-tasks-task.is) no_task in
    let release : c.unwrap_or-release.result ≡ unwrap_or (release_of (task_in c.args.parts.now.tasks c.args.task.0) (job_of c.args.self.now.kept c.args.task.0)) 0 = c.unwrap_or-release.ensures ∙ ap (λ (o : Option ℕ). unwrap_or o 0) (rw c.as_slice-tasks.ensures at c.release.ensures) in
    let prio : c.resv_prio.result ≡ resv_prio c.args.parts.now.resvs (task_in c.args.parts.now.tasks c.args.task.0) = c.resv_prio.ensures ∙ ap (resv_prio c.args.parts.now.resvs) row in
    c.key_under.ensures ∙ ap (λ (x : Task). key_under c.args.parts.now.plugin x c.unwrap_or-release.result c.resv_prio.result) row
    ∙ rw (release, prio) (key-under c.args.parts.now c.args.task.0 (job_of c.args.self.now.kept c.args.task.0) c.args.parts.now.plugin c.requires.number)
