use Rattle.std.proofs.Common.{◌≡◌, ℕ, Bool, refl, ap, ◌∙◌}
use Rattle.rt_task.specs.declared.Op.{Op}
use Rattle.rt_task.specs.declared.Op.TheVariants as ops
use Rattle.rt_task.specs.declared.Task.{Task}
use Rattle.group_jobs.specs.Facts.{JobFacts}
use Rattle.group_jobs.specs.Moves.{is_end, op_done}
use Rattle.group_jobs.specs.Words.{is_used_up}
use Rattle.group_jobs.proofs.states.ends_job.Goals as goal

other : (op : Op) (task : Task) (clock : ℕ) (holds_none : Bool) (job : JobFacts) → (op ≡ ops.End → ⊥) → is_used_up task holds_none (op_done clock op job) ≡ is_end task clock op holds_none job
other ops.Work task clock holds_none job h = refl
other (ops.Lock s) task clock holds_none job h = refl
other (ops.Unlock s) task clock holds_none job h = refl
other (ops.Sleep n) task clock holds_none job h = refl
other ops.NpOn task clock holds_none job h = refl
other ops.NpOff task clock holds_none job h = refl
other ops.End task clock holds_none job h = absurd (h refl)

pub returns-in_default : goal.returns-in_default
returns-in_default c = λ clock queue job done.
    c.is_used_up.ensures queue ∙ ap (is_used_up c.args.task.now c.args.holds_none) done ∙ other c.args.op c.args.task.now clock c.args.holds_none job c.in_default.not-End
