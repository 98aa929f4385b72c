-- What a processor's next act depends on, and that act in a body run.
use Rattle.std.specs.Prelude.{ℕ, Bool, false, not, ◌&&◌, ◌||◌, Option, None, Some, if◌then◌else◌, is_some, option_map, slice_get}
use Rattle.rt_base.specs.declared.TaskNo.{TaskNo}
use Rattle.rt_task.specs.declared.Act.{Act}
use Rattle.rt_task.specs.declared.Act.TheVariants as acts
use Rattle.rt_task.specs.declared.Op.{Op}
use Rattle.rt_task.specs.declared.Op.TheVariants as ops
use Rattle.rt_rules.specs.declared.history.Situation.{Situation}
use Rattle.rt_rules.specs.Numbers.{same}
use Rattle.rt_model.specs.Answers.{last_work, np_on, no_budget}
use Rattle.rt_model.specs.Group.{Group, task}
use Rattle.rt_model.specs.Jobs.{position_in_body}
use Rattle.rt_model.specs.Links.{pending}
use Rattle.rt_model.specs.Past.{Past, now}
use Rattle.rt_model.specs.Runs.{runs}

abbrev pub task_no : ℕ → TaskNo
task_no t = record { 0 = t }

module _ (g : Group) where
  unfoldable pub ops_done_of : Option ℕ → Past → ℕ
  ops_done_of None past = 0
  ops_done_of (Some t) past = position_in_body t past

  unfoldable pub lacks_budget : Option ℕ → Past → Bool
  lacks_budget None past = false
  lacks_budget (Some t) past = no_budget g g.setup.plugin t past

  unfoldable pub situation : ℕ → Past → Situation
  situation q past = record {
    runs = option_map task_no (runs q past);
    at = ops_done_of (runs q past) past;
    np = np_on g (runs q past) past;
    pending = pending g q past;
    worked = same (last_work q past) (Some (now past));
    budget = not (lacks_budget (runs q past) past);
  }

  -- the next operation of the body, but that a Work waits for the next tick, or for budget
  unfoldable pub next_op : Situation → Option Op → Option Act
  next_op s None = None
  next_op s (Some ops.Work) = if s.worked || not s.budget then None else Some (acts.Do ops.Work)
  next_op s (Some op) = Some (acts.Do op)

  unfoldable pub next_of : Situation → Option TaskNo → Option Act
  next_of s None = None
  next_of s (Some t) = next_op s (slice_get (task g t.0).body s.at)

  unfoldable pub next_act : Situation → Option Act
  next_act s = if s.pending && not (is_some s.runs && s.np) then Some acts.Irq else next_of s s.runs
