-- What an act does: its reply, and the job that it ends, by an End or by force.
use Rattle.std.specs.Prelude.{ℕ, Bool, not, ◌&&◌, nat_le, ◌∷◌, Option, None, Some, if◌then◌else◌}
use Rattle.rt_task.specs.declared.Act.{Act}
use Rattle.rt_task.specs.declared.Act.TheVariants as acts
use Rattle.rt_task.specs.declared.Op.TheVariants as ops
use Rattle.rt_rules.specs.Numbers.{is_empty}
use Rattle.rt_model.specs.Answers.{answer}
use Rattle.rt_model.specs.Group.{Group, task}
use Rattle.rt_model.specs.Holders.{holds}
use Rattle.rt_model.specs.Jobs.{used}
use Rattle.rt_model.specs.NonPreemptive.{non_preemptive}
use Rattle.rt_model.specs.Past.{PastAct, Past, accepted, Acted}
use Rattle.rt_model.specs.Runs.{runs}

module _ (g : Group) where
  -- an enforced job that has used its cost ends with its act, unless it holds a semaphore or is non-preemptive
  unfoldable pub is_spent : ℕ → Past → Bool
  is_spent t past =
      (task g t).enforce && (nat_le (task g t).cost (used t past) && (is_empty (holds g t past) && not (non_preemptive t past)))

  -- the job that an accepted act ends
  unfoldable pub ended_by : Act → Option ℕ → PastAct → Past → Option ℕ
  ended_by (acts.Do ops.End) t d past = t
  ended_by (acts.Do op) (Some t) d past = if is_spent t (Acted d ∷ past) then Some t else None
  ended_by _ _ d past = None

  -- the act of a processor before its end is looked at: what it ran, and the reply
  unfoldable pub attempt : ℕ → Act → Past → PastAct
  attempt q act past = record { cpu = q; act = act; task = runs q past; reply = answer g q act past; ended = None }

  unfoldable pub ended : ℕ → Act → Past → Option ℕ
  ended q act past = if accepted (answer g q act past) then ended_by act (runs q past) (attempt q act past) past else None

  -- the act as an event
  unfoldable pub past_act : ℕ → Act → Past → PastAct
  past_act q act past = record { cpu = q; act = act; task = runs q past; reply = answer g q act past; ended = ended q act past }
