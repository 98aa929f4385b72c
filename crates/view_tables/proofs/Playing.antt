-- A step that was taken, and the table of jobs that is fed its act.
use Rattle.std.proofs.Common.{◌≡◌, ◌∙◌, ℕ, ◌∷◌, sym, ap, subst, arith}
use Rattle.rt_task.specs.declared.Step.{Step}
use Rattle.rt_model.specs.Blocking.{requests}
use Rattle.rt_model.specs.Histories.{after}
use Rattle.rt_model.specs.Outcomes.{past_act}
use Rattle.rt_model.specs.Past.{Acted, Clock, Past, PastAct, now}
use Rattle.rt_model.specs.Steps.{IsStepOf}
use Rattle.rt_model.proofs.Steps.{after-acted, past_act-cpu}
use Rattle.rt_plays.proofs.GroupLimits.{processor-low}
use Rattle.job_facts.specs.Workers.{worker}
use Rattle.job_facts.proofs.Jobs.{jobs_are_kept}
use Rattle.job_views.specs.declared.table.JobTable.{JobTable}
use Rattle.job_views.specs.Tables.{CanFeed, Keeps}
use Rattle.view_replay.specs.declared.replay.Replay.{Replay}
use Rattle.view_replay.specs.Replays.{IsMoved, group_of}

-- a move of the clock leaves the table as it is
pub kept-clock : (v : JobTable) (tick : ℕ) (past : Past) → Keeps v past → Keeps v (Clock tick ∷ past)
unfolding worker requests
kept-clock v tick past k = record { tasks_are = λ t low. k.tasks_are t low ∙ sym (jobs_are_kept.clocked t tick past); workers_are = k.workers_are; asked_is = k.asked_is }

module _ (v : JobTable) (r : Replay) (step : Step) (past : Past) (moved : IsMoved r step.tick.0 past) (d : PastAct) (is : d ≡ past_act (group_of r) step.cpu.0 step.act (Clock step.tick.0 ∷ past)) where
  cpu-is : d.cpu ≡ step.cpu.0
  cpu-is = ap (λ (x : PastAct). x.cpu) is ∙ past_act-cpu (group_of r) step.cpu.0 step.act (Clock step.tick.0 ∷ past)

  pub can-feed : (clock : ℕ) → clock ≡ now (after (group_of r) step past) → IsStepOf (group_of r) step → Keeps v past → CanFeed v (Clock step.tick.0 ∷ past) clock d
  can-feed clock at of k = record {
    kept = kept-clock v step.tick.0 past k;
    group = group_of r;
    reachable = moved.ranked.core_at.reachable;
    few = omega (arith, moved.ranked.few);
    clock_is = at ∙ ap now (after-acted (group_of r) step past);
    act = step.act;
    act_is = is ∙ ap (λ q. past_act (group_of r) q step.act (Clock step.tick.0 ∷ past)) (sym cpu-is);
    processor = omega (arith, cpu-is, processor-low (group_of r) step.cpu.0 moved.whole.valid of.processor);
  }

  pub kept-after : (v' : JobTable) → Keeps v' (Acted d ∷ Clock step.tick.0 ∷ past) → Keeps v' (after (group_of r) step past)
  kept-after v' k = subst (Keeps v') (ap (λ (x : PastAct). Acted x ∷ Clock step.tick.0 ∷ past) is ∙ sym (after-acted (group_of r) step past)) k
