-- The next act, in the words of the code.
use Rattle.std.proofs.Common.{◌≡◌, ◌∙◌, Bool, true, false, List, ap, refl, sym}
use Rattle.std.specs.Prelude.{◌&&◌, None, Option, Some, if◌then◌else◌, is_some, not}
use Rattle.rt_base.specs.declared.TaskNo.{TaskNo}
use Rattle.rt_task.specs.declared.Act.{Act}
use Rattle.rt_task.specs.declared.Act.TheVariants as acts
use Rattle.rt_task.specs.declared.Op.{Op}
use Rattle.rt_task.specs.declared.Op.TheVariants as ops
use Rattle.rt_task.specs.declared.Task.{Task}
use Rattle.rt_rules.specs.declared.history.Situation.{Situation}
use Rattle.rt_model.specs.Group.{Group, task}
use Rattle.rt_model.specs.Situations.{next_act, next_of, next_op}
use Rattle.body_play.specs.inside.Operations.{operation_at, waits}

-- an operation is done, or waits
pub next_op-some : (g : Group) (s : Situation) (op : Op) → (if waits s op then None else Some (acts.Do op)) ≡ next_op g s (Some op)
unfolding next_op
next_op-some g s ops.Work = refl
next_op-some g s (ops.Lock n) = refl
next_op-some g s (ops.Unlock n) = refl
next_op-some g s (ops.Sleep n) = refl
next_op-some g s ops.NpOn = refl
next_op-some g s ops.NpOff = refl
next_op-some g s ops.End = refl

pub next_op-none : (g : Group) (s : Situation) → None ≡ next_op g s None
unfolding next_op
next_op-none g s = refl

-- the next act of the job that runs, if one does
pub next_of-some : (g : Group) (s : Situation) (tasks : List Task) (t : TaskNo) (op : Option Op) (act : Option Act) → g.setup.tasks ≡ tasks → s.runs ≡ Some t
    → op ≡ operation_at tasks t.0 s.at → act ≡ next_op g s op → act ≡ next_of g s s.runs
unfolding next_of task
next_of-some g s tasks t op act e r o a = a ∙ ap (next_op g s) (o ∙ ap (λ (ts : List Task). operation_at ts t.0 s.at) (sym e)) ∙ ap (next_of g s) (sym r)

pub next_of-none : (g : Group) (s : Situation) → None ≡ next_of g s None
unfolding next_of
next_of-none g s = refl

-- an interrupt comes first
pub next_act-irq : (g : Group) (s : Situation) (b : Bool) → b ≡ (s.pending && not (is_some s.runs && s.np)) → b ≡ true → Some acts.Irq ≡ next_act g s
unfolding next_act
next_act-irq g s b is held = rw (sym is ∙ held) refl

pub next_act-job : (g : Group) (s : Situation) (b : Bool) (act : Option Act) → b ≡ (s.pending && not (is_some s.runs && s.np)) → b ≡ false → act ≡ next_of g s s.runs → act ≡ next_act g s
unfolding next_act
next_act-job g s b act is not_held job = rw (sym is ∙ not_held) job

pub ruleset act_laws = (next_op-some, next_op-none, next_of-none)
