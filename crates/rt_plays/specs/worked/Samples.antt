-- Short forms for worked body runs.
use Rattle.std.specs.Prelude.{ℕ, true, List, [], ◌∷◌, replicate, flat_map}
use Rattle.rt_task.specs.declared.Act.{Act}
use Rattle.rt_task.specs.declared.Op.{Op}
use Rattle.rt_task.specs.declared.Op.TheVariants as ops
use Rattle.rt_task.specs.declared.Task.{Task}
use Rattle.rt_rules.specs.declared.history.Entry.{Entry}
use Rattle.rt_rules.specs.declared.history.Reply.{Reply}
use Rattle.rt_rules.specs.declared.history.Reply.TheVariants as replies
use Rattle.rt_model.specs.worked.Samples.{sem_no}
use Rattle.rt_plays.specs.NextSteps.{step_at}

-- the entry of a step of a processor at a tick, with its reply
abbrev pub told : ℕ → ℕ → Act → Reply → Entry
told q tick act reply = record { step = step_at q tick act; reply = reply }

abbrev pub runs_task : ℕ → Reply
runs_task t = replies.Runs (record { 0 = t })

-- pieces of bodies
abbrev pub work : ℕ → List Op
work n = replicate n ops.Work

abbrev pub lock : ℕ → List Op
lock s = ops.Lock (sem_no s) ∷ []

abbrev pub unlock : ℕ → List Op
unlock s = ops.Unlock (sem_no s) ∷ []

abbrev pub sleep : ℕ → List Op
sleep n = ops.Sleep n ∷ []

abbrev pub np_on : List Op
np_on = ops.NpOn ∷ []

abbrev pub np_off : List Op
np_off = ops.NpOff ∷ []

abbrev pub end : List Op
end = ops.End ∷ []

-- a body of pieces
abbrev pub ops_of : List (List Op) → List Op
ops_of pieces = flat_map (λ (piece : List Op). piece) pieces

-- a task whose jobs may start early
abbrev pub early : Task → Task
early t = record t { early = true }
