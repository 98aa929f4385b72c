-- Worked plays: the histories that one thread gives.
use Rattle.std.specs.Prelude.{◌≡◌, ℕ, true, false, List, [], ◌∷◌, None, refl}
use Rattle.rt_task.specs.declared.Act.{Act}
use Rattle.rt_task.specs.declared.Act.TheVariants as acts
use Rattle.rt_task.specs.declared.Drive.TheVariants.{Steps, Horizon}
use Rattle.rt_task.specs.declared.Kind.TheVariants.{Periodic}
use Rattle.rt_task.specs.declared.Op.TheVariants as ops
use Rattle.rt_task.specs.declared.Parts.{Parts}
use Rattle.rt_task.specs.declared.PluginKind.TheVariants as plugins
use Rattle.rt_task.specs.declared.Protocol.TheVariants.{Pcp}
use Rattle.rt_task.specs.declared.Step.{Step}
use Rattle.rt_task.specs.declared.Task.{Task}
use Rattle.rt_rules.specs.declared.history.Reply.TheVariants as replies
use Rattle.rt_model.specs.Group.{Group}
use Rattle.rt_model.specs.Histories.{after, past_of}
use Rattle.rt_model.specs.Past.{Past}
use Rattle.rt_model.specs.worked.Samples.{sem_no, task_with, with_body}
use Rattle.rt_model.specs.worked.Links.{first_path, first_path_steps}
use Rattle.rt_model.specs.worked.Body as bodies
use Rattle.rt_plays.specs.BodyPlays.{is_whole}
use Rattle.rt_plays.specs.worked.Computed.{computed_plays}
use Rattle.rt_plays.specs.NextSteps.{step_at, next_steps}
use Rattle.rt_plays.specs.Order.{history, histories, order}
use Rattle.rt_plays.specs.worked.Samples.{told, runs_task, work, lock, unlock, sleep, np_on, np_off, end, early, ops_of}

-- a set with steps is played in their order
abbrev pub first_path_set : Parts
first_path_set = record (first_path.setup) { drive = Steps first_path_steps }

pub first_path_histories : histories first_path_set ≡
    (told 0 0 acts.Tick replies.Done ∷ told 0 0 acts.Irq (runs_task 1) ∷ told 0 0 acts.Irq replies.Quiet ∷
    told 0 0 (acts.Do ops.Work) replies.Done ∷ told 0 0 (acts.Do ops.Work) replies.Spent ∷
    told 0 1 (acts.Do ops.Work) replies.Done ∷ []) ∷ []
unfolding computed_plays
first_path_histories = refl

-- one processor and one task, for three turns
abbrev pub body_run : Group
body_run = record bodies.body_run { setup = record bodies.body_run.setup { drive = Horizon 3 } }

-- two units of work, and a turn in which nothing runs
pub body_run_played : histories body_run.setup ≡
    (told 0 0 acts.Tick replies.Done ∷ told 0 0 acts.Irq (runs_task 1) ∷ told 0 0 (acts.Do ops.Work) replies.Done ∷
    told 0 1 acts.Tick replies.Done ∷ told 0 1 acts.Irq replies.Quiet ∷ told 0 1 (acts.Do ops.Work) replies.Done ∷
    told 0 1 (acts.Do ops.End) replies.Done ∷
    told 0 2 acts.Tick replies.Done ∷ told 0 2 acts.Irq replies.Quiet ∷ []) ∷ []
unfolding computed_plays
body_run_played = refl

-- the steps that may come next of it, before each step and after the last
abbrev pub nexts_along : Group → Past → List Step → List (List Step)
nexts_along g past [] = next_steps g 0 past ∷ []
nexts_along g past (step ∷ steps) = next_steps g 0 past ∷ nexts_along g (after g step past) steps

abbrev pub one : ℕ → Act → List Step
one tick act = step_at 0 tick act ∷ []

pub body_run_nexts : nexts_along body_run [] (order body_run) ≡
    one 0 acts.Tick ∷ one 0 acts.Irq ∷ one 0 (acts.Do ops.Work) ∷
    one 1 acts.Tick ∷ one 1 acts.Irq ∷ one 1 (acts.Do ops.Work) ∷ one 1 (acts.Do ops.End) ∷
    one 2 acts.Tick ∷ one 2 acts.Irq ∷ [] ∷ []
unfolding computed_plays
body_run_nexts = refl

pub body_run_is_whole : is_whole body_run (past_of body_run (history body_run [] (order body_run))) ≡ true
unfolding computed_plays
body_run_is_whole = refl

abbrev pub sleeping_tasks_task_1 : Task
sleeping_tasks_task_1 = with_body
    (ops_of (sleep 6 ∷ sleep 6 ∷ sleep 4 ∷ np_on ∷ np_off ∷ sleep 4 ∷ sleep 6 ∷ np_on ∷ np_off ∷ sleep 3 ∷ np_on ∷
    np_off ∷ end ∷ []))
    (task_with 1 0 2 8 8 0 Periodic 6 true [] None)

abbrev pub sleeping_tasks_task_2 : Task
sleeping_tasks_task_2 = with_body
    (ops_of (np_on ∷ np_off ∷ end ∷ []))
    (task_with 2 0 1 5 5 0 Periodic 5 false [] None)

abbrev pub sleeping_tasks : Parts
sleeping_tasks = record {
  plugin = plugins.GsnEdf;
  clusters = record { cpus = 1; group = record { 0 = 0 } } ∷ [];
  sems = [];
  resvs = [];
  tasks = sleeping_tasks_task_1 ∷ sleeping_tasks_task_2 ∷ [];
  drive = Horizon 7;
}

-- one processor and two enforced tasks that sleep and are non-preemptive in places
pub sleeping_tasks_played : histories sleeping_tasks ≡
    (told 0 0 acts.Tick replies.Done ∷ told 0 0 acts.Irq (runs_task 2) ∷ told 0 0 (acts.Do ops.NpOn) replies.Done ∷
    told 0 0 (acts.Do ops.NpOff) replies.Done ∷ told 0 0 (acts.Do ops.End) replies.Done ∷
    told 0 0 acts.Irq (runs_task 1) ∷ told 0 0 (acts.Do (ops.Sleep 6)) replies.Done ∷
    told 0 1 acts.Tick replies.Done ∷ told 0 1 acts.Irq replies.Quiet ∷ told 0 2 acts.Tick replies.Done ∷
    told 0 2 acts.Irq replies.Quiet ∷ told 0 3 acts.Tick replies.Done ∷ told 0 3 acts.Irq replies.Quiet ∷
    told 0 4 acts.Tick replies.Done ∷ told 0 4 acts.Irq replies.Quiet ∷ told 0 5 acts.Tick replies.Done ∷
    told 0 5 acts.Irq (runs_task 2) ∷ told 0 5 (acts.Do ops.NpOn) replies.Done ∷
    told 0 5 (acts.Do ops.NpOff) replies.Done ∷ told 0 5 (acts.Do ops.End) replies.Done ∷
    told 0 6 acts.Tick replies.Done ∷ told 0 6 acts.Irq (runs_task 1) ∷
    told 0 6 (acts.Do (ops.Sleep 6)) replies.Done ∷ []) ∷
    []
unfolding computed_plays
sleeping_tasks_played = refl

abbrev pub three_processors_task_1 : Task
three_processors_task_1 = with_body
    (ops_of (work 2 ∷ lock 1 ∷ unlock 1 ∷ end ∷ []))
    (task_with 1 2 1 20 2 0 Periodic 6 false (1 ∷ []) None)

abbrev pub three_processors_task_2 : Task
three_processors_task_2 = with_body
    (ops_of (work 1 ∷ end ∷ []))
    (task_with 2 1 2 5 5 0 Periodic 1 true [] None)

abbrev pub three_processors_task_3 : Task
three_processors_task_3 = with_body
    (ops_of (lock 1 ∷ np_on ∷ work 3 ∷ np_off ∷ unlock 1 ∷ end ∷ []))
    (task_with 3 2 2 8 8 0 Periodic 511 false (1 ∷ []) None)

abbrev pub three_processors_task_4 : Task
three_processors_task_4 = with_body
    (ops_of (sleep 4 ∷ np_on ∷ work 1 ∷ work 3 ∷ work 2 ∷ work 3 ∷ np_off ∷ lock 1 ∷ work 3 ∷ unlock 1 ∷ end ∷ []))
    (early (task_with 4 2 4 20 20 5 Periodic 2 false (1 ∷ []) None))

abbrev pub three_processors : Parts
three_processors = record {
  plugin = plugins.PFp;
  clusters = record { cpus = 1; group = record { 0 = 0 } } ∷ record { cpus = 1; group = record { 0 = 0 } } ∷
      record { cpus = 1; group = record { 0 = 0 } } ∷ [];
  sems = record { name = []; protocol = Pcp } ∷ [];
  resvs = [];
  tasks = three_processors_task_1 ∷ three_processors_task_2 ∷ three_processors_task_3 ∷ three_processors_task_4 ∷ [];
  drive = Horizon 4;
}

-- three processors of one group take their turns one after another
pub three_processors_played : histories three_processors ≡
    (told 0 0 acts.Tick replies.Done ∷ told 0 0 acts.Irq replies.Quiet ∷ told 1 0 acts.Tick replies.Done ∷
    told 1 0 acts.Irq (runs_task 2) ∷ told 1 0 (acts.Do ops.Work) replies.Done ∷
    told 1 0 (acts.Do ops.End) replies.Done ∷ told 2 0 acts.Tick replies.Done ∷ told 2 0 acts.Irq (runs_task 1) ∷
    told 2 0 (acts.Do ops.Work) replies.Done ∷ told 0 1 acts.Tick replies.Done ∷ told 0 1 acts.Irq replies.Quiet ∷
    told 1 1 acts.Tick replies.Done ∷ told 1 1 acts.Irq replies.Quiet ∷ told 2 1 acts.Tick replies.Done ∷
    told 2 1 acts.Irq replies.Quiet ∷ told 2 1 (acts.Do ops.Work) replies.Done ∷
    told 2 1 (acts.Do (ops.Lock (sem_no 1))) replies.Granted ∷
    told 2 1 (acts.Do (ops.Unlock (sem_no 1))) replies.Done ∷ told 2 1 (acts.Do ops.End) replies.Done ∷
    told 2 1 acts.Irq (runs_task 3) ∷ told 2 1 (acts.Do (ops.Lock (sem_no 1))) replies.Granted ∷
    told 2 1 (acts.Do ops.NpOn) replies.Done ∷ told 0 2 acts.Tick replies.Done ∷ told 0 2 acts.Irq replies.Quiet ∷
    told 1 2 acts.Tick replies.Done ∷ told 1 2 acts.Irq replies.Quiet ∷ told 2 2 acts.Tick replies.Done ∷
    told 2 2 acts.Irq replies.Quiet ∷ told 2 2 (acts.Do ops.Work) replies.Done ∷ told 0 3 acts.Tick replies.Done ∷
    told 0 3 acts.Irq replies.Quiet ∷ told 1 3 acts.Tick replies.Done ∷ told 1 3 acts.Irq replies.Quiet ∷
    told 2 3 acts.Tick replies.Done ∷ told 2 3 acts.Irq replies.Quiet ∷ told 2 3 (acts.Do ops.Work) replies.Done ∷ []) ∷
    []
unfolding computed_plays
three_processors_played = refl

abbrev pub two_groups_task_1 : Task
two_groups_task_1 = with_body
    (ops_of (lock 1 ∷ unlock 1 ∷ lock 2 ∷ lock 1 ∷ unlock 1 ∷ unlock 2 ∷ work 3 ∷ end ∷ []))
    (task_with 1 1 2 50 2 0 Periodic 1 false (1 ∷ 2 ∷ []) None)

abbrev pub two_groups_task_2 : Task
two_groups_task_2 = with_body (ops_of (end ∷ [])) (task_with 2 0 3 1000 10 0 Periodic 4 false [] None)

abbrev pub two_groups : Parts
two_groups = record {
  plugin = plugins.PFp;
  clusters = record { cpus = 1; group = record { 0 = 0 } } ∷ record { cpus = 1; group = record { 0 = 1 } } ∷ [];
  sems = record { name = []; protocol = Pcp } ∷ record { name = []; protocol = Pcp } ∷ [];
  resvs = [];
  tasks = two_groups_task_1 ∷ two_groups_task_2 ∷ [];
  drive = Horizon 2;
}

-- each group has a history of its own
pub two_groups_played : histories two_groups ≡
    (told 0 0 acts.Tick replies.Done ∷ told 0 0 acts.Irq (runs_task 2) ∷ told 0 0 (acts.Do ops.End) replies.Done ∷
    told 0 1 acts.Tick replies.Done ∷ told 0 1 acts.Irq replies.Quiet ∷ []) ∷
    (told 1 0 acts.Tick replies.Done ∷ told 1 0 acts.Irq (runs_task 1) ∷
    told 1 0 (acts.Do (ops.Lock (sem_no 1))) replies.Granted ∷
    told 1 0 (acts.Do (ops.Unlock (sem_no 1))) replies.Done ∷
    told 1 0 (acts.Do (ops.Lock (sem_no 2))) replies.Granted ∷
    told 1 0 (acts.Do (ops.Lock (sem_no 1))) replies.Granted ∷
    told 1 0 (acts.Do (ops.Unlock (sem_no 1))) replies.Done ∷
    told 1 0 (acts.Do (ops.Unlock (sem_no 2))) replies.Done ∷ told 1 0 (acts.Do ops.Work) replies.Done ∷
    told 1 1 acts.Tick replies.Done ∷ told 1 1 acts.Irq replies.Quiet ∷ told 1 1 (acts.Do ops.Work) replies.Done ∷ []) ∷
    []
unfolding computed_plays
two_groups_played = refl
