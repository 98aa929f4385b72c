-- Worked examples: the texts of the tables.
use Rattle.std.specs.Prelude.{◌≡◌, ℕ, List, [], ◌∷◌, ◌++◌, codes, refl}
use Rattle.std.specs.Fmt.{digits}
use Rattle.rt_task.specs.declared.PluginKind.TheVariants as plugins
use Rattle.rt_task.specs.declared.Protocol.TheVariants.{Mpcp}
use Rattle.rt_task.specs.declared.Task.{Task}
use Rattle.rt_model.specs.worked.Computed.{computed}
use Rattle.rt_model.specs.Group.{Group}
use Rattle.rt_model.specs.worked.Samples.{cluster_with, entries_of, group_of, in_cluster, periodic, sem_under, sporadic, using, with_prio}
use Rattle.trace_views.specs.worked.Computed.{shown}
use Rattle.trace_views.specs.worked.Sharing.{remote_lines}
use Rattle.trace_views.specs.worked.Tables.{behind, behind_lines}
use Rattle.table_texts.specs.JobText.{job_columns, jobs_text}
use Rattle.table_texts.specs.TaskText.{task_columns, tasks_text}

abbrev pub named : List ℕ → Task → Task
named name t = record t { name = name }

-- a line of a text
abbrev pub then : List ℕ → List ℕ → List ℕ
then line text = line ++ 10 ∷ text

-- the group of `remote` with names
abbrev pub remote : Group
remote =
    group_of plugins.PFp (cluster_with 1 0 ∷ cluster_with 1 0 ∷ []) (sem_under Mpcp ∷ []) [] (
    named (codes "pulse") (with_prio 1 (sporadic 1 1 1000 1000)) ∷
    named (codes "driver") (using (1 ∷ []) (with_prio 5 (periodic 2 2 1000 1000))) ∷
    named (codes "filter") (in_cluster 1 (using (1 ∷ []) (with_prio 3 (periodic 3 2 1000 1000)))) ∷
    [])

pub remote_jobs : jobs_text remote.setup (entries_of remote_lines ∷ []) ≡ job_columns ++
    then (codes "pulse,1,1,1001,2,3,3,kept,1,2,-998,0,0,0,0,0,0,0") (
    then (codes "driver,1,0,1000,1,2,3,kept,1,2,-998,1,0,0,1,0,0,0") (
    then (codes "filter,1,0,1000,,3,3,kept,0,3,-997,0,0,0,1,1,1,1") []))
unfolding computed shown jobs_text digits
remote_jobs = refl

pub remote_tasks : tasks_text remote.setup (entries_of remote_lines ∷ []) ≡ task_columns ++
    then (codes "pulse,1,1,0,0,1,2,2,-998,0,0,0,0,0,0,0") (
    then (codes "driver,1,1,0,0,1,2,2,-998,1,0,0,1,0,0,0") (
    then (codes "filter,1,1,0,0,0,3,3,-997,0,0,0,1,1,1,1") []))
unfolding computed shown tasks_text digits
remote_tasks = refl

-- a job that is late, and one that has missed its deadline and has neither start nor end, of a task without a name
pub behind_jobs : jobs_text behind.setup (entries_of behind_lines ∷ []) ≡ job_columns ++
    then (codes ",1,0,5,6,7,7,late,1,7,2,0,0,0,0,0,0,0") (
    then (codes ",2,10,15,,,,missed,0,,,0,0,0,0,0,0,0") [])
unfolding computed shown jobs_text digits
behind_jobs = refl
