-- Tasks that are ready and have nothing to do with semaphores: what a state shows of them stays until an act touches them.
use Rattle.std.specs.Prelude.{◌≡◌, ℕ, ◌+◌, true, false, List, [], Option, None, Some, slice_index_or, slice_set}
use Rattle.rt_model.specs.BaseKeys.{base_key}
use Rattle.rt_model.specs.EffectiveKeys.{effective_key}
use Rattle.rt_model.specs.Group.{Group}
use Rattle.rt_model.specs.Holders.{awaits, holds}
use Rattle.rt_model.specs.Jobs.{done}
use Rattle.rt_model.specs.NonPreemptive.{non_preemptive}
use Rattle.rt_model.specs.Past.{Past, PastAct}
use Rattle.rt_model.specs.Releases.{exists}
use Rattle.rt_model.specs.Sleep.{sleeps}
use Rattle.trace_views.specs.Cells.{TaskCell}
use Rattle.trace_views.specs.Cells as cells
use Rattle.rt_changes.specs.Touched.{arriving}
use Rattle.chart_rows.specs.declared.ready_jobs.ReadyJob.{ReadyJob}

-- its job is there, does not sleep and waits for nothing, the task holds nothing, its key is its own, and this is the job
pub record IsReadyWith (g : Group) (past : Past) (t : ℕ) (j : ReadyJob) : Type 0 where
  pub there : exists g t past ≡ true
  pub awake : sleeps t past ≡ false
  pub awaits_none : awaits g t past ≡ None
  pub holds_none : holds g t past ≡ []
  pub own_key : effective_key g t past ≡ base_key g t past
  pub number_is : j.number ≡ done t past + 1
  pub np_is : j.non_preemptive ≡ non_preemptive t past

-- what its cell shows
abbrev pub ready_cell : ReadyJob → TaskCell
ready_cell j = record { doing = cells.ready; job = j.number; held = []; non_preemptive = j.non_preemptive; raised = false }

-- by a task's number its job, where such a one is known
abbrev pub AreReady : Group → Past → List (Option ReadyJob) → Type 0
AreReady g past js = (t : ℕ) (j : ReadyJob) → slice_index_or js t None ≡ Some j → IsReadyWith g past t j

-- all that is known in one list is known in another
abbrev pub KnowsMore : List (Option ReadyJob) → List (Option ReadyJob) → Type 0
KnowsMore js more = (t : ℕ) (j : ReadyJob) → slice_index_or js t None ≡ Some j → slice_index_or more t None ≡ Some j

abbrev pub without : Option ℕ → List (Option ReadyJob) → List (Option ReadyJob)
without None js = js
without (Some t) js = slice_set js t None

-- without those of the tasks that an act touches
abbrev pub untouched : PastAct → List (Option ReadyJob) → List (Option ReadyJob)
untouched d js = without (arriving d.act) (without d.task js)
