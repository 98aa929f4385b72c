-- A group at a moment.
use Rattle.std.specs.Prelude.{◌≡◌, ℕ, List, map}
use Rattle.rt_base.specs.TaskNos.{numbers}
use Rattle.rt_base.specs.declared.ResvNo.{ResvNo}
use Rattle.rt_task.specs.Validity.{IsValid}
use Rattle.rt_model.specs.Group.{Group, tasks}
use Rattle.rt_model.specs.Past.{Past, now}
use Rattle.rank_afresh.specs.Standing as ranker
use Rattle.chart_texts.specs.Charts.{group_resvs}
use Rattle.why_texts.specs.SemLines.{declared_sems}
use Rattle.why_lines.specs.GroupSets.{group_in}
use Rattle.why_lines.specs.SemNos.{sem_numbers}
use Rattle.why_states.specs.declared.state.State.{State}

abbrev pub group_of : State → Group
group_of s = group_in s.set

abbrev pub resv_numbers : List ResvNo → List ℕ
resv_numbers rs = map (λ (r : ResvNo). r.0) rs

-- the facts and the clock are those of the group of a valid set after this past
pub record IsAt (past : Past) (s : State) : Type 0 where
  pub valid : IsValid s.set.parts.now
  pub group_is : ranker.group_of s.afresh.now ≡ group_in s.set
  pub at : ranker.IsAt s.afresh.now past
  pub clock_is : s.clock.0 ≡ now past
  pub tasks_are : numbers s.tasks.now ≡ tasks (group_in s.set)
  pub sems_are : sem_numbers s.sems.now ≡ declared_sems (group_in s.set)
  pub resvs_are : resv_numbers s.resvs.now ≡ group_resvs (group_in s.set)
