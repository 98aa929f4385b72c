-- What a group has, as contracts see it.
use Rattle.std.specs.Prelude.{◌≡◌}
use Rattle.rt_base.specs.TaskNos.{numbers}
use Rattle.rt_task.specs.Validity.{IsValid}
use Rattle.rt_model.specs.Group.{Group, group_processors, tasks}
use Rattle.chart_texts.specs.Charts.{group_resvs}
use Rattle.trace_text.specs.Groups.{cpu_numbers}
use Rattle.why_texts.specs.SemLines.{declared_sems}
use Rattle.why_lines.specs.GroupSets.{group_in}
use Rattle.why_lines.specs.SemNos.{sem_numbers}
use Rattle.why_states.specs.States.{resv_numbers}
use Rattle.view_why.specs.declared.members.Members.{Members}

abbrev pub group_of : Members → Group
group_of m = group_in m.set

-- these are what the group has, and its set is valid
pub record AreMembers (m : Members) : Type 0 where
  pub valid : IsValid m.set.parts.now
  pub tasks_are : numbers m.tasks.items ≡ tasks (group_of m)
  pub sems_are : sem_numbers m.sems.items ≡ declared_sems (group_of m)
  pub resvs_are : resv_numbers m.resvs.items ≡ group_resvs (group_of m)
  pub cpus_are : cpu_numbers m.cpus.items ≡ group_processors (group_of m)
