-- The links of a group's processors, as contracts see them.
use Rattle.std.specs.Prelude.{◌≡◌}
use Rattle.rt_task.specs.declared.Step.{Step}
use Rattle.rt_model.specs.Group.{Group, group_processors}
use Rattle.rt_model.specs.Histories.{after, changed}
use Rattle.rt_model.specs.Past.{Past}
use Rattle.rank_afresh.specs.Standing.{IsAt, Standing, group_of}
use Rattle.trace_lines.specs.Lines.{links_of}
use Rattle.trace_text.specs.Groups.{cpu_numbers}
use Rattle.trace_text.specs.TraceText.{links_at}
use Rattle.trace_check.specs.declared.links.GroupLinks.{GroupLinks}

-- they are those of the group at this past
pub record AreLinks (g : Group) (past : Past) (l : GroupLinks) : Type 0 where
  pub cpus_are : cpu_numbers l.cpus.items ≡ group_processors g
  pub links_are : links_of l.links.items ≡ links_at g past (group_processors g)

-- they were before a step, and the ranker stands behind it
pub record CanRead (past : Past) (step : Step) (v : Standing) (l : GroupLinks) : Type 0 where
  pub before : AreLinks (group_of v) past l
  pub stands : IsAt v (after (group_of v) step past)

-- they are those after the step, with those that it changed
pub record HaveChanged (g : Group) (past : Past) (step : Step) (l : GroupLinks) : Type 0 where
  pub links_are : AreLinks g (after g step past) l
  pub changed_are : links_of l.changed.items ≡ links_at g (after g step past) (changed g past (after g step past))
