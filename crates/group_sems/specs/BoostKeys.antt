-- The key to which the holder of a semaphore is boosted, by the set's plugin and the protocol of the semaphore.
use Rattle.std.specs.Prelude.{◌≤◌, ◌<◌, ℕ, length, Option}
use Rattle.rt_rules.specs.declared.Key.{Key}
use Rattle.rt_task.specs.declared.Parts.{Parts}
use Rattle.rt_task.specs.declared.PluginKind.{PluginKind}
use Rattle.rt_task.specs.declared.PluginKind.TheVariants as plugins
use Rattle.rt_task.specs.declared.Protocol.{Protocol}
use Rattle.rt_task.specs.declared.Task.{Task}
use Rattle.rt_model.specs.Group.{protocol, task}
use Rattle.rt_plays.specs.Plays.{group_with}
use Rattle.plugins.specs.GlobalBoosts.{global_boost}
use Rattle.plugins.specs.PartitionedBoosts.{partitioned_boost}
use Rattle.mpcp_ceilings.specs.Ceilings.{CeilingTable, ceiling_in}

abbrev pub boost_under : PluginKind → Task → Protocol → ℕ → ℕ → Option Key
boost_under plugins.PsnEdf row p granted ceiling = partitioned_boost row p granted ceiling
boost_under plugins.PFp row p granted ceiling = partitioned_boost row p granted ceiling
boost_under _ row p granted ceiling = global_boost row p granted ceiling

-- of a task that is granted the semaphore at this clock
abbrev pub boost_now : Parts → CeilingTable → ℕ → ℕ → ℕ → Option Key
boost_now p ceilings clock s t =
    boost_under p.plugin (task (group_with p 0) t) (protocol (group_with p 0) s) clock (ceiling_in p ceilings s t)

-- the semaphore is one of the set, and has its ceiling
pub record IsSemOf (p : Parts) (ceilings : CeilingTable) (s : ℕ) : Type 0 where
  pub low : 1 ≤ s
  pub high : s ≤ length p.sems
  pub row : s < length ceilings.rows
