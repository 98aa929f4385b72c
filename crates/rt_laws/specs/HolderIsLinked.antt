-- Progress of the holder: who keeps a priority-blocked task waiting is linked.
use Rattle.std.specs.Prelude.{◌≡◌, ℕ, Bool, true, false, Some}
use Rattle.rt_task.specs.declared.PluginKind.{PluginKind}
use Rattle.rt_task.specs.declared.PluginKind.TheVariants as plugins
use Rattle.rt_rules.specs.Numbers.{has}
use Rattle.rt_rules.specs.Placing.{tasks_in}
use Rattle.rt_model.specs.Blocking.{is_blocked}
use Rattle.rt_model.specs.Group.{Group, home}
use Rattle.rt_model.specs.Holders.{holder, awaits}
use Rattle.rt_model.specs.Links.{links}
use Rattle.rt_model.specs.Past.{Past}
use Rattle.rt_laws.specs.EveryPast.{EveryPast}

abbrev pub is_global : PluginKind → Bool
is_global plugins.GsnEdf = true
is_global plugins.CEdf = true
is_global _ = false

-- a semaphore has a holder, and that is linked to a processor of its cluster
pub record HasLinkedHolder (g : Group) (s : ℕ) (past : Past) : Type 0 where
  pub task : ℕ
  pub holds_it : holder g s past ≡ Some task
  pub linked : has task (tasks_in (links g (home g task) past)) ≡ true

-- Under GSN-EDF and C-EDF, after every move at which a task that waits for an OMLP or FMLP semaphore is priority-blocked, the
-- semaphore's holder is linked (priority inheritance under link-based global scheduling: Block, Leontyev, Brandenburg and Anderson,
-- RTCSA 2007).
abbrev pub HolderIsLinked : Type 0
HolderIsLinked =
    EveryPast (λ g past. (t s : ℕ) → is_global g.setup.plugin ≡ true → awaits g t past ≡ Some s →
    is_blocked g t past ≡ true → HasLinkedHolder g s past)
