-- Base keys: the key of a task's current job, with no regard to semaphores.
use Rattle.std.specs.Prelude.{ℕ, Bool}
use Rattle.rt_task.specs.declared.PluginKind.{PluginKind}
use Rattle.rt_task.specs.declared.PluginKind.TheVariants as plugins
use Rattle.rt_rules.specs.declared.Key.{Key}
use Rattle.rt_rules.specs.KeyOrder.{higher}
use Rattle.rt_model.specs.Group.{Group, task, resv, served_by}
use Rattle.rt_model.specs.Past.{Past}
use Rattle.rt_model.specs.Releases.{deadline}

module _ (g : Group) where
  -- by deadline under the EDF plugins, by priority under P-FP, by the reservation's priority under P-RES
  unfoldable pub key_by : PluginKind → ℕ → Past → Key
  key_by plugins.PFp t past = record { band = 2; major = (task g t).prio; minor = t }
  key_by plugins.PRes t past = record { band = 2; major = (resv g (served_by g t)).prio; minor = served_by g t }
  key_by _ t past = record { band = 2; major = deadline g t past; minor = t }

  unfoldable pub base_key : ℕ → Past → Key
  base_key t past = key_by g.setup.plugin t past

  -- whether the base key of one task is higher than that of another
  unfoldable pub above : Past → ℕ → ℕ → Bool
  above past t u = higher (base_key t past) (base_key u past)
