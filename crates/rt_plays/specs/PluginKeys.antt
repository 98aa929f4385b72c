-- What it is for a plugin's keys to be those of the model, for the tasks of a valid set under this plugin.
use Rattle.std.specs.Prelude.{◌≡◌, ℕ, true, Option, unwrap_or}
use Rattle.rt_rules.specs.declared.Key.{Key}
use Rattle.rt_task.specs.RuleWords.{is_p_res}
use Rattle.rt_task.specs.Validity.{IsValid}
use Rattle.rt_task.specs.declared.PluginKind.{PluginKind}
use Rattle.rt_task.specs.declared.Protocol.{Protocol}
use Rattle.rt_task.specs.declared.Task.{Task}
use Rattle.rt_rules.specs.Numbers.{has}
use Rattle.rt_model.specs.BaseKeys.{base_key}
use Rattle.rt_model.specs.Boosts.{boost_by, granted_at, mpcp_ceiling}
use Rattle.rt_model.specs.Group.{Group, protocol, resv, served_by, task, tasks}
use Rattle.rt_model.specs.Past.{Past}
use Rattle.rt_model.specs.Releases.{release}

-- from the release of the current job and, under P-RES, the priority of the task's reservation
abbrev pub AreBaseKeys : PluginKind → (Task → ℕ → ℕ → Key) → Type 0
AreBaseKeys kind base = (g : Group) (t resv_prio : ℕ) (past : Past) → IsValid g.setup → g.setup.plugin ≡ kind → has t (tasks g) ≡ true
    → (is_p_res kind ≡ true → resv_prio ≡ (resv g (served_by g t)).prio)
    → base (task g t) (unwrap_or (release g t past) 0) resv_prio ≡ base_key g t past

-- from the clock of the grant and the ceiling of the semaphore
abbrev pub AreBoosts : PluginKind → (Task → Protocol → ℕ → ℕ → Option Key) → Type 0
AreBoosts kind boost = (g : Group) (s t : ℕ) (past : Past) → IsValid g.setup → g.setup.plugin ≡ kind → has t (tasks g) ≡ true
    → boost (task g t) (protocol g s) (granted_at g s past) (mpcp_ceiling g s t) ≡ boost_by g (protocol g s) s t past
