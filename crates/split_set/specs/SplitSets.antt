-- Which sets can be run split.
use Rattle.std.specs.List.{list_all}
use Rattle.std.specs.Prelude.{Bool, true, false, not, ◌&&◌, nat_le, length}
use Rattle.rt_task.specs.RuleWords.{is_periodic}
use Rattle.rt_task.specs.declared.Act.{Act}
use Rattle.rt_task.specs.declared.Act.TheVariants as acts
use Rattle.rt_task.specs.declared.Drive.{Drive}
use Rattle.rt_task.specs.declared.Drive.TheVariants.{Steps, Horizon}
use Rattle.rt_task.specs.declared.Op.{Op}
use Rattle.rt_task.specs.declared.Op.TheVariants as ops
use Rattle.rt_task.specs.declared.Parts.{Parts}
use Rattle.rt_task.specs.declared.PluginKind.{PluginKind}
use Rattle.rt_task.specs.declared.PluginKind.TheVariants.{PsnEdf, PFp}
use Rattle.rt_task.specs.declared.Protocol.{Protocol}
use Rattle.rt_task.specs.declared.Protocol.TheVariants.{Fmlp, Mpcp}
use Rattle.rt_task.specs.declared.Sem.{Sem}
use Rattle.rt_task.specs.declared.Step.{Step}
use Rattle.rt_task.specs.declared.Task.{Task}
use Rattle.split_set.specs.declared.TheConstants.{MOST_SPLIT_STEPS}

-- each cluster has one processor, and a semaphore's holder is boosted under the protocols below
abbrev pub is_split_plugin : PluginKind → Bool
is_split_plugin PsnEdf = true
is_split_plugin PFp = true
is_split_plugin _ = false

abbrev pub is_split_op : Op → Bool
is_split_op ops.Work = true
is_split_op (ops.Lock s) = true
is_split_op (ops.Unlock s) = true
is_split_op ops.End = true
is_split_op _ = false

abbrev pub is_split_act : Act → Bool
is_split_act acts.Tick = true
is_split_act acts.Irq = true
is_split_act (acts.Arrive t) = false
is_split_act (acts.Do op) = is_split_op op

-- steps with such acts alone, and not too many
abbrev pub has_split_steps : Drive → Bool
has_split_steps (Steps xs) = nat_le (length xs) MOST_SPLIT_STEPS && list_all (λ (x : Step). is_split_act x.act) xs
has_split_steps (Horizon h) = false

-- whom a release passes the semaphore to is told by its own history
abbrev pub is_split_protocol : Protocol → Bool
is_split_protocol Fmlp = true
is_split_protocol Mpcp = true
is_split_protocol _ = false

-- periodic, not enforced, not early
abbrev pub is_split_task : Task → Bool
is_split_task t = is_periodic t.kind && (not t.enforce && not t.early)

-- a set that can be run split, where it is valid
abbrev pub is_split_set : Parts → Bool
is_split_set p =
    is_split_plugin p.plugin
    && (has_split_steps p.drive && (list_all (λ (s : Sem). is_split_protocol s.protocol) p.sems && list_all is_split_task p.tasks))
