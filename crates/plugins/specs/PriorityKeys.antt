-- Keys under fixed priorities: the smaller priority number first, ties to the lower task number.
use Rattle.rt_rules.specs.declared.Key.{Key}
use Rattle.rt_task.specs.declared.Task.{Task}

-- the key of each job of the task
abbrev pub priority_key : Task → Key
priority_key t = record { band = 2; major = t.prio; minor = t.number.0 }
