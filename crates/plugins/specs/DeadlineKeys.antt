-- Keys under EDF: the earlier deadline first, ties to the lower task number.
use Rattle.std.specs.Prelude.{ℕ, ◌+◌}
use Rattle.rt_rules.specs.declared.Key.{Key}
use Rattle.rt_task.specs.declared.Task.{Task}

-- the key of the task's job of this release
abbrev pub deadline_key : Task → ℕ → Key
deadline_key t release = record { band = 2; major = release + t.rel_deadline; minor = t.number.0 }
