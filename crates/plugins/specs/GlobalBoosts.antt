-- Boosts of holders under plugins whose clusters may have several processors: those of MPCP alone (Rajkumar, ICDCS 1990).
use Rattle.std.specs.Prelude.{ℕ, Option, None, Some}
use Rattle.rt_rules.specs.declared.Key.{Key}
use Rattle.rt_task.specs.declared.Protocol.{Protocol}
use Rattle.rt_task.specs.declared.Protocol.TheVariants.{Mpcp}
use Rattle.rt_task.specs.declared.Task.{Task}

-- the key of a holder by the ceiling of its semaphore, ties to the lower task number
abbrev pub ceiling_key : Task → ℕ → Key
ceiling_key t ceiling = record { band = 1; major = ceiling; minor = t.number.0 }

abbrev pub global_boost : Task → Protocol → ℕ → ℕ → Option Key
global_boost t Mpcp granted ceiling = Some (ceiling_key t ceiling)
global_boost t _ granted ceiling = None
