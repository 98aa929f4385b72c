-- Boosts of holders under partitioned plugins: those of MPCP (Rajkumar, ICDCS 1990), and by a rule of our own those of FMLP.
use Rattle.std.specs.Prelude.{ℕ, Option, None, Some}
use Rattle.rt_rules.specs.declared.Key.{Key}
use Rattle.rt_task.specs.declared.Protocol.{Protocol}
use Rattle.rt_task.specs.declared.Protocol.TheVariants.{Fmlp, Mpcp}
use Rattle.rt_task.specs.declared.Task.{Task}
use Rattle.plugins.specs.GlobalBoosts.{ceiling_key}

-- the key of a holder by the clock of its grant, ties to the lower task number
abbrev pub grant_key : Task → ℕ → Key
grant_key t granted = record { band = 0; major = granted; minor = t.number.0 }

abbrev pub partitioned_boost : Task → Protocol → ℕ → ℕ → Option Key
partitioned_boost t Fmlp granted ceiling = Some (grant_key t granted)
partitioned_boost t Mpcp granted ceiling = Some (ceiling_key t ceiling)
partitioned_boost t _ granted ceiling = None
