-- Keys under reservations: the smaller priority number of a reservation first, ties to the lower number of the reservation.
use Rattle.std.specs.Prelude.{ℕ, Option, None, Some}
use Rattle.rt_base.specs.declared.ResvNo.{ResvNo}
use Rattle.rt_rules.specs.declared.Key.{Key}
use Rattle.rt_task.specs.declared.Task.{Task}

abbrev pub resv_number : Option ResvNo → ℕ
resv_number None = 0
resv_number (Some r) = r.0

-- the key of each job of the task, whose reservation has this priority
abbrev pub reservation_key : Task → ℕ → Key
reservation_key t prio = record { band = 2; major = prio; minor = resv_number t.resv }
