-- Self-suspension: a task sleeps from its Sleep on, for the time that it asked for.
use Rattle.std.specs.Prelude.{ℕ, ◌+◌, Bool, [], ◌∷◌, Option, Some, if◌then◌else◌, nat_lt, max}
use Rattle.rt_task.specs.declared.Op.{Op}
use Rattle.rt_task.specs.declared.Op.TheVariants as ops
use Rattle.rt_model.specs.Past.{Past, now, did, ends_job}

-- when the sleep is over that an operation begins: the clock, and the time that it asks for
abbrev pub sleep_end : ℕ → Option Op → ℕ
sleep_end clock (Some (ops.Sleep n)) = clock + n
sleep_end clock _ = 0

-- when the last sleep of the current job is over
unfoldable pub wakes : ℕ → Past → ℕ
wakes t [] = 0
wakes t (e ∷ past) = if ends_job t e then 0 else max (sleep_end (now past) (did t e)) (wakes t past)

unfoldable pub sleeps : ℕ → Past → Bool
sleeps t past = nat_lt (now past) (wakes t past)
