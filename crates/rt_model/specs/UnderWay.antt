-- Whether a job has started: an interrupt made its processor run it, and it did not sleep since.
use Rattle.std.specs.Prelude.{ℕ, Bool, true, false, not, ◌&&◌, ◌||◌, ◌==◌, [], ◌∷◌, Option, Some}
use Rattle.rt_task.specs.declared.Op.{Op}
use Rattle.rt_task.specs.declared.Op.TheVariants as ops
use Rattle.rt_rules.specs.declared.history.Reply.{Reply}
use Rattle.rt_rules.specs.declared.history.Reply.TheVariants as replies
use Rattle.rt_model.specs.Past.{Event, Past, Clock, Acted, did, ends_job}

-- whether a processor was made to run the task
abbrev pub is_run : ℕ → Reply → Bool
is_run t (replies.Runs u) = t == u.0
is_run t _ = false

abbrev pub starts : ℕ → Event → Bool
starts t (Clock tick) = false
starts t (Acted d) = is_run t d.reply

abbrev pub is_sleep : Option Op → Bool
is_sleep (Some (ops.Sleep n)) = true
is_sleep _ = false

-- the current job was made to run, and did no Sleep after the last time that it was
unfoldable pub under_way : ℕ → Past → Bool
under_way t [] = false
under_way t (e ∷ past) = not (ends_job t e) && (starts t e || not (is_sleep (did t e)) && under_way t past)
