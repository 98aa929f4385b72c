-- Non-preemptive sections: from an NpOn to the next NpOff of the same job.
use Rattle.std.specs.Prelude.{ℕ, Bool, false, [], ◌∷◌, Option, Some, if◌then◌else◌, true}
use Rattle.rt_task.specs.declared.Op.{Op}
use Rattle.rt_task.specs.declared.Op.TheVariants as ops
use Rattle.rt_model.specs.Past.{Past, did, ends_job}

abbrev pub np_after : Option Op → Bool → Bool
np_after (Some ops.NpOn) before = true
np_after (Some ops.NpOff) before = false
np_after _ before = before

unfoldable pub non_preemptive : ℕ → Past → Bool
non_preemptive t [] = false
non_preemptive t (e ∷ past) = if ends_job t e then false else np_after (did t e) (non_preemptive t past)
