-- Jobs of tasks, by counting over the past.
use Rattle.std.specs.Prelude.{ℕ}
use Rattle.rt_model.specs.Past.{Past, did, is_work, is_any, ends_job, number_of, since}

-- how many of the task's jobs have ended: its current job is the next one
unfoldable pub done : ℕ → Past → ℕ
done t past = number_of (ends_job t) past

-- the events since the task's last end, which are those of its current job
unfoldable pub this_job : ℕ → Past → Past
this_job t past = since (ends_job t) past

-- the budget that the current job has used, and how many operations it did
unfoldable pub used : ℕ → Past → ℕ
used t past = number_of (λ e. is_work (did t e)) (this_job t past)

unfoldable pub position_in_body : ℕ → Past → ℕ
position_in_body t past = number_of (λ e. is_any (did t e)) (this_job t past)
