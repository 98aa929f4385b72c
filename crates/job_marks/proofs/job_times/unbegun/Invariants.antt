use Rattle.std.proofs.Common.{◌≡◌, ◌<◌, ℕ, length, vec_len}
use Rattle.job_marks.specs.JobTimes.{times_in}
use Rattle.job_marks.specs.Times.{no_times}
use Rattle.job_marks.proofs.job_times.unbegun.Given as goal

abbrev pub invariant-loop : goal.invariant-loop
invariant-loop l = (vec_len l.tasks ≡ l.counter) × ((t : ℕ) → t < length l.tasks.items → times_in l.tasks.items t ≡ no_times)
