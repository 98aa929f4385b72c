use Rattle.std.proofs.Common.{◌≡◌, ◌<◌, ℕ, length, vec_len}
use Rattle.job_facts.specs.Tallies.{no_jobs}
use Rattle.job_views.specs.Told.{jobs_in}
use Rattle.job_views.proofs.table.unbegun.Given as goal

abbrev pub invariant-loop : goal.invariant-loop
invariant-loop l = (vec_len l.tasks ≡ l.counter) × ((t : ℕ) → t < length l.tasks.items → jobs_in l.tasks.items t ≡ no_jobs)
