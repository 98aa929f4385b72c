-- What is kept of a group's jobs, beside what each task's jobs come to.
use Rattle.std.specs.Prelude.{ℕ, ◌≤◌, length}
use Rattle.rt_model.specs.Blocking.{requests}
use Rattle.rt_model.specs.Past.{Past, now}
use Rattle.job_facts.specs.Deeds.{Scene}
use Rattle.job_facts.specs.Workers.{worker}
use Rattle.job_facts.specs.Tallies.{Tally}

-- the scene of an act of a processor after a past
abbrev pub scene_at : ℕ → Past → Scene
scene_at q past = record { clock = now past; asked = length (requests past); worker = worker q past }

-- no count of a job is above a number
pub record IsFew (n : ℕ) (x : Tally) : Type 0 where
  pub units_few : x.units ≤ n
  pub preemptions_few : x.preemptions ≤ n
  pub migrations_few : x.migrations ≤ n
  pub moves_few : x.moves ≤ n
  pub requests_few : length x.requests ≤ n
  pub queued_few : x.queued ≤ n
