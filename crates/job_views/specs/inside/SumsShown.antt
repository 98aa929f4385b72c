-- What lines of jobs come to, as the definitions have it.
use Rattle.std.specs.Prelude.{ℕ, ◌*◌, ◌≤◌, ◌^◌, pos, neg_ℤ, ◌≤ℤ◌, unwrap_or}
use Rattle.job_facts.specs.Sums as facts
use Rattle.job_views.specs.declared.sums.Sums.{Sums}

abbrev pub sums_shown : Sums → facts.Sums
sums_shown s = record {
  late = s.late;
  units = s.units;
  response_max = s.response_max;
  response_sum = s.response_sum;
  lateness_max = s.lateness_max;
  preemptions = s.preemptions;
  migrations = s.migrations;
  moves = s.moves;
  requests = s.requests;
  queued = s.queued;
}

-- they are no more than those of so many lines can be
pub record FitsRows (n : ℕ) (s : Sums) : Type 0 where
  pub late_few : s.late ≤ n
  pub units_few : s.units ≤ 2 ^ 32 * n
  pub preemptions_few : s.preemptions ≤ 2 ^ 32 * n
  pub migrations_few : s.migrations ≤ 2 ^ 32 * n
  pub moves_few : s.moves ≤ 2 ^ 32 * n
  pub requests_few : s.requests ≤ 2 ^ 32 * n
  pub queued_few : s.queued ≤ 2 ^ 32 * n
  pub sum_low : neg_ℤ (pos (2 ^ 64 * n)) ≤ℤ unwrap_or s.response_sum (pos 0)
  pub sum_high : unwrap_or s.response_sum (pos 0) ≤ℤ pos (2 ^ 64 * n)
