-- A client whose job is released goes before one whose job is open early: its release is the earlier one.
use Rattle.std.proofs.Common.{◌≡◌, ℕ, ◌<◌, true, false, arith}
use Rattle.std.specs.Prelude.{Some, nat_le, nat_lt, not, ◌&&◌, ◌*◌, ◌+◌}
use Rattle.std.proofs.lemmas.Bool.Decides.{nat_tests}
use Rattle.rt_model.specs.Group.{Group, task}
use Rattle.rt_model.specs.Jobs.{done}
use Rattle.rt_model.specs.Past.{Past, now}
use Rattle.rt_model.specs.Releases.{is_released, opens_early, release, release_by}
use Rattle.rt_model.specs.Reservations.{earlier}
use Rattle.rt_rules.proofs.BoolLaws.{both, not_true}
use Rattle.rt_laws.specs.Keys.{ReleasedGoesFirst}
use Rattle.rt_laws.proofs.jobs.JobLaws.{released}
use Rattle.rt_laws.proofs.Rules.{MeetsRules}
use Rattle.rt_laws.proofs.ValidSets.{rules_of}

-- the release of a job that is open early lies ahead
early-ahead : (g : Group) → MeetsRules g → (u : ℕ) (past : Past) → opens_early g u past ≡ true → (r : ℕ) × (release g u past ≡ Some r) × (now past < r)
unfolding opens_early is_released release release_by
early-ahead g rules u past h =
    let q = both (task g u).early (nat_lt 0 (done u past) && not (is_released g u past)) h in
    let later = not_true (is_released g u past) (both (nat_lt 0 (done u past)) _ q.1).1 in
    let r : ℕ = (task g u).phase + done u past * (task g u).period in
    let is : release g u past ≡ Some r = rw (rules.is_periodic u q.0) in
    let ahead : nat_le r (now past) ≡ false = rw is at later in
    (r, is, grind (arith, nat_tests, ahead))

pub released_goes_first : ReleasedGoesFirst
unfolding earlier
released_goes_first g past valid made t u h k =
    let a = released g t past h in
    let b = early-ahead g (rules_of g valid) u past k in
    let less : nat_lt a.0 b.0 ≡ true = grind (arith, nat_tests, a.2, b.2) in
    rw (a.1, b.1, less)
