-- The next step of a processor, and how far on from each step the next one of its processor is.
use Rattle.std.specs.Prelude.{◌≡◌, ℕ, ◌+◌, ◌<◌, ◌≤◌, ◌==◌, true, List, length, take, slice_index, slice_index_or}
use Rattle.rt_task.specs.declared.Step.{Step}
use Rattle.rt_plays.specs.Scripts.{script}

-- in this position is a step of the processor, and none stands between
pub record IsNextAt (steps : List Step) (from q j : ℕ) : Type 0 where
  pub there : j < length steps
  pub of_cpu : (d : Step) → (slice_index_or steps j d).cpu.0 == q ≡ true
  pub none_before : script (take j steps) q ≡ script (take from steps) q

-- so far on from the step in this position, no other one of its processor stands between
pub record IsFollowing (steps : List Step) (j distance : ℕ) : Type 0 where
  pub behind : 0 < distance
  pub within : j + distance ≤ length steps
  pub none_between : (d : Step) → let q = (slice_index_or steps j d).cpu.0 in script (take (j + distance) steps) q
      ≡ script (take (j + 1) steps) q

-- and so for each step
pub record AreFollowing (steps : List Step) (following : List ℕ) : Type 0 where
  pub count : length following ≡ length steps
  pub each : (j : ℕ) → j < length steps → IsFollowing steps j (slice_index following j)
