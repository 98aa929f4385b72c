-- When the jobs of a task arrived and ended.
use Rattle.std.specs.Prelude.{ℕ, Bool, List, [], ◌∷◌, ◌++◌, if◌then◌else◌}
use Rattle.rt_model.specs.Past.{Past, ends_job, now}
use Rattle.rt_model.specs.Releases.{arrivals}

-- the clocks of its arrivals, and those at which its jobs ended, both in order
pub record Times : Type 0 where
  pub arrivals : List ℕ
  pub ends : List ℕ

unfoldable pub end_clocks : ℕ → Past → List ℕ
end_clocks t [] = []
end_clocks t (e ∷ past) = if ends_job t e then end_clocks t past ++ now past ∷ [] else end_clocks t past

abbrev pub times_at : ℕ → Past → Times
times_at t past = record { arrivals = arrivals t past; ends = end_clocks t past }

abbrev pub no_times : Times
no_times = record { arrivals = []; ends = [] }

-- a job arrives; one ends
abbrev pub arrived_if : Bool → ℕ → Times → Times
arrived_if b clock x = record x { arrivals = if b then (x.arrivals ++ clock ∷ []) else x.arrivals }

abbrev pub ended_if : Bool → ℕ → Times → Times
ended_if b clock x = record x { ends = if b then (x.ends ++ clock ∷ []) else x.ends }
