-- The releases, deadlines and ends of the jobs of a task that are listed. A release stands where its tick begins, a deadline and an end
-- where theirs are over.
use Rattle.std.specs.Prelude.{ℕ, ◌+◌, Bool, true, false, nat_le, List, [], ◌∷◌, ◌++◌, flat_map, Option, None, Some, codes, if◌then◌else◌}
use Rattle.rt_rules.specs.Numbers.{numbers_from}
use Rattle.rt_model.specs.Group.{Group}
use Rattle.rt_model.specs.Past.{Past, now}
use Rattle.trace_views.specs.JobRows.{listed}
use Rattle.trace_views.specs.JobTimes.{deadline_of, end, release_of}
use Rattle.trace_views.specs.Marks.{is_missed}
use Rattle.event_texts.specs.Records.{Piece, instant_event}

abbrev pub deadline_name : Bool → Piece
deadline_name true = codes "deadline missed"
deadline_name false = codes "deadline"

abbrev pub end_instant : ℕ → ℕ → ℕ → Option ℕ → List Piece
end_instant process t k None = []
end_instant process t k (Some tick) = instant_event process t (tick + 1) (codes "end") k ∷ []

module _ (g : Group) where
  abbrev pub release_instant : ℕ → ℕ → ℕ → Past → List Piece
  release_instant process t k past =
      if nat_le (release_of g t k past) (now past)
      then (instant_event process t (release_of g t k past) (codes "release") k ∷ [])
      else []

  abbrev pub deadline_instant : ℕ → ℕ → ℕ → Past → List Piece
  deadline_instant process t k past =
      if nat_le (deadline_of g t k past) (now past)
      then (instant_event process t (deadline_of g t k past + 1) (deadline_name (is_missed g t past k)) k ∷ [])
      else []

  abbrev pub job_instants : ℕ → ℕ → Past → ℕ → List Piece
  job_instants process t past k =
      release_instant process t k past ++ (deadline_instant process t k past ++ end_instant process t k (end t k past))

  unfoldable pub task_instants : ℕ → Past → ℕ → List Piece
  task_instants process past t = flat_map (job_instants process t past) (numbers_from 1 (listed g t past))
