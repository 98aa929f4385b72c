-- What trace events tell of a group, as data: what its tasks, processors and reservations do, span by span, and when jobs are released,
-- due and over.
use Rattle.std.specs.Prelude.{ℕ, Bool, List, Option}
use Rattle.trace_views.specs.Cells.{CpuCell, TaskCell}
use Rattle.trace_views.specs.Spans.{Span}

-- a deadline, and whether it was missed
pub record Due : Type 0 where
  pub tick : ℕ
  pub missed : Bool

-- a job: its release and its deadline, where they are at most the last clock, and the clock at which it ended
pub record JobMarks : Type 0 where
  pub job : ℕ
  pub release : Option ℕ
  pub deadline : Option Due
  pub end : Option ℕ

pub record TaskTrack : Type 0 where
  pub task : ℕ
  pub spans : List (Span TaskCell)
  pub jobs : List JobMarks

pub record CpuTrack : Type 0 where
  pub cpu : ℕ
  pub spans : List (Span CpuCell)

pub record ResvTrack : Type 0 where
  pub resv : ℕ
  pub spans : List (Span ℕ)

pub record GroupTracks : Type 0 where
  pub group : ℕ
  pub tasks : List TaskTrack
  pub cpus : List CpuTrack
  pub resvs : List ResvTrack
