-- The spans of a task over the ticks that are over, of which the last is left as it is while the task does the same.
use Rattle.std.specs.Prelude.{◌≡◌, ℕ, ⊤, false, List, [], ◌∷◌, Option, None, Some}
use Rattle.trace_views.specs.Cells.{TaskCell}
use Rattle.trace_views.specs.Cells as cells
use Rattle.trace_views.specs.Spans.{Span}
use Rattle.chart_rows.specs.ReadyJobs.{ready_cell}
use Rattle.event_lines.specs.Tracks.{TaskTrack}
use Rattle.span_feed.specs.declared.stay.Stay.{Stay}
use Rattle.span_feed.specs.declared.stay.Stay.TheVariants.{Changes, Away, Rests, Touched}

-- the cell of a task whose job is not there
abbrev pub gone : TaskCell
gone = record { doing = cells.away; job = 0; held = []; non_preemptive = false; raised = false }

-- what a task goes on to show
abbrev pub lasting : Stay → Option TaskCell
lasting Changes = None
lasting Away = Some gone
lasting (Rests j) = Some (ready_cell j)
lasting (Touched j) = Some (ready_cell j)

pub record TaskLane : Type 0 where
  pub track : TaskTrack
  pub stays : Stay

-- an act touches the task
abbrev pub stay_touched : Stay → Stay
stay_touched Changes = Changes
stay_touched Away = Away
stay_touched (Rests j) = Touched j
stay_touched (Touched j) = Touched j

abbrev pub touched : TaskLane → TaskLane
touched l = record l { stays = stay_touched l.stays }

-- the last span, if there is one, lasts up to a tick
abbrev pub last_to : {A : Type 0} → ℕ → List (Span A) → List (Span A)
last_to n [] = []
last_to n (s ∷ []) = record s { to = n } ∷ []
last_to n (s ∷ r ∷ ss) = s ∷ last_to n (r ∷ ss)

-- there is a last span, and it has this value
abbrev pub LastIs : {A : Type 0} → A → List (Span A) → Type 0
LastIs x [] = ⊥
LastIs x (s ∷ []) = s.value ≡ x
LastIs x (s ∷ r ∷ ss) = LastIs x (r ∷ ss)

abbrev pub EndsWith : Option TaskCell → List (Span TaskCell) → Type 0
EndsWith None ss = ⊤
EndsWith (Some c) ss = LastIs c ss

abbrev pub spans_to : ℕ → Option TaskCell → List (Span TaskCell) → List (Span TaskCell)
spans_to n None ss = ss
spans_to n (Some c) ss = last_to n ss

-- the track, where so many ticks are over
abbrev pub track_to : ℕ → TaskLane → TaskTrack
track_to n l = record l.track { spans = spans_to n (lasting l.stays) l.track.spans }
