-- The line of a task: its current job, and of one that is there how it stands, its keys, release and deadline, and what it has used.
use Rattle.std.specs.List.{concat}
use Rattle.std.specs.Prelude.{ℕ, ◌+◌, Bool, true, false, List, [], ◌∷◌, ◌++◌, Option, None, Some, codes, decimal, if◌then◌else◌}
use Rattle.rt_model.specs.BaseKeys.{base_key}
use Rattle.rt_model.specs.EffectiveKeys.{effective_key}
use Rattle.rt_model.specs.Group.{Group, task}
use Rattle.rt_model.specs.Holders.{holds}
use Rattle.rt_model.specs.Jobs.{done, used}
use Rattle.rt_model.specs.NonPreemptive.{non_preemptive}
use Rattle.rt_model.specs.Past.{Past}
use Rattle.rt_model.specs.Releases.{deadline, exists, opens_early, release}
use Rattle.trace_lines.specs.Grammar.{number_word}
use Rattle.why_texts.specs.Pieces.{Piece, key_piece, sem_names, state_line, task_name}
use Rattle.why_texts.specs.Standings.{standing}

-- a piece where something is so, and else nothing
abbrev pub where_so : Bool → Piece → Piece
where_so true piece = piece
where_so false piece = []

-- a job that is not there: its release, where that is known
abbrev pub absent_piece : Option ℕ → Piece
absent_piece None = codes " not there, no arrival"
absent_piece (Some r) = codes " not there, released at " ++ decimal r

module _ (g : Group) where
  abbrev pub keys_piece : ℕ → Past → Piece
  keys_piece t past = concat (codes ", base " ∷ key_piece (base_key g t past) ∷ codes " key " ∷ key_piece (effective_key g t past) ∷ [])

  abbrev pub times_piece : ℕ → Past → Piece
  times_piece t past =
      concat (codes ", release " ∷ number_word (release g t past) ∷ codes " deadline " ∷ decimal (deadline g t past) ∷ [])

  abbrev pub used_piece : ℕ → Past → Piece
  used_piece t past = concat (codes ", used " ∷ decimal (used t past) ∷ codes " of " ∷ decimal (task g t).cost ∷ [])

  abbrev pub holds_piece : List ℕ → Piece
  holds_piece [] = []
  holds_piece (s ∷ ss) = codes ", holds" ++ sem_names g (s ∷ ss)

  -- a job that is there
  unfoldable pub job_piece : ℕ → Past → Piece
  job_piece t past = concat (
      standing g t past ∷ keys_piece t past ∷ times_piece t past ∷ used_piece t past
      ∷ where_so (opens_early g t past) (codes ", early")
      ∷ where_so (non_preemptive t past) (codes ", non-preemptive")
      ∷ holds_piece (holds g t past) ∷ [])

  abbrev pub job_or_absent : ℕ → Past → Piece
  job_or_absent t past = if exists g t past then job_piece t past else absent_piece (release g t past)

  abbrev pub task_line : ℕ → Past → List ℕ
  task_line t past =
      state_line (codes "task " ∷ task_name g t ∷ codes " job " ∷ decimal (done t past + 1) ∷ job_or_absent t past ∷ [])
