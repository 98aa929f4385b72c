-- The keys and times of a job, as they are shown.
use Rattle.std.specs.List.{concat}
use Rattle.std.specs.Prelude.{[], ◌∷◌, codes, decimal}
use Rattle.trace_lines.specs.Grammar.{number_word}
use Rattle.why_texts.specs.Pieces.{Piece, key_piece}
use Rattle.why_lines.specs.declared.jobs.JobTimes.{JobTimes}

unfoldable pub keys_shown : JobTimes → Piece
keys_shown j = concat (codes ", base " ∷ key_piece j.base ∷ codes " key " ∷ key_piece j.key ∷ [])

unfoldable pub times_shown : JobTimes → Piece
times_shown j = concat (codes ", release " ∷ number_word j.release ∷ codes " deadline " ∷ decimal j.deadline ∷ [])

unfoldable pub used_shown : JobTimes → Piece
used_shown j = concat (codes ", used " ∷ decimal j.used ∷ codes " of " ∷ decimal j.cost ∷ [])
