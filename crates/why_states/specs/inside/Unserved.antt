-- What keeps a task from running that its reservation does not serve.
use Rattle.std.specs.Prelude.{ℕ, ◌==◌, ◌++◌, Option, codes, if◌then◌else◌}
use Rattle.rt_model.specs.Group.{Group}
use Rattle.why_texts.specs.Pieces.{Piece, task_or_dash}

-- no budget is left, or another client is at the front
abbrev pub unserved_piece : Group → ℕ → Option ℕ → Piece
unserved_piece g left front = if left == 0 then codes " without budget" else (codes " behind " ++ task_or_dash g front)
