-- The ceiling of a semaphore, where that is shown.
use Rattle.std.specs.Prelude.{[], ◌++◌, codes}
use Rattle.rt_task.specs.declared.Protocol.{Protocol}
use Rattle.rt_task.specs.declared.Protocol.TheVariants.{Pcp}
use Rattle.rt_rules.specs.declared.Key.{Key}
use Rattle.why_texts.specs.Pieces.{Piece, key_piece}

abbrev pub ceiling_shown : Protocol → Key → Piece
ceiling_shown Pcp k = codes " ceiling " ++ key_piece k
ceiling_shown _ k = []
