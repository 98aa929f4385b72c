use Rattle.split_part.specs.Splits.{cells_in}
use Rattle.split_tests.proofs.stepping.text_in_order.Given as goal

-- the turns that were just opened
abbrev pub ghosts-text_at : goal.ghosts-text_at
ghosts-text_at g a = record { turns = cells_in a.turns }
