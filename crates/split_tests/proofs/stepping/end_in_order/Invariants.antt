use Rattle.split_part.specs.Splits.{cells_in}
use Rattle.split_tests.proofs.stepping.end_in_order.Given as goal

-- the turns that were just opened
abbrev pub ghosts-end_at : goal.ghosts-end_at
ghosts-end_at g a = record { turns = cells_in a.turns }
