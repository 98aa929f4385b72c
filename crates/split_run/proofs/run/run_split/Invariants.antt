use Rattle.split_part.specs.Splits.{cells_in}
use Rattle.split_run.proofs.run.run_split.Given as goal

-- the turns that were just opened
abbrev pub ghosts-run_named : goal.ghosts-run_named
ghosts-run_named g a = record { turns = cells_in a.turns }
