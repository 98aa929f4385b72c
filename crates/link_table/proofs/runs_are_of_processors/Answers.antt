use Rattle.link_table.proofs.AmongLaws.{runs-of_processors}
use Rattle.link_table.proofs.runs_are_of_processors.Goals as goal

pub returns : goal.returns
returns c = runs-of_processors
