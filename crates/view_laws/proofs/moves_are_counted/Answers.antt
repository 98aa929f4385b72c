use Rattle.view_laws.proofs.Moves as laws
use Rattle.view_laws.proofs.moves_are_counted.Goals as goal

pub returns : goal.returns
returns c = laws.moves_are_counted
