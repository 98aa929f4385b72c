use Rattle.body_laws.proofs.TurnLaws as laws
use Rattle.body_laws.proofs.turns_block_at_most.Goals as goal

pub returns : goal.returns
returns c = laws.turns_block_at_most
