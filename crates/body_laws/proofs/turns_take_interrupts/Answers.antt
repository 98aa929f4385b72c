use Rattle.body_laws.proofs.TurnLaws as laws
use Rattle.body_laws.proofs.turns_take_interrupts.Goals as goal

pub returns : goal.returns
returns c = laws.turns_take_interrupts
