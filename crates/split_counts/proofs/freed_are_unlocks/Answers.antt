use Rattle.split_counts.proofs.RoomLaws as laws
use Rattle.split_counts.proofs.freed_are_unlocks.Goals as goal

pub returns : goal.returns
returns c = laws.freed_are_unlocks
