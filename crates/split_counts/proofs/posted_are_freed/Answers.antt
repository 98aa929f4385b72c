use Rattle.split_counts.proofs.RoomLaws as laws
use Rattle.split_counts.proofs.posted_are_freed.Goals as goal

pub returns : goal.returns
returns c = laws.posted_are_freed
