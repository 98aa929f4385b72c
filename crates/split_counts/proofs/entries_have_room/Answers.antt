use Rattle.split_counts.proofs.RoomLaws as laws
use Rattle.split_counts.proofs.entries_have_room.Goals as goal

pub returns : goal.returns
returns c = laws.entries_have_room
