use Rattle.split_counts.proofs.RoomLaws as laws
use Rattle.split_counts.proofs.posts_have_room.Goals as goal

pub returns : goal.returns
returns c = laws.posts_have_room
