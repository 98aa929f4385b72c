use Rattle.part_state.proofs.ReplyLaws as laws
use Rattle.part_state.proofs.reply_is_read.Goals as goal

pub returns : goal.returns
returns c = laws.reply_is_read
