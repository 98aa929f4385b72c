use Rattle.group_jobs.proofs.ReadReplies as laws
use Rattle.group_jobs.proofs.laws.reply_is_read.Goals as goal

pub returns : goal.returns
returns c = laws.reply_is_read
