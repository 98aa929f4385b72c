use Rattle.rt_changes.proofs.requests.Laws as laws
use Rattle.rt_changes.proofs.counts.entry_feeds.Goals as goal

pub returns : goal.returns
returns c = laws.entry_feeds
