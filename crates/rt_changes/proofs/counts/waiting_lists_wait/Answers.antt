use Rattle.rt_changes.proofs.requests.Laws as laws
use Rattle.rt_changes.proofs.counts.waiting_lists_wait.Goals as goal

pub returns : goal.returns
returns c = laws.waiting_lists_wait
