use Rattle.std.proofs.Common.{append_assoc}
use Rattle.why_lines.proofs.Writing.{where_ok}
use Rattle.why_states.proofs.standings.put_sleeping.Goals as goal

pub returns : goal.returns
returns c = where_ok c.put_number.result c.put_number.ensures (λ put. rw (put, c.in_ok-put.ensures) (simp append_assoc))
