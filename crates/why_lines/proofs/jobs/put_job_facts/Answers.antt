use Rattle.std.proofs.Common.{append_assoc, append-nil}
use Rattle.why_lines.proofs.Writing.{where_ok}
use Rattle.why_lines.proofs.jobs.put_job_facts.Goals as goal

pub returns : goal.returns
returns c =
    where_ok c.put_held.result c.put_held.ensures (λ put.
    rw (put, c.in_ok-put_where_so-2.ensures, c.in_ok-put_where_so.ensures, c.in_ok-put_used.ensures, c.in_ok-put_times.ensures, c.in_ok-put_keys.ensures) (simp (append_assoc, append-nil)))
