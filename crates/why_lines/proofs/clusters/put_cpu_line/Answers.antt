use Rattle.std.proofs.Common.{append_assoc}
use Rattle.why_lines.proofs.Writing.{where_ok}
use Rattle.why_lines.proofs.clusters.put_cpu_line.Goals as goal

pub returns : goal.returns
returns c =
    where_ok c.put-4.result c.put-4.ensures (λ put.
    rw (put, c.in_ok-put-3.ensures, c.pending_word.ensures, c.is_same.ensures, c.in_ok-put_task_or_dash-2.ensures, c.in_ok-put-2.ensures, c.in_ok-put_task_or_dash.ensures, c.in_ok-put.ensures, c.in_ok-put_cpu.ensures) (simp append_assoc))
