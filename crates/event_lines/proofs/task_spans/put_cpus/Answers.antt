use Rattle.std.proofs.Common.{◌∙◌, ◌++◌, List, decimal, map, refl, ap}
use Rattle.std.proofs.lemmas.Result.{on_ok_weaker}
use Rattle.rt_base.specs.declared.CpuNo.{CpuNo}
use Rattle.chart_cells.specs.Cells.{cpu_numbers}
use Rattle.event_lines.proofs.Chains.{two_put}
use Rattle.event_lines.proofs.Joins.{join-first}
use Rattle.event_lines.proofs.task_spans.put_cpus.Goals as goal

pub returns-in_ok-put_number-in-len1-up : goal.returns-in_ok-put_number-in-len1-up
returns-in_ok-put_number-in-len1-up c =
    on_ok_weaker c.put_more_cpus.result (λ last.
    let text = c.args.text.now.items in
    two_put text _ _ _ _ (c.in_ok-put_number-in-len1-up.ensures ∙ ap (λ n. text ++ decimal n) c.from.ensures) last
    ∙ ap (λ xs. text ++ xs)
    (join-first 43 (λ (qs : List CpuNo). map decimal (cpu_numbers qs)) (λ (q : CpuNo). decimal q.0) (λ q qs. refl) c.args.cpus.now _ c.in-len1-up.len_at_least)) c.put_more_cpus.ensures
