use Rattle.std.proofs.Common.{◌∙◌, ◌++◌, List, ap, ap₂, map}
use Rattle.std.proofs.lemmas.Result.{on_ok_weaker}
use Rattle.std.specs.List.{join_with_byte}
use Rattle.rt_base.specs.declared.SemNo.{SemNo}
use Rattle.rt_task.specs.declared.Sem.{Sem}
use Rattle.chart_cells.specs.Cells.{cell_shown, sem_numbers}
use Rattle.event_texts.specs.Records.{quoted}
use Rattle.event_lines.specs.inside.Openings.{name_in}
use Rattle.event_lines.proofs.Chains.{seven_put}
use Rattle.event_lines.proofs.Pieces.{rest-put}
use Rattle.event_lines.proofs.task_spans.put_rest.Goals as goal

pub returns : goal.returns
returns c =
    on_ok_weaker c.put-4.result (λ last.
    let text = c.args.text.now.items in
    let held_is = ap₂ (λ (sems : List Sem) (held : List SemNo). c.put.new.text.items ++ join_with_byte 44 (map quoted (map (name_in sems) (sem_numbers held)))) c.as_slice.ensures c.deref.ensures.value in
    seven_put text _ _ _ _ _ _ _ _ _ _ _ _ _ _ c.in_ok-put.ensures (c.in_ok-put_held.ensures ∙ held_is) c.in_ok-put-2.ensures c.in_ok-put_truth.ensures c.in_ok-put-3.ensures c.in_ok-put_truth-2.ensures last
    ∙ ap (λ xs. text ++ xs) (rest-put c.args.set.now (cell_shown c.args.cell.now))) c.put-4.ensures
