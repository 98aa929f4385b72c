use Rattle.std.proofs.Common.{◌∙◌, ◌++◌, List, map, refl, ap}
use Rattle.std.proofs.lemmas.Result.{on_ok_weaker}
use Rattle.rt_base.specs.declared.SemNo.{SemNo}
use Rattle.chart_cells.specs.Cells.{sem_numbers}
use Rattle.event_texts.specs.Records.{quoted}
use Rattle.event_lines.specs.inside.Openings.{name_in}
use Rattle.event_lines.proofs.Chains.{two_put}
use Rattle.event_lines.proofs.Joins.{join-first}
use Rattle.event_lines.proofs.task_spans.put_held.Goals as goal

pub returns-in_ok-put_quoted-in-len1-up : goal.returns-in_ok-put_quoted-in-len1-up
returns-in_ok-put_quoted-in-len1-up c =
    on_ok_weaker c.put_more_held.result (λ last.
    let text = c.args.text.now.items in
    let sems = c.args.sems.now in
    two_put text _ _ _ _ (c.in_ok-put_quoted-in-len1-up.ensures ∙ ap (λ n. text ++ quoted n) c.sem_name.ensures) last
    ∙ ap (λ xs. text ++ xs)
    (join-first 44 (λ (ss : List SemNo). map quoted (map (name_in sems) (sem_numbers ss))) (λ (s : SemNo). quoted (name_in sems s.0)) (λ s ss. refl) c.args.held.now _ c.in-len1-up.len_at_least)) c.put_more_held.ensures
