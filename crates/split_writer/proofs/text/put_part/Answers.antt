use Rattle.std.proofs.Common.{ℕ, List, [], ◌∷◌, ◌++◌, length, get_or, ap, ◌∙◌, append_assoc, codes, decimal}
use Rattle.std.specs.Prelude.{Option}
use Rattle.rt_base.specs.TaskNos.{number_of_task, numbers_of_tasks}
use Rattle.rt_base.specs.declared.TaskNo.{TaskNo}
use Rattle.split_text.specs.SplitText.{known, line_of}
use Rattle.split_writer.specs.inside.Texts.{lines_with, texts}
use Rattle.split_writer.proofs.ListTexts.{links-all, part-whole}
use Rattle.split_writer.proofs.text.put_part.Goals as goal
use Rattle.trace_lines.specs.Grammar.{target_word}

pub put_entries-requires : goal.put_entries-requires
put_entries-requires c =
    ap length c.as_slice.ensures.value ∙ links-all c.args.parts.now c.args.cpu.0 c.args.entries.now c.in_ok-links.links.items c.in_ok-links.ensures

pub returns : goal.returns
returns c =
    let p = c.args.parts.now in let q = c.args.cpu.0 in let es = c.args.entries.now in let ls = c.in_ok-links.links.items in
    let opening : Option TaskNo → List ℕ = λ o. line_of (codes "part" ∷ decimal q ∷ target_word (known p) (number_of_task o) ∷ []) in
    c.in_ok-put_entries.ensures
    ∙ ap (λ xs. xs ++ texts (lines_with (known p) 0 (numbers_of_tasks c.as_slice.result.now) es)) c.in_ok-put_opening.ensures
    ∙ append_assoc c.args.out.now.items (opening c.index.result.now) (texts (lines_with (known p) 0 (numbers_of_tasks c.as_slice.result.now) es))
    ∙ ap (λ xs. c.args.out.now.items ++ xs)
    (ap (λ o. opening o ++ texts (lines_with (known p) 0 (numbers_of_tasks c.as_slice.result.now) es)) c.index.ensures
    ∙ ap (λ xs. opening (get_or ls 0 c.index.result.now) ++ texts (lines_with (known p) 0 (numbers_of_tasks xs) es)) c.as_slice.ensures.value
    ∙ part-whole p q es ls c.in_ok-links.ensures c.index.result.now)
