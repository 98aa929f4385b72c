use Rattle.std.proofs.Common.{◌++◌, ap, ◌∙◌, append_assoc, codes}
use Rattle.rt_task.specs.declared.Parts.{Parts}
use Rattle.split_text.specs.SplitText.{parts_from, sems_from, split_text}
use Rattle.split_writer.specs.PartPlays.{lists}
use Rattle.split_writer.specs.inside.Texts.{texts}
use Rattle.split_writer.proofs.ListTexts.{text-whole}
use Rattle.split_writer.proofs.text.split_text_of.Goals as goal

pub returns : goal.returns
returns c =
    let p = c.parts-parts.result.now in let books = lists c.args.sems.now in let parts = lists c.args.partitions.now in
    c.in_ok-extend_from_slice.ensures.items
    ∙ ap (λ xs. xs ++ codes "end\n") c.in_ok-put_parts.ensures
    ∙ append_assoc c.put_sems.new.out.items (texts (parts_from p 0 parts)) (codes "end\n")
    ∙ ap (λ xs. xs ++ (texts (parts_from p 0 parts) ++ codes "end\n")) (c.in_ok-put_sems.ensures ∙ ap (λ xs. xs ++ texts (sems_from p 1 books)) c.in_ok-out.ensures)
    ∙ text-whole p books parts
    ∙ ap (λ (x : Parts). split_text x books parts) c.parts-parts.ensures.parts
