use Rattle.std.proofs.Common.{◌∙◌, ◌++◌, ◌∷◌, [], ap, append_assoc}
use Rattle.std.specs.Prelude.{codes, flat_map}
use Rattle.std.proofs.lemmas.Result.{on_ok_weaker}
use Rattle.rt_model.specs.Group.{group_processors}
use Rattle.trace_lines.specs.Lines.{links_of}
use Rattle.why_texts.specs.Pieces.{line}
use Rattle.why_texts.specs.WhyText.{link_line}
use Rattle.view_why.specs.inside.LinkLines.{lines_of}
use Rattle.view_why.proofs.EntryLaws.{links-lines}
use Rattle.view_why.specs.inside.Groups.{group_of}
use Rattle.view_why.proofs.entries.put_link_lines.Goals as goal

pub returns : goal.returns
returns c =
    on_ok_weaker c.put_links.result (λ put past links.
    let g = group_of c.args.members.now in
    let mid = c.put.new.out.items in
    put ∙ ap (λ ls. mid ++ lines_of g (links_of ls)) c.as_slice.ensures.value ∙ ap (λ ls. mid ++ lines_of g ls) links ∙ ap (λ ys. mid ++ ys) (links-lines g past (group_processors g))
    ∙ ap (λ ys. ys ++ flat_map (link_line g past) (group_processors g)) c.in_ok-put.ensures ∙ append_assoc c.args.out.now.items (line (codes "links before" ∷ [])) (flat_map (link_line g past) (group_processors g))) c.put_links.ensures
