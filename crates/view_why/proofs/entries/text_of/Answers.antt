use Rattle.std.proofs.Common.{◌∙◌, ◌++◌, ap, append_assoc}
use Rattle.view_why.specs.inside.Parts.{act_lines, link_lines, states_lines}
use Rattle.view_why.proofs.EntryLaws.{entry-parts}
use Rattle.view_why.specs.inside.Groups.{group_of}
use Rattle.view_why.proofs.entries.text_of.Goals as goal

pub returns : goal.returns
returns c = λ past notes at.
    let g = group_of c.args.members.now in
    let e = c.args.entry.now in
    let acts = act_lines g c.args.number e past in
    let links = link_lines g past in
    let states = states_lines g e.step past in
    c.in_ok-put_states.ensures past notes at ∙ ap (λ ys. ys ++ states) (c.in_ok-put_link_lines.ensures past notes.links_are ∙ ap (λ ys. ys ++ links) (c.in_ok-put_act_lines.ensures past notes at ∙ ap (λ ys. ys ++ acts) c.new-text.ensures.items))
    ∙ append_assoc acts links states ∙ entry-parts g c.args.number e past
