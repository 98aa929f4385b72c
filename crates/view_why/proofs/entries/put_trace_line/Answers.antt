use Rattle.std.proofs.Common.{◌∙◌, ◌++◌, List, ap}
use Rattle.std.proofs.lemmas.Result.{on_ok_weaker}
use Rattle.rt_model.specs.Histories.{after}
use Rattle.view_why.specs.inside.Groups.{group_of}
use Rattle.trace_lines.specs.Grammar.{line_text}
use Rattle.trace_lines.specs.Known.{known_of}
use Rattle.trace_lines.specs.Lines.{Link, entry_line, links_of}
use Rattle.trace_lines.specs.declared.format.Version.TheVariants.{Two}
use Rattle.view_why.proofs.entries.put_trace_line.Goals as goal

pub changed_links-requires-clause-links : goal.changed_links-requires-clause-links
changed_links-requires-clause-links c = (c.requires.noted.0, after (group_of c.args.members.now) c.args.entry.now.step c.requires.noted.0, c.requires.noted.2, ap links_of c.as_slice.ensures.value ∙ c.requires.noted.1.links_are)

pub returns : goal.returns
returns c =
    on_ok_weaker c.put_entry_line.result (λ put past notes at.
    let g = group_of c.args.members.now in
    put ∙ ap (λ (ls : List Link). c.args.out.now.items ++ line_text (known_of Two g.setup) (entry_line c.args.number c.args.entry.now ls))
    (ap links_of c.as_slice-2.ensures.value ∙ c.in_ok-changed.ensures past (after g c.args.entry.now.step past) at (ap links_of c.as_slice.ensures.value ∙ notes.links_are))) c.put_entry_line.ensures
