use Rattle.std.proofs.Common.{◌∙◌, sym, ap, subst}
use Rattle.std.specs.Prelude.{All}
use Rattle.rt_base.specs.declared.CpuNo.{CpuNo}
use Rattle.rt_model.specs.Group.{Group}
use Rattle.rt_plays.specs.Homes.{IsProcessorOf}
use Rattle.trace_lines.specs.Lines.{links_of}
use Rattle.trace_text.specs.Groups.{cpu_numbers}
use Rattle.trace_text.specs.TraceText.{links_at}
use Rattle.trace_text.proofs.ReplayLaws.{AreRead, as_many, changed_by, cpus_there}
use Rattle.view_why.specs.inside.Groups.{group_of}
use Rattle.view_why.proofs.entries.changed_links.Goals as goal

pub read_links-requires : goal.read_links-requires
read_links-requires c =
    subst (λ (g : Group). All (λ (q : CpuNo). IsProcessorOf g q.0) c.as_slice.result.now) (sym (c.afresh.ensures.group ∙ c.requires.group))
    (cpus_there (group_of c.args.members.now) c.as_slice.result.now (ap cpu_numbers c.as_slice.ensures.value ∙ c.requires.members.cpus_are))

pub put_changed-requires : goal.put_changed-requires
put_changed-requires c =
    let g = group_of c.args.members.now in
    let now = c.requires.links.1 in
    as_many g c.requires.links.0 now c.args.before.now c.as_slice-2.result.now (record {
      before_are = c.requires.links.3;
      links_are = ap links_of c.as_slice-2.ensures.value ∙ c.in_ok-now.ensures now (c.afresh.ensures.at now c.requires.links.2) ∙ ap (λ (x : Group). links_at x now (cpu_numbers c.as_slice.result.now)) (c.afresh.ensures.group ∙ c.requires.group) ∙ ap (λ ns. links_at g now ns) (ap cpu_numbers c.as_slice.ensures.value ∙ c.requires.members.cpus_are);
    })

pub returns : goal.returns
returns c = λ was now at before.
    let g = group_of c.args.members.now in
    let read : AreRead g was now c.args.before.now c.as_slice-2.result.now = record {
      before_are = before;
      links_are = ap links_of c.as_slice-2.ensures.value ∙ c.in_ok-now.ensures now (c.afresh.ensures.at now at) ∙ ap (λ (x : Group). links_at x now (cpu_numbers c.as_slice.result.now)) (c.afresh.ensures.group ∙ c.requires.group) ∙ ap (λ ns. links_at g now ns) (ap cpu_numbers c.as_slice.ensures.value ∙ c.requires.members.cpus_are);
    } in
    c.in_ok-put_changed.ensures ∙ changed_by g was now c.args.before.now c.as_slice-2.result.now read
