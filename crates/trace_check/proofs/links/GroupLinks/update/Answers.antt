use Rattle.std.proofs.Common.{◌≡◌, ◌++◌, List, length, refl, sym, ap, ◌∙◌, subst, arith}
use Rattle.std.specs.Prelude.{All}
use Rattle.std.specs.Vec.{with_items}
use Rattle.std.proofs.lemmas.List.{with_items_is}
use Rattle.rt_model.specs.Group.{Group, group_processors}
use Rattle.rt_model.specs.Histories.{after}
use Rattle.rt_model.specs.Past.{Past}
use Rattle.rt_plays.specs.Homes.{IsProcessorOf}
use Rattle.rank_afresh.specs.Standing.{group_of}
use Rattle.trace_lines.specs.declared.links.CpuLink.{CpuLink}
use Rattle.trace_lines.specs.Lines.{links_of}
use Rattle.trace_text.specs.Groups.{changed_links, cpus_in}
use Rattle.trace_text.specs.TraceText.{links_at}
use Rattle.trace_text.proofs.ReplayLaws.{links_there}
use Rattle.trace_text.proofs.StillLinks.{links-stay, none-changed, on-both}
use Rattle.trace_check.specs.declared.links.GroupLinks.{GroupLinks}
use Rattle.trace_check.proofs.LinkLaws.{have-changed}
use Rattle.trace_check.proofs.links.GroupLinks.update.Goals as goal

pub returns-then-not-has_placed : goal.returns-then-not-has_placed
returns-then-not-has_placed c = λ past step can.
    let g : Group = group_of c.args.afresh.now in
    let now : Past = after g step past in
    let same = c.has_placed.ensures past step can.stands c.if-not-has_placed.true in
    record {
      links_are = record { cpus_are = can.before.cpus_are; links_are = can.before.links_are ∙ sym (links-stay g past now (group_processors g) same) };
      changed_are = ap links_of c.clear.ensures.items ∙ sym (ap (links_at g now) (none-changed g past now same));
    }

pub read_again-requires : goal.read_again-requires
read_again-requires c =
    let past = c.requires.0 in
    let can = c.requires.2 in
    let g : Group = group_of c.args.afresh.now in
    subst (λ (xs : List CpuLink). All (λ (x : CpuLink). IsProcessorOf g x.cpu.0) xs) (sym c.as_mut_slice.ensures.value)
    (links_there g past c.args.self.now.links.items can.before.links_are)

pub returns : goal.returns
returns c =
    let g : Group = group_of c.args.afresh.now in
    let own : c.as_mut_slice.result.now ≡ c.args.self.now.links.items = c.as_mut_slice.ensures.value in
    let long : length c.read_again.new.links ≡ c.args.self.now.links.len = omega (arith, c.read_again.auto.links, ap length own, c.args.self.now.links.ok.0) in
    let written = with_items_is c.args.self.now.links c.read_again.new.links long in
    on-both c.read_again.result c.read_again.ensures.links c.read_again.ensures.changed (λ links told past step can.
    let now : Past = after g step past in
    let read : links_of c.read_again.new.links ≡ links_at g now (cpus_in c.args.self.now.links.items) =
    links now can.stands ∙ ap (λ (xs : List CpuLink). links_at g now (cpus_in xs)) own in
    let first : links_of c.read_again.new.changed.items ≡ links_of c.clear.new.self.items ++ changed_links (links_of c.as_mut_slice.result.now) (links_at g now (cpus_in c.as_mut_slice.result.now)) = told now can.stands in
    let more : links_of c.read_again.new.changed.items ≡ changed_links (links_of c.args.self.now.links.items) (links_at g now (cpus_in c.args.self.now.links.items)) = rw (first, c.clear.ensures.items, own) refl in
    let after_it : GroupLinks = record { cpus = c.args.self.now.cpus; links = with_items c.args.self.now.links c.read_again.new.links; changed = c.read_again.new.changed } in
    have-changed g past step c.args.self.now after_it can.before refl (ap links_of written ∙ read) more)
