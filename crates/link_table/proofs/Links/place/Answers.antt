use Rattle.std.proofs.Common.{◌≡◌, ◌∙◌, ap, sym, length, ◌≤◌, arith, rules}
use Rattle.std.proofs.lemmas.List.{with_items_is, length-map}
use Rattle.rt_base.specs.TaskNos.{numbers, numbers_of_tasks}
use Rattle.link_table.specs.Linked.{Linked}
use Rattle.link_table.proofs.AmongLaws.{among-placed}
use Rattle.link_table.proofs.SoundLaws.{sound-placed}
use Rattle.link_table.proofs.Links.place.Goals as goal

pub returns-clause-sound : goal.returns-clause-sound
returns-clause-sound c =
    let same : length c.place.new.links ≡ length c.self.inside.links.items = search rules in
    let items_are = with_items_is c.self.inside.links c.place.new.links (same ∙ sym c.self.inside.links.ok.0) in
    let fits : length c.args.top.now ≤ length (numbers_of_tasks c.self.inside.runs.items) = omega (arith, c.requires.fits, ap (λ (l : Linked). length l.runs) c.self.view_is) in
    let fit : length (numbers c.args.top.now) ≤ length (numbers_of_tasks c.self.inside.runs.items) = rw length-map fits in
    rw (items_are, c.place.ensures.placed, c.as_slice.ensures.value, c.as_mut_slice.ensures.value) (sound-placed _ _ c.self.invariant.0 c.requires.distinct fit)

pub returns-clause-among : goal.returns-clause-among
returns-clause-among c =
    let same : length c.place.new.links ≡ length c.self.inside.links.items = search rules in
    let items_are = with_items_is c.self.inside.links c.place.new.links (same ∙ sym c.self.inside.links.ok.0) in
    let fits : length c.args.top.now ≤ length (numbers_of_tasks c.self.inside.runs.items) = omega (arith, c.requires.fits, ap (λ (l : Linked). length l.runs) c.self.view_is) in
    let fit : length (numbers c.args.top.now) ≤ length (numbers_of_tasks c.self.inside.runs.items) = rw length-map fits in
    rw (← c.self.view_is, items_are, c.place.ensures.placed, c.as_slice.ensures.value, c.as_mut_slice.ensures.value) (among-placed _ _ c.self.invariant.0 c.requires.distinct fit)

pub invariant_of-self : goal.invariant_of-self
invariant_of-self c = (returns-clause-sound c, c.place.ensures.top_clear, c.self.invariant.2)
