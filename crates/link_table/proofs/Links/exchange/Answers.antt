use Rattle.std.proofs.Common.{◌≡◌, ◌∙◌, ap, length, rules, sym}
use Rattle.std.proofs.lemmas.List.{with_items_is}
use Rattle.std.specs.Vec.{with_items}
use Rattle.rt_base.specs.TaskNos.{number_of_task, numbers_of_tasks}
use Rattle.link_table.specs.Linked.{exchanged}
use Rattle.link_table.proofs.ExchangeLaws.{among-exchanged, placed-exchanged, sound-exchanged}
use Rattle.link_table.proofs.Links.exchange.Goals as goal

links-are : (c : goal.After-self-1) → numbers_of_tasks (with_items c.self.inside.links c.exchange.new.links).items ≡ exchanged (number_of_task c.args.left) (number_of_task c.args.came) (numbers_of_tasks c.self.inside.links.items)
links-are c =
    let same : length c.exchange.new.links ≡ length c.self.inside.links.items = search rules in
    let items_are = with_items_is c.self.inside.links c.exchange.new.links (same ∙ sym c.self.inside.links.ok.0) in
    ap numbers_of_tasks items_are ∙ c.exchange.ensures ∙ ap (λ os. exchanged (number_of_task c.args.left) (number_of_task c.args.came) (numbers_of_tasks os)) c.as_mut_slice.ensures.value

pub returns-clause-sound : goal.returns-clause-sound
returns-clause-sound c = rw (links-are c) (sound-exchanged _ _ _ c.self.invariant.0 (rw (← c.self.view_is) at c.requires.placed))

pub returns-clause-among : goal.returns-clause-among
returns-clause-among c = rw (← c.self.view_is, links-are c) (among-exchanged _ _ _ c.self.invariant.0 (rw (← c.self.view_is) at c.requires.placed))

pub returns-clause-placed : goal.returns-clause-placed
returns-clause-placed c =
    let idle = rw (← c.self.view_is) at c.requires.placed.idle in
    rw (← c.self.view_is, links-are c) (λ old new change before fits once. ap (λ ls. record { first = c.self.inside.first; runs = numbers_of_tasks c.self.inside.runs.items; links = ls }) (sym (placed-exchanged _ old new _ _ c.self.invariant.0 change before once idle)))

pub invariant_of-self : goal.invariant_of-self
invariant_of-self c = (returns-clause-sound c, c.self.invariant.1, c.self.invariant.2)
