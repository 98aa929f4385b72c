use Rattle.std.proofs.Common.{◌≡◌, ◌∙◌, ◌-◌, ◌<◌, length, sym, ap, arith}
use Rattle.std.proofs.lemmas.List.{length-map}
use Rattle.rt_base.specs.TaskNos.{number_of_task}
use Rattle.link_table.specs.Linked.{Linked}
use Rattle.link_table.proofs.PlaceLaws.{read-link_at}
use Rattle.link_table.proofs.Links.linked.Goals as goal

pub returns-clause-link : goal.returns-clause-link
returns-clause-link c =
    let place : c.position_of.result ≡ c.args.q.0 - c.self.inside.first = c.position_of.ensures.place ∙ ap (λ (l : Linked). c.args.q.0 - l.first) (sym c.self.view_is) in
    let same : length c.self.inside.links.items ≡ length c.args.self.now.links = sym (length-map c.self.inside.links.items number_of_task) ∙ ap (λ (l : Linked). length l.links) c.self.view_is in
    let inside : c.position_of.result < length c.self.inside.links.items = omega (arith, c.position_of.ensures.links) in
    rw (← c.self.view_is, ← place) (read-link_at _ _ _ inside c.index.ensures)
