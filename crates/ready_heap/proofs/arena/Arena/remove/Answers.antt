use Rattle.std.proofs.Common.{◌≡◌, None, get_or, set, sym, ap, ◌∙◌}
use Rattle.std.proofs.lemmas.List.{set-get_or}
use Rattle.ready_heap.proofs.ArenaLaws.{get_or-view, inside_view, kept_read, view-remove, kept-remove}
use Rattle.ready_heap.proofs.arena.Arena.remove.Goals as goal

pub remove-requires : goal.remove-requires
remove-requires c =
    let inside = inside_view c.self.inside.nodes c.self.inside.kept.items _ c.args.task.0 c.self.view_is c.requires in
    c.self.invariant.live c.args.task.0 c.in-Some.at (kept_read _ _ _ _ inside c.index.ensures c.in-Some.is)

pub invariant_of-self : goal.invariant_of-self
invariant_of-self c =
    let inside = inside_view c.self.inside.nodes c.self.inside.kept.items _ c.args.task.0 c.self.view_is c.requires in
    kept-remove _ _ _ _ _ c.self.invariant inside (kept_read _ _ _ _ inside c.index.ensures c.in-Some.is) c.remove.ensures.updates c.remove.ensures.len c.remove.ensures.capacity

pub returns-in-Some : goal.returns-in-Some
returns-in-Some c =
    let inside = inside_view c.self.inside.nodes c.self.inside.kept.items _ c.args.task.0 c.self.view_is c.requires in
    rw (← c.self.view_is) (view-remove c.self.inside.nodes _ c.self.inside.kept.items c.args.task.0 _ c.self.invariant inside (kept_read _ _ _ _ inside c.index.ensures c.in-Some.is) c.remove.ensures.updates)

pub returns-in_default : goal.returns-in_default
returns-in_default c =
    let inside = inside_view c.self.inside.nodes c.self.inside.kept.items _ c.args.task.0 c.self.view_is c.requires in
    let none : get_or c.self.inside.kept.items c.args.task.0 None ≡ None = kept_read _ _ _ _ inside c.index.ensures c.in_default.is in
    let absent : get_or c.args.self.now c.args.task.0 None ≡ None = rw (← c.self.view_is, get_or-view, none) in
    sym (set-get_or c.args.self.now c.args.task.0 None) ∙ ap (set c.args.self.now c.args.task.0) absent
