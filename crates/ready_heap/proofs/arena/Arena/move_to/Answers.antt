use Rattle.std.proofs.Common.{◌≡◌, None, Some, get_or}
use Rattle.ready_heap.specs.Arena.{with_position}
use Rattle.ready_heap.proofs.ArenaLaws.{get_or-view, inside_view, kept_read, view-with_value}
use Rattle.ready_heap.proofs.arena.Arena.move_to.Goals as goal

pub returns-in-Some-get_mut : goal.returns-in-Some-get_mut
returns-in-Some-get_mut c =
    let inside = inside_view c.self.inside.nodes c.self.inside.kept.items _ c.args.task.0 c.self.view_is c.requires in
    let of_task : get_or c.self.inside.kept.items c.args.task.0 None ≡ Some c.in-Some.at = kept_read _ _ _ _ inside c.index.ensures c.in-Some.is in
    rw (← c.self.view_is, get_or-view, of_task, ← c.in-Some-get_mut.ensures.value) (view-with_value c.self.inside.nodes c.self.inside.kept.items c.args.task.0 c.in-Some.at c.in-Some-get_mut.node.now (with_position c.args.position c.in-Some-get_mut.node.now) c.self.invariant of_task c.in-Some-get_mut.ensures.value)
