use Rattle.ready_heap.proofs.ArenaLaws.{get_or-view, absent-kept, room_left, inside_view, view-insert, kept-insert}
use Rattle.ready_heap.proofs.arena.Arena.insert.Goals as goal

pub insert_reserved-at-requires : goal.insert_reserved-at-requires
insert_reserved-at-requires c =
    let inside = inside_view c.self.inside.nodes c.self.inside.kept.items _ c.args.task.0 c.self.view_is c.requires.room in
    room_left c.self.inside.nodes c.self.inside.kept.items c.args.task.0 c.self.invariant inside (absent-kept _ _ _ c.self.invariant (rw (← get_or-view, c.self.view_is) c.requires.absent))

pub invariant_of-self : goal.invariant_of-self
invariant_of-self c =
    let inside = inside_view c.self.inside.nodes c.self.inside.kept.items _ c.args.task.0 c.self.view_is c.requires.room in
    let e = c.insert_reserved-at.ensures in
    kept-insert _ _ _ c.args.task.0 _ c.args.node c.self.invariant inside e.was_vacant e.updates (absent-kept _ _ _ c.self.invariant (rw (← get_or-view, c.self.view_is) c.requires.absent)) e.len e.capacity

pub returns : goal.returns
returns c =
    let inside = inside_view c.self.inside.nodes c.self.inside.kept.items _ c.args.task.0 c.self.view_is c.requires.room in
    let e = c.insert_reserved-at.ensures in
    rw (← c.self.view_is) (view-insert c.self.inside.nodes _ c.self.inside.kept.items c.args.task.0 _ c.args.node c.self.invariant inside e.was_vacant e.updates)
