use Rattle.std.proofs.Common.{rules}
use Rattle.ready_heap.proofs.ArenaLaws.{view-replicate}
use Rattle.ready_heap.proofs.arena.Arena.new.Goals as goal

pub returns : goal.returns
returns c = rw (c.in_ok-kept.ensures.items_if_clones_equal (search rules)) (view-replicate c.in_ok-nodes.nodes c.args.room)
