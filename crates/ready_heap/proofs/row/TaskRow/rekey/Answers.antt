use Rattle.std.proofs.Common.{◌≡◌, ◌<◌, get_or, length, ap, ◌∙◌, arith}
use Rattle.rt_base.specs.TaskNos.{numbers}
use Rattle.ready_heap.specs.Row.{position_in}
use Rattle.ready_heap.proofs.KeyedLaws.{keyed-rekey}
use Rattle.ready_heap.proofs.RowLaws.{row-placed, placed-rekey, keys_in-rekeyed, in_list, read_number, length-numbers}
use Rattle.ready_heap.proofs.row.TaskRow.rekey.Goals as goal
use Rattle.ready_heap.proofs.row.TaskRow.rekey.Goals.{After-index-task}

inside : (c : After-index-task) → c.args.position < length (numbers c.self.inside.places.tasks.items)
inside c = rw (← c.self.view_is) at c.requires

task : (c : After-index-task) → c.index-task.result.now.0 ≡ get_or (numbers c.self.inside.places.tasks.items) c.args.position 0
task c = read_number c.self.inside.places.tasks.items c.args.position c.index-task.result.now (rw (length-numbers c.self.inside.places.tasks.items) at (inside c)) c.index-task.ensures

pub index_mut-requires : goal.index_mut-requires
index_mut-requires c =
    let at = inside (goal.at.index_mut-requires c).After-index-task in
    omega (arith, at, c.self.invariant.keyed.same_length, c.self.inside.places.keys.ok.0)

below : (c : After-index-task) → c.index-task.result.now.0 < length c.self.inside.places.arena
below c = in_list c.self.inside.places.arena c.index-task.result.now.0 c.args.position (ap (position_in c.self.inside.places.arena) (task c) ∙ c.self.invariant.placed.tells.told c.args.position (inside c))

pub rekey-requires : goal.rekey-requires
rekey-requires c = below (goal.at.rekey-requires c).After-index-task

pub invariant_of-self : goal.invariant_of-self
invariant_of-self c =
    let here = (goal.at.invariant_of-self c).After-index-task in record {
      placed = rw c.rekey.ensures (placed-rekey _ _ _ c.self.invariant.placed c.index-task.result.now.0 c.args.key (below here));
      keyed = rw (c.rekey.ensures, task here) (keyed-rekey _ _ _ _ _ c.self.invariant.placed c.self.invariant.keyed c.args.position c.args.key (inside here));
    }

pub returns-clause-rekeyed : goal.returns-clause-rekeyed
returns-clause-rekeyed c =
    let here = (goal.at.returns-clause-rekeyed c).After-index-task in
    let some = (row-placed _ _ _ c.self.invariant.placed).keyed c.args.position (inside here) in
    rw (← c.self.view_is, c.rekey.ensures, task here, keys_in-rekeyed c.self.inside.places.arena _ c.args.key some)

pub returns-clause-sound : goal.returns-clause-sound
returns-clause-sound c = row-placed _ _ _ (invariant_of-self c).placed
