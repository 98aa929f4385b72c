use Rattle.std.proofs.Common.{◌<◌, Some, length, ap, ◌∙◌, arith}
use Rattle.rt_base.specs.TaskNos.{numbers}
use Rattle.ready_heap.proofs.KeyedLaws.{read_key}
use Rattle.ready_heap.proofs.row.TaskRow.key.Goals as goal

pub index-requires : goal.index-requires
index-requires c =
    let at : c.args.position < length (numbers c.self.inside.places.tasks.items) = rw (← c.self.view_is) at c.requires in
    omega (arith, at, c.self.invariant.keyed.same_length, c.self.inside.places.keys.ok.0)

pub returns : goal.returns
returns c =
    let at : c.args.position < length (numbers c.self.inside.places.tasks.items) = rw (← c.self.view_is) at c.requires in
    let beside = read_key c.self.inside.places.keys.items c.args.position c.index.result.now (omega (arith, at, c.self.invariant.keyed.same_length)) c.index.ensures in
    rw (← c.self.view_is) (c.self.invariant.keyed.each c.args.position at ∙ ap (λ k. Some k) beside)
