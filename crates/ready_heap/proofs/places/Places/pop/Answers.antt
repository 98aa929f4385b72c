use Rattle.std.proofs.Common.{◌≡◌, ◌∙◌, ap, subst, [], ◌∷◌, ◌++◌}
use Rattle.std.specs.Prelude.{vec_capacity}
use Rattle.rt_base.specs.TaskNos.{numbers}
use Rattle.ready_heap.specs.Row.{IsKeyed}
use Rattle.ready_heap.proofs.KeyedLaws.{keyed-pop}
use Rattle.ready_heap.proofs.RowLaws.{placed-pop, last_inside, popped-lists, numbers-append}
use Rattle.ready_heap.proofs.places.Places.pop.Goals as goal
use Rattle.ready_heap.proofs.places.Places.pop.Goals.{In-Some-Some}

-- the tasks before, and the last
items : (c : In-Some-Some) → numbers c.args.self.now.tasks.items ≡ numbers c.pop.new.self.items ++ c.in-Some-Some.task.0 ∷ []
items c = ap numbers c.in-Some-Some.ensures.items ∙ numbers-append _ _

pub remove-requires : goal.remove-requires
remove-requires c =
    let placed = rw (items (goal.at.remove-requires c).In-Some-Some) at c.requires.sound.placed in
    last_inside _ _ _ _ placed

pub returns-clause-popped : goal.returns-clause-popped
returns-clause-popped c = rw (items (goal.at.returns-clause-popped c).In-Some-Some, c.remove.ensures) (popped-lists _ _ _)

pub returns-clause-sound : goal.returns-clause-sound
returns-clause-sound c =
    let is = items (goal.at.returns-clause-sound c).In-Some-Some in
    let placed = rw is at c.requires.sound.placed in
    let keyed = subst (λ ks. IsKeyed c.args.self.now.arena (numbers c.pop.new.self.items ++ c.in-Some-Some.task.0 ∷ []) ks (vec_capacity c.args.self.now.keys)) c.in-Some-Some.ensures'.items (rw is at c.requires.sound.keyed) in
    record {
      placed = rw (c.remove.ensures, c.in-Some-Some.ensures.capacity) (placed-pop _ _ _ _ placed);
      keyed = rw (c.remove.ensures, c.in-Some-Some.ensures'.capacity) (keyed-pop _ _ _ _ _ _ _ placed keyed);
    }
