use Rattle.std.proofs.Common.{◌≡◌, ◌<◌, ◌∙◌, ap, subst, [], ◌∷◌, ◌++◌, get_or, length, arith}
use Rattle.std.specs.Prelude.{vec_capacity}
use Rattle.rt_base.specs.TaskNos.{numbers}
use Rattle.ready_heap.specs.Row.{IsKeyed, IsPlaced}
use Rattle.ready_heap.proofs.RowLaws.{numbers-append, numbers-set, read_number, length-numbers, length-snoc}
use Rattle.ready_heap.proofs.HeldLaws.{placed-taken, keyed-taken, key-taken, taken-lists, taken-inside, entry-taken}
use Rattle.ready_heap.proofs.places.Places.take_out.Goals as goal
use Rattle.ready_heap.proofs.places.Places.take_out.Goals.{After-index-gone}

-- the tasks before, and the last
items : (c : After-index-gone) → numbers c.args.self.now.tasks.items ≡ numbers c.pop.new.self.items ++ c.in-Some-Some.task.0 ∷ []
items c = ap numbers c.in-Some-Some.ensures.items ∙ numbers-append _ _

low : (c : After-index-gone) → c.args.position < length (numbers c.pop.new.self.items)
low c = omega (arith, c.requires.inside, ap length (items c), length-snoc (numbers c.pop.new.self.items) c.in-Some-Some.task.0)

gone : (c : After-index-gone) → c.index-gone.result.now.0 ≡ get_or (numbers c.pop.new.self.items) c.args.position 0
gone c = read_number c.pop.new.self.items c.args.position c.index-gone.result.now (rw (length-numbers c.pop.new.self.items) at (low c)) c.index-gone.ensures

placed : (c : After-index-gone) → IsPlaced c.args.self.now.arena (numbers c.pop.new.self.items ++ c.in-Some-Some.task.0 ∷ []) (vec_capacity c.args.self.now.tasks)
placed c = rw (items c) at c.requires.sound.placed

keyed : (c : After-index-gone) → IsKeyed c.args.self.now.arena (numbers c.pop.new.self.items ++ c.in-Some-Some.task.0 ∷ []) (c.pop-2.new.self.items ++ c.in-Some-Some.key ∷ []) (vec_capacity c.args.self.now.keys)
keyed c = subst (λ ks. IsKeyed c.args.self.now.arena (numbers c.pop.new.self.items ++ c.in-Some-Some.task.0 ∷ []) ks (vec_capacity c.args.self.now.keys)) c.in-Some-Some.ensures'.items (rw (items c) at c.requires.sound.keyed)

pub remove-requires : goal.remove-requires
remove-requires c =
    let here = (goal.at.remove-requires c).After-index-gone in
    rw (gone here) (taken-inside _ _ _ _ _ (low here) (placed here))

pub returns-clause-taken : goal.returns-clause-taken
returns-clause-taken c =
    let here = (goal.at.returns-clause-taken c).After-index-gone in
    rw (items here, c.remove.ensures, numbers-set, gone here) (taken-lists _ _ _ _ _ _ _ c.args.position (low here) (placed here) (keyed here))

pub returns-clause-held : goal.returns-clause-held
returns-clause-held c =
    let here = (goal.at.returns-clause-held c).After-index-gone in
    record {
      placed = rw (c.remove.ensures, c.in-Some-Some.ensures.capacity, numbers-set, gone here) (placed-taken _ _ _ _ _ _ _ c.args.position (low here) (placed here) (keyed here));
      keyed = rw (c.remove.ensures, c.in-Some-Some.ensures'.capacity, numbers-set, gone here) (keyed-taken _ _ _ _ _ _ _ c.args.position (low here) (placed here) (keyed here));
      key = rw (c.remove.ensures, gone here) (key-taken _ _ _ _ _ _ _ c.args.position (low here) (placed here) (keyed here));
    }

pub returns-clause-last : goal.returns-clause-last
returns-clause-last c =
    let here = (goal.at.returns-clause-last c).After-index-gone in
    rw (c.remove.ensures, numbers-set, gone here) (entry-taken _ _ _ _ _ _ _ c.args.position (low here) (placed here) (keyed here))
