use Rattle.std.proofs.Common.{◌≡◌, ℕ, List, ◌∷◌, [], true, length, arith, sym, refl}
use Rattle.rt_rules.specs.Numbers.{has}
use Rattle.key_queue.proofs.QueueLaws.{top_waits, queue-pop, foremost-top}
use Rattle.key_queue.proofs.queue.KeyQueue.pop.Goals as goal

pub remove-requires : goal.remove-requires
remove-requires c = top_waits _ _ _ _ _ _ c.self.invariant c.in-Some.field-0 _ c.in-Some.ensures.permutation

pub invariant_of-self : goal.invariant_of-self
invariant_of-self c = rw c.remove.ensures (queue-pop _ _ _ _ _ _ c.self.invariant c.in-Some.field-0 _ c.in-Some.ensures.permutation _ _ (c.in-Some.ensures.heap_order c.self.invariant.ordered).0 c.in-Some.ensures.capacity c.in-Some.ensures.len)

pub returns-in-Some-clause-highest : goal.returns-in-Some-clause-highest
returns-in-Some-clause-highest c = rw (← c.self.view_is) (sym (foremost-top _ _ _ _ _ _ c.self.invariant c.in-Some.field-0 _ c.in-Some.ensures.permutation (c.in-Some.ensures.below_top c.self.invariant.ordered)))

pub returns-in-Some-clause-nobody : goal.returns-in-Some-clause-nobody
returns-in-Some-clause-nobody c =
    let there = top_waits _ _ _ _ _ _ c.self.invariant c.in-Some.field-0 _ c.in-Some.ensures.permutation in
    rw (← c.self.view_is) (λ e. cc, λ e. let n : has c.in-Some.field-0.0.task [] ≡ true = rw e at there in cc)

nothing : (ts : List ℕ) → length ts ≡ 0 → ts ≡ []
nothing [] h = cc
nothing (t ∷ ts) h = absurd (omega arith)

pub returns-in-None-clause-highest : goal.returns-in-None-clause-highest
returns-in-None-clause-highest c =
    let none : c.self.inside.line.tasks ≡ [] = nothing _ (omega (arith, c.self.invariant.size_is, c.in-None.ensures.none)) in
    rw (← c.self.view_is, none)

pub returns-in-None-clause-nobody : goal.returns-in-None-clause-nobody
returns-in-None-clause-nobody c =
    let none : c.self.inside.line.tasks ≡ [] = nothing _ (omega (arith, c.self.invariant.size_is, c.in-None.ensures.none)) in
    rw (← c.self.view_is) (λ e. none, λ e. refl)
