use Rattle.std.proofs.Common.{◌≡◌, true, false, [], ◌∷◌, ◌++◌}
use Rattle.std.specs.Prelude.{Some}
use Rattle.rt_base.specs.TaskNos.{numbers, number_of_task}
use Rattle.rt_rules.specs.Numbers.{first, rest}
use Rattle.sem_laws.specs.KeptKeys.{above}
use Rattle.sem_laws.proofs.TaskNumbers.{numbers-push, numbers-rest}
use Rattle.omlp_sem.proofs.ListLaws.{omlp-rest, omlp-handed, nobody-handed, nobody-left}
use Rattle.omlp_sem.proofs.OmlpSem.release.Goals as goal
use Rattle.omlp_sem.proofs.OmlpSem.release.Goals.{in-Some, in_default}

pub invariant_of-self : goal.invariant_of-self
invariant_of-self c =
    let holds : first (numbers c.self.inside.fifo.items) ≡ Some c.args.task.0 = rw (← c.self.view_is) at c.requires in
    rw (c.in-Some.ensures.after, c.push_back_reserved.ensures.items, numbers-push, c.pop_front.ensures.rest, numbers-rest, c.push_back_reserved.ensures.capacity, c.pop_front.ensures.capacity)
    (omlp-handed _ _ _ _ _ c.self.invariant (above c.self.inside.queue.keys) c.args.task.0 c.in-Some.next.0 holds c.in-Some.ensures.highest)

pub invariant_of-self-in_default : goal.invariant_of-self-in_default
invariant_of-self-in_default c =
    rw (c.pop.ensures.after, c.in_default.is, c.pop_front.ensures.rest, numbers-rest, c.pop_front.ensures.capacity) (omlp-rest _ _ _ _ _ c.self.invariant)

pub returns-clause-nobody : goal.returns-clause-nobody
returns-clause-nobody c =
    elim c.match-pop.branch [
      | in-Some w ↦
          let e : number_of_task c.holder.result ≡ first (rest (numbers c.self.inside.fifo.items) ++ w.in-Some.next.0 ∷ []) = rw (w.self-is, w.push_back_reserved.ensures.items, numbers-push, c.pop_front.ensures.rest, numbers-rest) at c.holder.ensures in
          rw (← c.self.view_is) (nobody-handed c.holder.result _ _ w.in-Some.next.0 e (λ n. let k : true ≡ false = w.in-Some.ensures.nobody.1 n in cc))
      | in_default w ↦
          let e : number_of_task c.holder.result ≡ first (rest (numbers c.self.inside.fifo.items)) = rw (w.self-is, c.pop_front.ensures.rest, numbers-rest) at c.holder.ensures in
          rw (← c.self.view_is) (nobody-left c.holder.result _ _ e (c.pop.ensures.nobody.0 (rw w.in_default.is)))
    ]
