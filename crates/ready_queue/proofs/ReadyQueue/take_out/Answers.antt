use Rattle.std.proofs.Common.{◌≡◌, None, Some, false, true, length, not, refl, sym, ap, ◌∙◌, arith, is_some}
use Rattle.rt_rules.specs.Numbers.{has}
use Rattle.rt_rules.specs.Rankings.{tasks_of}
use Rattle.ready_queue.specs.Queue.{Queue, is_first}
use Rattle.ready_queue.proofs.ExchangeLaws.{exchanged-followed, exchanged-taken, first-exchanged, none-exchanged}
use Rattle.ready_queue.proofs.FirstLaws.{first-top}
use Rattle.ready_queue.proofs.SplitLaws.{absent-top, distinct-top, few-top, in-top, length-without_task, rest-apart, split-behind, split-rest_taken, split-top_taken, split-followed}
use Rattle.ready_queue.proofs.ReadyQueue.take_out.Goals as goal
use Rattle.ready_queue.proofs.ReadyQueue.take_out.Goals.{then-not-was_in-via-then-not-was_in, then-not-was_in-via-else-not-was_in+then-was_behind}

pub invariant_of-self : goal.invariant_of-self
invariant_of-self c =
    let room = rw (← c.self.view_is) at c.requires in
    let out : has c.args.task.0 (tasks_of c.self.inside.first.tasks) ≡ false = elim c.then-not-was_in.branch [
      | then-not-was_in-via-then-not-was_in w ↦ absent-top _ _ _ c.self.invariant.0 c.args.task.0 (sym c.take_out-was_in.ensures.was_in ∙ w.if-not-was_in.true)
      | then-not-was_in-via-else-not-was_in+then-was_behind w ↦ rest-apart _ _ _ c.self.invariant.0 c.args.task.0 (sym c.take_out-was_behind.ensures.was_in ∙ w.if-was_behind.true)
    ] in
    (rw (c.take_out-was_in.ensures.removed, c.take_out-was_behind.ensures.removed) (split-rest_taken _ _ _ c.self.invariant.0 c.args.task.0 room out), c.self.invariant.1)

pub insert-requires : goal.insert-requires
insert-requires c =
    let few = few-top _ _ _ c.self.invariant.0 in
    let fewer = length-without_task c.args.task.0 c.self.inside.first.tasks in
    let now = ap length c.remove.ensures.tasks in
    omega (arith, c.self.invariant.1, c.remove.ensures.room)

pub invariant_of-self-2 : goal.invariant_of-self-2
invariant_of-self-2 c =
    let there : has c.args.task.0 (tasks_of c.self.inside.first.tasks) ≡ true = in-top _ _ _ c.self.invariant.0 c.args.task.0 (sym c.take_out-was_in.ensures.was_in ∙ c.if-not-was_in.false) (sym c.take_out-was_behind.ensures.was_in ∙ c.if-was_behind.false) in
    let behind = c.take_out-was_behind.ensures.removed in (
      rw (c.insert.ensures.tasks, c.remove.ensures.tasks, c.take_out-was_in.ensures.removed, c.in-Some.ensures.taken, behind)
          (split-followed _ _ _ (split-behind _ _ _ c.self.invariant.0 c.args.task.0 there) c.args.task.0 _ _ there (rw behind at c.in-Some.ensures.first) (rw behind at c.in-Some.ensures.key)),
      omega (arith, c.self.invariant.1, c.remove.ensures.room, c.insert.ensures.room),
    )

pub invariant_of-self-in_default : goal.invariant_of-self-in_default
invariant_of-self-in_default c =
    let there : has c.args.task.0 (tasks_of c.self.inside.first.tasks) ≡ true = in-top _ _ _ c.self.invariant.0 c.args.task.0 (sym c.take_out-was_in.ensures.was_in ∙ c.if-not-was_in.false) (sym c.take_out-was_behind.ensures.was_in ∙ c.if-was_behind.false) in
    let behind = c.take_out-was_behind.ensures.removed in (
      rw (c.remove.ensures.tasks, c.take_out-was_in.ensures.removed, c.in_default.ensures.stays, behind)
          (split-top_taken _ _ _ (split-behind _ _ _ c.self.invariant.0 c.args.task.0 there) c.args.task.0 there (rw behind at c.in_default.ensures.none)),
      omega (arith, c.self.invariant.1, c.remove.ensures.room),
    )

pub returns-then-not-was_in-clause-exchanged : goal.returns-then-not-was_in-clause-exchanged
returns-then-not-was_in-clause-exchanged c =
    rw (← c.self.view_is)
    (first-exchanged _ _ _ _ _ _ None None c.self.invariant.0 (invariant_of-self c).0 (none-exchanged _ _ (λ u. refl)))

pub returns-in_default-clause-exchanged : goal.returns-in_default-clause-exchanged
returns-in_default-clause-exchanged c =
    let there : has c.args.task.0 (tasks_of c.self.inside.first.tasks) ≡ true = in-top _ _ _ c.self.invariant.0 c.args.task.0 (sym c.take_out-was_in.ensures.was_in ∙ c.if-not-was_in.false) (sym c.take_out-was_behind.ensures.was_in ∙ c.if-was_behind.false) in
    rw (← c.self.view_is)
    (first-exchanged _ _ _ _ _ _ (Some c.args.task.0) None c.self.invariant.0 (invariant_of-self-in_default c).0
    (rw c.remove.ensures.tasks (exchanged-taken c.args.task.0 c.self.inside.first.tasks (distinct-top _ _ _ c.self.invariant.0) there)))

pub returns-clause-exchanged : goal.returns-clause-exchanged
returns-clause-exchanged c =
    let there : has c.args.task.0 (tasks_of c.self.inside.first.tasks) ≡ true = in-top _ _ _ c.self.invariant.0 c.args.task.0 (sym c.take_out-was_in.ensures.was_in ∙ c.if-not-was_in.false) (sym c.take_out-was_behind.ensures.was_in ∙ c.if-was_behind.false) in
    let apart = rest-apart _ _ _ (split-behind _ _ _ c.self.invariant.0 c.args.task.0 there) c.in-Some.next.0 (ap is_some (rw c.take_out-was_behind.ensures.removed at c.in-Some.ensures.key)) in
    rw (← c.self.view_is)
    (first-exchanged _ _ _ _ _ _ (Some c.args.task.0) (Some c.in-Some.next.0) c.self.invariant.0 (invariant_of-self-2 c).0
    (rw (c.insert.ensures.tasks, c.remove.ensures.tasks) (exchanged-followed c.args.task.0 (record { key = c.in-Some.key; task = c.in-Some.next.0 }) c.self.inside.first.tasks (distinct-top _ _ _ c.self.invariant.0) there apart)))

pub returns-then-not-was_in-clause-was_first : goal.returns-then-not-was_in-clause-was_first
returns-then-not-was_in-clause-was_first c =
    let out : has c.args.task.0 (tasks_of c.self.inside.first.tasks) ≡ false = elim c.then-not-was_in.branch [
      | then-not-was_in-via-then-not-was_in w ↦ absent-top _ _ _ c.self.invariant.0 c.args.task.0 (sym c.take_out-was_in.ensures.was_in ∙ w.if-not-was_in.true)
      | then-not-was_in-via-else-not-was_in+then-was_behind w ↦ rest-apart _ _ _ c.self.invariant.0 c.args.task.0 (sym c.take_out-was_behind.ensures.was_in ∙ w.if-was_behind.true)
    ] in
    ap not (sym out ∙ first-top _ _ _ c.self.invariant.0 c.args.task.0 ∙ ap (λ (q : Queue). is_first q c.args.task.0) c.self.view_is)

pub returns-clause-was_first : goal.returns-clause-was_first
returns-clause-was_first c =
    let there : has c.args.task.0 (tasks_of c.self.inside.first.tasks) ≡ true = in-top _ _ _ c.self.invariant.0 c.args.task.0 (sym c.take_out-was_in.ensures.was_in ∙ c.if-not-was_in.false) (sym c.take_out-was_behind.ensures.was_in ∙ c.if-was_behind.false) in
    ap not (sym there ∙ first-top _ _ _ c.self.invariant.0 c.args.task.0 ∙ ap (λ (q : Queue). is_first q c.args.task.0) c.self.view_is)

pub returns-in_default-clause-was_first : goal.returns-in_default-clause-was_first
returns-in_default-clause-was_first c =
    let there : has c.args.task.0 (tasks_of c.self.inside.first.tasks) ≡ true = in-top _ _ _ c.self.invariant.0 c.args.task.0 (sym c.take_out-was_in.ensures.was_in ∙ c.if-not-was_in.false) (sym c.take_out-was_behind.ensures.was_in ∙ c.if-was_behind.false) in
    ap not (sym there ∙ first-top _ _ _ c.self.invariant.0 c.args.task.0 ∙ ap (λ (q : Queue). is_first q c.args.task.0) c.self.view_is)
