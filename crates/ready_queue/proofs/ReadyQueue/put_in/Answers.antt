use Rattle.std.proofs.Common.{◌≡◌, ◌≤◌, ◌&&◌, not, [], ◌∷◌, ◌++◌, length, sym, ap, ◌∙◌, arith, eqb-true}
use Rattle.std.proofs.lemmas.List.{length-map}
use Rattle.std.specs.Prelude.{None, Some, is_none, is_some}
use Rattle.rt_base.specs.TaskNos.{number_of_task}
use Rattle.rt_rules.specs.Keys.{inserted}
use Rattle.rt_rules.specs.Numbers.{is}
use Rattle.rt_rules.proofs.BoolLaws.{unless}
use Rattle.rt_rules.proofs.MemberLaws.{equal_self}
use Rattle.ready_queue.specs.RankedTasks.{ranked}
use Rattle.ready_queue.proofs.ExchangeLaws.{comes, exchanged-itself, exchanged-over, exchanged-put, first-exchanged}
use Rattle.ready_queue.proofs.FirstLaws.{first-top}
use Rattle.ready_queue.proofs.SplitLaws.{absent-top, distinct-top, split-put_in, last-inside, last-absent, split-put_over, over-full}
use Rattle.ready_queue.proofs.ReadyQueue.put_in.Goals as goal
use Rattle.ready_queue.proofs.ReadyQueue.put_in.Goals.{then-last-task, else-last-task}

pub invariant_of-self : goal.invariant_of-self
invariant_of-self c =
    let room = rw (← c.self.view_is) at c.requires.room in
    let absent = rw (← c.self.view_is) at c.requires.absent in
    let same : length c.insert.new.self.tasks ≡ length c.as_slice.result.now = ap length (sym c.as_slice.ensures) ∙ length-map _ _ in
    let put : length c.insert.new.self.tasks ≡ length (inserted (record { key = c.args.key; task = c.args.task.0 }) c.self.inside.first.tasks) = ap length c.insert.ensures.tasks in
    let few : length (inserted (record { key = c.args.key; task = c.args.task.0 }) c.self.inside.first.tasks) ≤ c.self.inside.most = omega (arith, same, put) in
    (rw (c.insert.ensures.tasks, c.put_in.ensures) (split-put_in _ _ _ c.self.invariant.0 c.args.task.0 c.args.key room absent few), omega (arith, c.self.invariant.1, c.insert.ensures.room))

pub put_in-requires-2-clause-room : goal.put_in-requires-2-clause-room
put_in-requires-2-clause-room c =
    let room = rw (← c.self.view_is) at c.requires.room in
    let absent = rw (← c.self.view_is) at c.requires.absent in
    let split : inserted (record { key = c.args.key; task = c.args.task.0 }) c.self.inside.first.tasks ≡ c.pop.new.self.tasks ++ ranked c.in-Some.last ∷ [] = sym c.insert.ensures.tasks ∙ c.in-Some.ensures.taken in
    let same : length c.insert.new.self.tasks ≡ length c.as_slice.result.now = ap length (sym c.as_slice.ensures) ∙ length-map _ _ in
    let put : length c.insert.new.self.tasks ≡ length (inserted (record { key = c.args.key; task = c.args.task.0 }) c.self.inside.first.tasks) = ap length c.insert.ensures.tasks in
    last-inside _ _ _ c.self.invariant.0 c.args.task.0 c.args.key room absent c.pop.new.self.tasks (ranked c.in-Some.last) split (over-full _ _ _ c.self.invariant.0 _ _ _ split (omega (arith, same, put)))

pub put_in-requires-2-clause-absent : goal.put_in-requires-2-clause-absent
put_in-requires-2-clause-absent c =
    let room = rw (← c.self.view_is) at c.requires.room in
    let absent = rw (← c.self.view_is) at c.requires.absent in
    let split : inserted (record { key = c.args.key; task = c.args.task.0 }) c.self.inside.first.tasks ≡ c.pop.new.self.tasks ++ ranked c.in-Some.last ∷ [] = sym c.insert.ensures.tasks ∙ c.in-Some.ensures.taken in
    let same : length c.insert.new.self.tasks ≡ length c.as_slice.result.now = ap length (sym c.as_slice.ensures) ∙ length-map _ _ in
    let put : length c.insert.new.self.tasks ≡ length (inserted (record { key = c.args.key; task = c.args.task.0 }) c.self.inside.first.tasks) = ap length c.insert.ensures.tasks in
    last-absent _ _ _ c.self.invariant.0 c.args.task.0 c.args.key room absent c.pop.new.self.tasks (ranked c.in-Some.last) split (over-full _ _ _ c.self.invariant.0 _ _ _ split (omega (arith, same, put)))

pub invariant_of-self-2 : goal.invariant_of-self-2
invariant_of-self-2 c =
    let room = rw (← c.self.view_is) at c.requires.room in
    let absent = rw (← c.self.view_is) at c.requires.absent in
    let split : inserted (record { key = c.args.key; task = c.args.task.0 }) c.self.inside.first.tasks ≡ c.pop.new.self.tasks ++ ranked c.in-Some.last ∷ [] = sym c.insert.ensures.tasks ∙ c.in-Some.ensures.taken in
    let same : length c.insert.new.self.tasks ≡ length c.as_slice.result.now = ap length (sym c.as_slice.ensures) ∙ length-map _ _ in
    let put : length c.insert.new.self.tasks ≡ length (inserted (record { key = c.args.key; task = c.args.task.0 }) c.self.inside.first.tasks) = ap length c.insert.ensures.tasks in (
      rw (c.put_in.ensures, c.put_in-2.ensures) (split-put_over _ _ _ c.self.invariant.0 c.args.task.0 c.args.key room absent c.pop.new.self.tasks (ranked c.in-Some.last) split (over-full _ _ _ c.self.invariant.0 _ _ _ split (omega (arith, same, put)))),
      omega (arith, c.self.invariant.1, c.insert.ensures.room, c.pop.ensures.room),
    )

pub returns-then-as_slice-self-clause-exchanged : goal.returns-then-as_slice-self-clause-exchanged
returns-then-as_slice-self-clause-exchanged c =
    let absent = absent-top _ _ _ c.self.invariant.0 c.args.task.0 (ap is_some (rw (← c.self.view_is) at c.requires.absent)) in
    rw (← c.self.view_is)
    (first-exchanged _ _ _ _ _ _ None (Some c.args.task.0) c.self.invariant.0 (invariant_of-self c).0
    (rw c.insert.ensures.tasks (exchanged-put (record { key = c.args.key; task = c.args.task.0 }) c.self.inside.first.tasks absent)))

pub returns-clause-exchanged : goal.returns-clause-exchanged
returns-clause-exchanged c =
    let absent = absent-top _ _ _ c.self.invariant.0 c.args.task.0 (ap is_some (rw (← c.self.view_is) at c.requires.absent)) in
    let once = distinct-top _ _ _ c.self.invariant.0 in
    let split : inserted (record { key = c.args.key; task = c.args.task.0 }) c.self.inside.first.tasks ≡ c.pop.new.self.tasks ++ ranked c.in-Some.last ∷ [] = sym c.insert.ensures.tasks ∙ c.in-Some.ensures.taken in
    rw (← c.self.view_is)
    (first-exchanged _ _ _ _ _ _ _ _ c.self.invariant.0 (invariant_of-self-2 c).0
    (elim c.if-last-task.branch [
      | then-last-task w ↦ rw w.result-is (exchanged-itself _ (ranked c.in-Some.last) _ _ once absent split w.if-last-task.true)
      | else-last-task w ↦ rw w.result-is (exchanged-over _ (ranked c.in-Some.last) _ _ once absent split (unless _ (λ h. w.if-last-task.false (eqb-true _ _ h))))
    ]))

pub returns-then-as_slice-self-clause-is_first : goal.returns-then-as_slice-self-clause-is_first
returns-then-as_slice-self-clause-is_first c =
    let absent = absent-top _ _ _ c.self.invariant.0 c.args.task.0 (ap is_some (rw (← c.self.view_is) at c.requires.absent)) in
    let was_not = sym (first-top _ _ _ c.self.invariant.0 c.args.task.0) ∙ absent in
    sym (ap not (comes c.args.task.0 _ _ _ _ (returns-then-as_slice-self-clause-exchanged c) (rw (← c.self.view_is) was_not) ∙ equal_self c.args.task.0))

pub returns-clause-is_first : goal.returns-clause-is_first
returns-clause-is_first c =
    let absent = absent-top _ _ _ c.self.invariant.0 c.args.task.0 (ap is_some (rw (← c.self.view_is) at c.requires.absent)) in
    let was_not = sym (first-top _ _ _ c.self.invariant.0 c.args.task.0) ∙ absent in
    let told : is_none c.if-last-task.result.removed && is_none c.if-last-task.result.added ≡ not (is c.args.task.0 (number_of_task c.if-last-task.result.added)) = elim c.if-last-task.branch [
      | then-last-task w ↦ rw w.result-is
      | else-last-task w ↦ rw (w.result-is, equal_self c.args.task.0)
    ] in
    told ∙ sym (ap not (comes c.args.task.0 _ _ _ _ (returns-clause-exchanged c) (rw (← c.self.view_is) was_not)))
