use Rattle.std.proofs.Common.{◌≡◌, ◌≢◌, ◌∙◌, ◌++◌, ℕ, true, false, length, sym, ap, arith}
use Rattle.std.specs.Prelude.{slice_set}
use Rattle.rt_rules.specs.KeyOrder.{equal_keys}
use Rattle.rt_rules.specs.Numbers.{has}
use Rattle.rt_rules.specs.Pcp.{passes}
use Rattle.sem_laws.specs.KeptKeys.{key_at}
use Rattle.pcp_sem.specs.Pairs.{tasks_of}
use Rattle.pcp_sem.specs.PcpKept.{above_ceiling}
use Rattle.pcp_sem.specs.Listed.{pairs}
use Rattle.pcp_sem.proofs.OrderLaws.{length-pairs}
use Rattle.pcp_sem.proofs.Acts.{may_ask, after_acts, pcp-granted, pcp-queued, held-position, waiting-position, order-position, order-same, order-pushed}
use Rattle.pcp_sem.proofs.PcpSet.ask.Goals as goal

pub put_first-requires : goal.put_first-requires
put_first-requires c =
    let may = may_ask c.args.task.0 c.args.sem c.args.key c.self.view_is (record { below = c.requires.below; known = c.requires.known; idle = c.requires.idle; fresh = c.requires.fresh; low = c.requires.low; same = c.requires.same }) in
    omega (arith, held-position _ _ _ _ _ _ _ c.self.invariant.facts c.args.task.0 c.args.sem c.args.key may, length-pairs c.self.inside.held.items)

pub put_behind-requires : goal.put_behind-requires
put_behind-requires c =
    let may = may_ask c.args.task.0 c.args.sem c.args.key c.self.view_is (record { below = c.requires.below; known = c.requires.known; idle = c.requires.idle; fresh = c.requires.fresh; low = c.requires.low; same = c.requires.same }) in
    omega (arith, waiting-position _ _ _ _ _ _ _ c.self.invariant.facts c.args.task.0 c.args.sem c.args.key may, length-pairs c.self.inside.waiting.items)

pub insert_by_key-requires : goal.insert_by_key-requires
insert_by_key-requires c =
    let may = may_ask c.args.task.0 c.args.sem c.args.key c.self.view_is (record { below = c.requires.below; known = c.requires.known; idle = c.requires.idle; fresh = c.requires.fresh; low = c.requires.low; same = c.requires.same }) in
    omega (arith, order-position _ _ _ _ _ _ _ c.self.invariant.facts c.args.task.0 c.args.sem c.args.key may, ap length c.self.invariant.in_falling_order, length-pairs c.self.inside.order.items)

pub invariant_of-self : goal.invariant_of-self
invariant_of-self c =
    let may = may_ask c.args.task.0 c.args.sem c.args.key c.self.view_is (record { below = c.requires.below; known = c.requires.known; idle = c.requires.idle; fresh = c.requires.fresh; low = c.requires.low; same = c.requires.same }) in
    let pass : passes (above_ceiling (slice_set c.self.inside.keys.items c.args.task.0 c.args.key) c.self.inside.ceilings.items) (pairs c.self.inside.held.items) c.args.task.0 ≡ true = sym (rw (c.as_slice.ensures.value, c.as_slice-2.ensures.value, c.as_slice-3.ensures.value) at c.does_pass.ensures) ∙ c.if-does_pass.true in
    rw c.put_first.ensures.items record {
      facts = pcp-granted _ _ _ _ _ _ _ c.self.invariant.facts c.args.task.0 c.args.sem c.args.key may _ pass c.put_first.ensures.capacity;
      in_falling_order = c.self.invariant.in_falling_order ∙ order-same _ _ _ _ _ _ _ c.self.invariant.facts c.args.task.0 c.args.sem c.args.key may;
    }

pub invariant_of-self-else-does_pass : goal.invariant_of-self-else-does_pass
invariant_of-self-else-does_pass c =
    let may = may_ask c.args.task.0 c.args.sem c.args.key c.self.view_is (record { below = c.requires.below; known = c.requires.known; idle = c.requires.idle; fresh = c.requires.fresh; low = c.requires.low; same = c.requires.same }) in
    let pass : passes (above_ceiling (slice_set c.self.inside.keys.items c.args.task.0 c.args.key) c.self.inside.ceilings.items) (pairs c.self.inside.held.items) c.args.task.0 ≡ false = sym (rw (c.as_slice.ensures.value, c.as_slice-2.ensures.value, c.as_slice-3.ensures.value) at c.does_pass.ensures) ∙ c.if-does_pass.false in
    let apart : (t : ℕ) → t ≢ c.args.task.0 → has t (tasks_of (pairs c.self.inside.held.items) ++ tasks_of (pairs c.self.inside.waiting.items)) ≡ true → equal_keys (key_at c.self.inside.keys.items t) c.args.key ≡ false = rw (← c.self.view_is) at c.requires.apart in
    rw (c.put_behind.ensures.items, c.insert_by_key.ensures.items, c.as_slice-else-does_pass.ensures.value, c.self.invariant.in_falling_order) record {
      facts = pcp-queued _ _ _ _ _ _ _ c.self.invariant.facts c.args.task.0 c.args.sem c.args.key may _ _ pass c.put_behind.ensures.capacity c.insert_by_key.ensures.capacity;
      in_falling_order = order-pushed _ _ _ _ _ _ _ c.self.invariant.facts c.args.task.0 c.args.sem c.args.key may apart;
    }

pub returns-then-does_pass-clause-holds : goal.returns-then-does_pass-clause-holds
returns-then-does_pass-clause-holds c =
    let may = may_ask c.args.task.0 c.args.sem c.args.key c.self.view_is (record { below = c.requires.below; known = c.requires.known; idle = c.requires.idle; fresh = c.requires.fresh; low = c.requires.low; same = c.requires.same }) in
    let pass : passes (above_ceiling (slice_set c.self.inside.keys.items c.args.task.0 c.args.key) c.self.inside.ceilings.items) (pairs c.self.inside.held.items) c.args.task.0 ≡ true = sym (rw (c.as_slice.ensures.value, c.as_slice-2.ensures.value, c.as_slice-3.ensures.value) at c.does_pass.ensures) ∙ c.if-does_pass.true in
    rw c.put_first.ensures.items (after_acts _ _ _ _ _ _ _ (pcp-granted _ _ _ _ _ _ _ c.self.invariant.facts c.args.task.0 c.args.sem c.args.key may _ pass c.put_first.ensures.capacity) _)

pub returns-else-does_pass-clause-holds : goal.returns-else-does_pass-clause-holds
returns-else-does_pass-clause-holds c =
    let may = may_ask c.args.task.0 c.args.sem c.args.key c.self.view_is (record { below = c.requires.below; known = c.requires.known; idle = c.requires.idle; fresh = c.requires.fresh; low = c.requires.low; same = c.requires.same }) in
    let pass : passes (above_ceiling (slice_set c.self.inside.keys.items c.args.task.0 c.args.key) c.self.inside.ceilings.items) (pairs c.self.inside.held.items) c.args.task.0 ≡ false = sym (rw (c.as_slice.ensures.value, c.as_slice-2.ensures.value, c.as_slice-3.ensures.value) at c.does_pass.ensures) ∙ c.if-does_pass.false in
    rw c.put_behind.ensures.items (after_acts _ _ _ _ _ _ _ (pcp-queued _ _ _ _ _ _ _ c.self.invariant.facts c.args.task.0 c.args.sem c.args.key may _ _ pass c.put_behind.ensures.capacity c.insert_by_key.ensures.capacity) _)
