use Rattle.std.proofs.Common.{◌≡◌, ◌∙◌, sym, ap, arith}
use Rattle.std.specs.Prelude.{None, Some, find}
use Rattle.rt_base.specs.TaskNos.{numbers}
use Rattle.rt_rules.specs.SemState.{Frees}
use Rattle.rt_rules.specs.Pcp.{TaskSem, PcpState, in_order, passes, pcp_after, without_pair}
use Rattle.sem_laws.specs.KeptKeys.{above}
use Rattle.pcp_sem.specs.PcpKept.{above_ceiling}
use Rattle.pcp_sem.specs.Listed.{pair, pairs}
use Rattle.pcp_sem.proofs.OrderLaws.{length-pairs}
use Rattle.pcp_sem.proofs.KeptOrder.{ranking-keys, in_order-without_pair}
use Rattle.pcp_sem.proofs.Acts.{after_acts-freed, pcp-freed, freed-first, freed-nobody, one-waits, held-fits}
use Rattle.pcp_sem.proofs.PcpSet.release.Goals as goal

pub put_first-requires : goal.put_first-requires
put_first-requires c =
    let found : find (λ (q : TaskSem). passes (above_ceiling c.self.inside.keys.items c.self.inside.ceilings.items) (without_pair (record { task = c.args.task.0; sem = c.args.sem }) (pairs c.self.inside.held.items)) q.task) (in_order (above c.self.inside.keys.items) (pairs c.self.inside.waiting.items)) ≡ Some (pair c.in-Some.next) = sym (rw (c.as_slice.ensures.value, c.as_slice-2.ensures.value, c.as_slice-3.ensures.value, c.as_slice-4.ensures.value, c.take_out.ensures.items, c.in-Some.is, c.self.invariant.in_falling_order) at c.first_to_pass.ensures) in
    omega (arith, one-waits _ _ _ _ _ _ _ c.self.invariant.facts _ _ found, held-fits _ _ _ _ _ _ _ c.self.invariant.facts, length-pairs c.self.inside.held.items, c.self.invariant.facts.held_room, c.take_out.ensures.len, c.take_out.ensures.capacity)

pub put_last-requires : goal.put_last-requires
put_last-requires c =
    let found : find (λ (q : TaskSem). passes (above_ceiling c.self.inside.keys.items c.self.inside.ceilings.items) (without_pair (record { task = c.args.task.0; sem = c.args.sem }) (pairs c.self.inside.held.items)) q.task) (in_order (above c.self.inside.keys.items) (pairs c.self.inside.waiting.items)) ≡ Some (pair c.in-Some.next) = sym (rw (c.as_slice.ensures.value, c.as_slice-2.ensures.value, c.as_slice-3.ensures.value, c.as_slice-4.ensures.value, c.take_out.ensures.items, c.in-Some.is, c.self.invariant.in_falling_order) at c.first_to_pass.ensures) in
    omega (arith, one-waits _ _ _ _ _ _ _ c.self.invariant.facts _ _ found, c.self.invariant.facts.grants_room, c.clear.ensures.len, c.clear.ensures.capacity)

pub invariant_of-self : goal.invariant_of-self
invariant_of-self c =
    let found : find (λ (q : TaskSem). passes (above_ceiling c.self.inside.keys.items c.self.inside.ceilings.items) (without_pair (record { task = c.args.task.0; sem = c.args.sem }) (pairs c.self.inside.held.items)) q.task) (in_order (above c.self.inside.keys.items) (pairs c.self.inside.waiting.items)) ≡ None = sym (rw (c.as_slice.ensures.value, c.as_slice-2.ensures.value, c.as_slice-3.ensures.value, c.as_slice-4.ensures.value, c.take_out.ensures.items, c.in_default.is, c.self.invariant.in_falling_order) at c.first_to_pass.ensures) in
    let state : record { held = pairs c.take_out.new.from.items; waiting = pairs c.self.inside.waiting.items } ≡ pcp_after (above c.self.inside.keys.items) (above_ceiling c.self.inside.keys.items c.self.inside.ceilings.items) (Frees c.args.task.0 c.args.sem) (record { held = pairs c.self.inside.held.items; waiting = pairs c.self.inside.waiting.items }) = rw c.take_out.ensures.items (freed-nobody _ _ _ _ _ _ _ c.self.invariant.facts (record { task = c.args.task.0; sem = c.args.sem }) found) in
    rw state record {
      facts = pcp-freed _ _ _ _ _ _ _ c.self.invariant.facts c.args.task.0 c.args.sem _ _ _ (omega (arith, c.take_out.ensures.capacity)) (omega arith) (omega (arith, c.clear.ensures.capacity));
      in_falling_order = c.self.invariant.in_falling_order ∙ ap (λ (l : PcpState). in_order (above c.self.inside.keys.items) l.waiting) state;
    }

pub invariant_of-self-2 : goal.invariant_of-self-2
invariant_of-self-2 c =
    let found : find (λ (q : TaskSem). passes (above_ceiling c.self.inside.keys.items c.self.inside.ceilings.items) (without_pair (record { task = c.args.task.0; sem = c.args.sem }) (pairs c.self.inside.held.items)) q.task) (in_order (above c.self.inside.keys.items) (pairs c.self.inside.waiting.items)) ≡ Some (pair c.in-Some.next) = sym (rw (c.as_slice.ensures.value, c.as_slice-2.ensures.value, c.as_slice-3.ensures.value, c.as_slice-4.ensures.value, c.take_out.ensures.items, c.in-Some.is, c.self.invariant.in_falling_order) at c.first_to_pass.ensures) in
    let state : record { held = pairs c.put_first.new.held.items; waiting = pairs c.take_out-2.new.from.items } ≡ pcp_after (above c.self.inside.keys.items) (above_ceiling c.self.inside.keys.items c.self.inside.ceilings.items) (Frees c.args.task.0 c.args.sem) (record { held = pairs c.self.inside.held.items; waiting = pairs c.self.inside.waiting.items }) = rw (c.put_first.ensures.items, c.take_out.ensures.items, c.take_out-2.ensures.items) (freed-first _ _ _ _ _ _ _ c.self.invariant.facts (record { task = c.args.task.0; sem = c.args.sem }) _ found) in
    let order : pairs c.take_out-3.new.from.items ≡ in_order (above c.self.inside.keys.items) (pairs c.take_out-2.new.from.items) = rw (c.take_out-3.ensures.items, c.take_out-2.ensures.items, c.self.invariant.in_falling_order) (sym (in_order-without_pair (above c.self.inside.keys.items) (ranking-keys c.self.inside.keys.items) (pair c.in-Some.next) (pairs c.self.inside.waiting.items))) in
    rw (state, c.take_out-2.ensures.capacity) record {
      facts = pcp-freed _ _ _ _ _ _ _ c.self.invariant.facts c.args.task.0 c.args.sem _ _ _ (omega (arith, c.take_out.ensures.capacity, c.put_first.ensures.capacity)) (omega (arith, c.take_out-3.ensures.capacity)) (omega (arith, c.clear.ensures.capacity, c.put_last.ensures.capacity));
      in_falling_order = order ∙ ap (λ (l : PcpState). in_order (above c.self.inside.keys.items) l.waiting) state;
    }

pub returns-clause-after : goal.returns-clause-after
returns-clause-after c =
    let found : find (λ (q : TaskSem). passes (above_ceiling c.self.inside.keys.items c.self.inside.ceilings.items) (without_pair (record { task = c.args.task.0; sem = c.args.sem }) (pairs c.self.inside.held.items)) q.task) (in_order (above c.self.inside.keys.items) (pairs c.self.inside.waiting.items)) ≡ Some (pair c.in-Some.next) = sym (rw (c.as_slice.ensures.value, c.as_slice-2.ensures.value, c.as_slice-3.ensures.value, c.as_slice-4.ensures.value, c.take_out.ensures.items, c.in-Some.is, c.self.invariant.in_falling_order) at c.first_to_pass.ensures) in
    let state : record { held = pairs c.put_first.new.held.items; waiting = pairs c.take_out-2.new.from.items } ≡ pcp_after (above c.self.inside.keys.items) (above_ceiling c.self.inside.keys.items c.self.inside.ceilings.items) (Frees c.args.task.0 c.args.sem) (record { held = pairs c.self.inside.held.items; waiting = pairs c.self.inside.waiting.items }) = rw (c.put_first.ensures.items, c.take_out.ensures.items, c.take_out-2.ensures.items) (freed-first _ _ _ _ _ _ _ c.self.invariant.facts (record { task = c.args.task.0; sem = c.args.sem }) _ found) in
    rw (← c.self.view_is) (ap (λ (l : PcpState). record { ceilings = c.self.inside.ceilings.items; state = l; keys = c.self.inside.keys.items; grants = numbers c.put_last.new.grants.items }) state)

pub returns-clause-holds : goal.returns-clause-holds
returns-clause-holds c =
    let found : find (λ (q : TaskSem). passes (above_ceiling c.self.inside.keys.items c.self.inside.ceilings.items) (without_pair (record { task = c.args.task.0; sem = c.args.sem }) (pairs c.self.inside.held.items)) q.task) (in_order (above c.self.inside.keys.items) (pairs c.self.inside.waiting.items)) ≡ Some (pair c.in-Some.next) = sym (rw (c.as_slice.ensures.value, c.as_slice-2.ensures.value, c.as_slice-3.ensures.value, c.as_slice-4.ensures.value, c.take_out.ensures.items, c.in-Some.is, c.self.invariant.in_falling_order) at c.first_to_pass.ensures) in
    let state : record { held = pairs c.put_first.new.held.items; waiting = pairs c.take_out-2.new.from.items } ≡ pcp_after (above c.self.inside.keys.items) (above_ceiling c.self.inside.keys.items c.self.inside.ceilings.items) (Frees c.args.task.0 c.args.sem) (record { held = pairs c.self.inside.held.items; waiting = pairs c.self.inside.waiting.items }) = rw (c.put_first.ensures.items, c.take_out.ensures.items, c.take_out-2.ensures.items) (freed-first _ _ _ _ _ _ _ c.self.invariant.facts (record { task = c.args.task.0; sem = c.args.sem }) _ found) in
    rw state (after_acts-freed _ _ _ _ _ _ _ c.self.invariant.facts c.args.task.0 c.args.sem _)

pub returns-in_default-clause-after : goal.returns-in_default-clause-after
returns-in_default-clause-after c =
    let found : find (λ (q : TaskSem). passes (above_ceiling c.self.inside.keys.items c.self.inside.ceilings.items) (without_pair (record { task = c.args.task.0; sem = c.args.sem }) (pairs c.self.inside.held.items)) q.task) (in_order (above c.self.inside.keys.items) (pairs c.self.inside.waiting.items)) ≡ None = sym (rw (c.as_slice.ensures.value, c.as_slice-2.ensures.value, c.as_slice-3.ensures.value, c.as_slice-4.ensures.value, c.take_out.ensures.items, c.in_default.is, c.self.invariant.in_falling_order) at c.first_to_pass.ensures) in
    let state : record { held = pairs c.take_out.new.from.items; waiting = pairs c.self.inside.waiting.items } ≡ pcp_after (above c.self.inside.keys.items) (above_ceiling c.self.inside.keys.items c.self.inside.ceilings.items) (Frees c.args.task.0 c.args.sem) (record { held = pairs c.self.inside.held.items; waiting = pairs c.self.inside.waiting.items }) = rw c.take_out.ensures.items (freed-nobody _ _ _ _ _ _ _ c.self.invariant.facts (record { task = c.args.task.0; sem = c.args.sem }) found) in
    rw (← c.self.view_is) (ap (λ (l : PcpState). record { ceilings = c.self.inside.ceilings.items; state = l; keys = c.self.inside.keys.items; grants = numbers c.clear.new.self.items }) state)

pub returns-in_default-clause-holds : goal.returns-in_default-clause-holds
returns-in_default-clause-holds c =
    let found : find (λ (q : TaskSem). passes (above_ceiling c.self.inside.keys.items c.self.inside.ceilings.items) (without_pair (record { task = c.args.task.0; sem = c.args.sem }) (pairs c.self.inside.held.items)) q.task) (in_order (above c.self.inside.keys.items) (pairs c.self.inside.waiting.items)) ≡ None = sym (rw (c.as_slice.ensures.value, c.as_slice-2.ensures.value, c.as_slice-3.ensures.value, c.as_slice-4.ensures.value, c.take_out.ensures.items, c.in_default.is, c.self.invariant.in_falling_order) at c.first_to_pass.ensures) in
    let state : record { held = pairs c.take_out.new.from.items; waiting = pairs c.self.inside.waiting.items } ≡ pcp_after (above c.self.inside.keys.items) (above_ceiling c.self.inside.keys.items c.self.inside.ceilings.items) (Frees c.args.task.0 c.args.sem) (record { held = pairs c.self.inside.held.items; waiting = pairs c.self.inside.waiting.items }) = rw c.take_out.ensures.items (freed-nobody _ _ _ _ _ _ _ c.self.invariant.facts (record { task = c.args.task.0; sem = c.args.sem }) found) in
    rw state (after_acts-freed _ _ _ _ _ _ _ c.self.invariant.facts c.args.task.0 c.args.sem _)
