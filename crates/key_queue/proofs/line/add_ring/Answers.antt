use Rattle.std.proofs.Common.{◌≡◌, ◌+◌, ◌-◌, false, ◌∷◌, ◌++◌, length, append-nil, refl, sym, ap, ◌∙◌, arith}
use Rattle.std.specs.Prelude.{◌==◌, slice_index}
use Rattle.rt_base.specs.TaskNos.{numbers}
use Rattle.sem_laws.proofs.TaskNumbers.{numbers-added}
use Rattle.key_queue.specs.Ring.{ring_from}
use Rattle.key_queue.proofs.RingLaws.{first_in, next_in, position_within, not_equal, ring_from-end, ring_from-none, ring_from-step, ring_tasks-from}
use Rattle.key_queue.proofs.line.add_ring.Goals as goal

pub loop-step-init : goal.loop-step-init
loop-step-init c = record {
  at = first_in _ _ _ _ c.requires.ring.1;
  joined = ap (λ zs. numbers c.args.into.now.items ++ zs) (ring_tasks-from c.args.next.now c.args.room (c.args.room - 0) (omega arith));
  len = omega (arith, ap length (ring_tasks-from c.args.next.now c.args.room (c.args.room - 0) (omega arith)), c.requires.room);
  capacity = refl;
}

pub push_reserved-requires : goal.push_reserved-requires
push_reserved-requires c =
    let apart : c.loop-step.position == c.args.room ≡ false = not_equal _ _ c.if-position-room.false in
    let more : ring_from c.args.next.now c.args.room (c.args.room - c.loop-step._step) c.loop-step.position ≡ c.loop-step.position ∷ ring_from c.args.next.now c.args.room (c.args.room - (c.loop-step._step + 1)) (slice_index c.args.next.now c.loop-step.position) = ring_from-step _ _ _ _ _ (omega arith) apart in
    omega (arith, ap length more, c.loop-step.invariant.len)

pub loop-step-preserved : goal.loop-step-preserved
loop-step-preserved c =
    let apart : c.loop-step.position == c.args.room ≡ false = not_equal _ _ c.if-position-room.false in
    let more : ring_from c.args.next.now c.args.room (c.args.room - c.loop-step._step) c.loop-step.position ≡ c.loop-step.position ∷ ring_from c.args.next.now c.args.room (c.args.room - (c.loop-step._step + 1)) (slice_index c.args.next.now c.loop-step.position) = ring_from-step _ _ _ _ _ (omega arith) apart in
    record {
      at = next_in _ _ _ _ c.requires.ring.1 c.loop-step.position c.loop-step.invariant.at apart;
      joined = rw (c.push_reserved.ensures.items) (numbers-added c.loop-step.into.items _ _ ∙ ap (λ zs. numbers c.loop-step.into.items ++ zs) (sym more) ∙ c.loop-step.invariant.joined);
      len = omega (arith, ap length more, c.loop-step.invariant.len, c.push_reserved.ensures.len, c.push_reserved.ensures.capacity);
      capacity = c.push_reserved.ensures.capacity ∙ c.loop-step.invariant.capacity;
    }

pub bounds-next-position : goal.bounds-next-position
bounds-next-position c = position_within _ _ _ _ c.requires.ring.1 c.loop-step.position c.loop-step.invariant.at

pub returns-then-position-room-clause-tasks : goal.returns-then-position-room-clause-tasks
returns-then-position-room-clause-tasks c = sym (append-nil _) ∙ ap (λ zs. numbers c.loop-step.into.items ++ zs) (sym (ring_from-end c.args.next.now c.args.room (c.args.room - c.loop-step._step) c.loop-step.position c.if-position-room.true)) ∙ c.loop-step.invariant.joined

pub returns-clause-tasks : goal.returns-clause-tasks
returns-clause-tasks c = sym (append-nil _) ∙ ap (λ zs. numbers c.loop-step.into.items ++ zs) (sym (ring_from-none c.args.next.now c.args.room (c.args.room - c.loop-step._step) c.loop-step.position (omega arith))) ∙ c.loop-step.invariant.joined
