use Rattle.std.proofs.Common.{◌≡◌, Some, refl, arith, sym, ap, ◌∙◌, subst}
use Rattle.std.specs.Vec.{vec_capacity}
use Rattle.rt_rules.specs.Mpcp.{passed_on}
use Rattle.split_inbox.specs.Books.{next_by, sem_state, IsReleaseAt, MayAdd}
use Rattle.split_inbox.specs.Kept.{about_of, IsKept}
use Rattle.split_inbox.specs.Queues.{IsRoomFor, rule_of, state_of}
use Rattle.split_rules.specs.declared.SemAct.TheVariants as acts
use Rattle.split_rules.specs.declared.SemEntry.{SemEntry}
use Rattle.split_inbox.proofs.Booking.{added, has_room}
use Rattle.split_inbox.proofs.book.SemBook.release.Goals as goal

pub push_reserved-requires : goal.push_reserved-requires
push_reserved-requires c =
    let may = subst (λ b. MayAdd b.about b.entries c.args.cpu.0 c.args.task.0) (sym c.self.view_is) c.requires.add in
    let room = has_room c.self.inside.sem c.self.inside.queue c.self.inside.homes.value.items c.self.inside.prios.items c.self.inside.quotas.value.items c.self.inside.entries.items _ c.self.invariant c.args.cpu.0 may.room in
    omega (arith, room, c.self.inside.entries.ok.0)

pub invariant_of-self : goal.invariant_of-self
invariant_of-self c =
    let may = subst (λ b. MayAdd b.about b.entries c.args.cpu.0 c.args.task.0) (sym c.self.view_is) c.requires.add in
    let i = c.self.invariant in
    let a = c.release-next.ensures in
    let room = subst (λ l. IsRoomFor l c.release-next.new.queue) c.as_slice.ensures.value a.room in
    let prios = c.as_slice.ensures.value in
    let act : IsReleaseAt (about_of c.self.inside.sem c.self.inside.queue c.self.inside.homes.value.items c.self.inside.prios.items c.self.inside.quotas.value.items) c.args.task.0 c.release-next.result
    (sem_state (about_of c.self.inside.sem c.self.inside.queue c.self.inside.homes.value.items c.self.inside.prios.items c.self.inside.quotas.value.items) c.self.inside.entries.items) =
    record {
      holds = subst (λ b. (sem_state b.about b.entries).holder ≡ Some c.args.task.0) (sym c.self.view_is) c.requires.holds;
      next = a.next ∙ (λ k. next_by (rule_of c.self.inside.queue) (prios k) (i.state k).waiting);
    } in
    let after = a.after ∙ ap (λ l. passed_on (next_by (rule_of c.self.inside.queue) l (state_of c.self.inside.queue).waiting) (state_of c.self.inside.queue).waiting) prios in
    let e : SemEntry = record { cpu = c.args.cpu; task = c.args.task; act = acts.Release c.release-next.result } in
    subst (λ l. IsKept c.self.inside.sem c.release-next.new.queue c.self.inside.homes.value.items c.self.inside.prios.items c.self.inside.quotas.value.items l (vec_capacity c.push_reserved.new.self)) (sym c.push_reserved.ensures.items)
    (added c.self.inside.sem c.self.inside.queue c.self.inside.homes.value.items c.self.inside.prios.items c.self.inside.quotas.value.items c.self.inside.entries.items _ i c.args.cpu.0 c.args.task.0 e c.release-next.new.queue _
    may refl refl act a.rule room after c.push_reserved.ensures.capacity)
