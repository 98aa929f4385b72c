use Rattle.std.proofs.Common.{◌≡◌, false, refl, arith, sym, ap, ◌∙◌, subst}
use Rattle.std.specs.Vec.{vec_capacity}
use Rattle.rt_rules.specs.Numbers.{has, is}
use Rattle.split_rules.specs.SemHistories.{outcome}
use Rattle.split_inbox.specs.Books.{sem_state, IsAskAt, MayAdd}
use Rattle.split_inbox.specs.Kept.{about_of, IsKept}
use Rattle.split_inbox.specs.Queues.{IsRoomFor}
use Rattle.split_rules.specs.declared.SemAct.TheVariants as acts
use Rattle.split_rules.specs.declared.SemEntry.{SemEntry}
use Rattle.split_inbox.proofs.Booking.{added, has_room}
use Rattle.split_inbox.proofs.book.SemBook.ask.Goals as goal

pub push_reserved-requires : goal.push_reserved-requires
push_reserved-requires c =
    let may = subst (λ b. MayAdd b.about b.entries c.args.cpu.0 c.args.task.0) (sym c.self.view_is) c.requires.add in
    let room = has_room c.self.inside.sem c.self.inside.queue c.self.inside.homes.value.items c.self.inside.prios.items c.self.inside.quotas.value.items c.self.inside.entries.items _ c.self.invariant c.args.cpu.0 may.room in
    omega (arith, room, c.self.inside.entries.ok.0)

pub invariant_of-self : goal.invariant_of-self
invariant_of-self c =
    let may = subst (λ b. MayAdd b.about b.entries c.args.cpu.0 c.args.task.0) (sym c.self.view_is) c.requires.add in
    let i = c.self.invariant in
    let a = c.ask-answer.ensures in
    let room = subst (λ l. IsRoomFor l c.ask-answer.new.queue) c.as_slice.ensures.value a.room in
    let act : IsAskAt (about_of c.self.inside.sem c.self.inside.queue c.self.inside.homes.value.items c.self.inside.prios.items c.self.inside.quotas.value.items) c.args.task.0 c.ask-answer.result
    (sem_state (about_of c.self.inside.sem c.self.inside.queue c.self.inside.homes.value.items c.self.inside.prios.items c.self.inside.quotas.value.items) c.self.inside.entries.items) =
    record {
      free_hands = subst (λ b. is c.args.task.0 (sem_state b.about b.entries).holder ≡ false) (sym c.self.view_is) c.requires.free_hands;
      outside = subst (λ b. has c.args.task.0 (sem_state b.about b.entries).waiting ≡ false) (sym c.self.view_is) c.requires.outside;
      answer = a.answer ∙ ap (λ l. outcome l.holder) i.state;
    } in
    let e : SemEntry = record { cpu = c.args.cpu; task = c.args.task; act = acts.Ask c.ask-answer.result } in
    subst (λ l. IsKept c.self.inside.sem c.ask-answer.new.queue c.self.inside.homes.value.items c.self.inside.prios.items c.self.inside.quotas.value.items l (vec_capacity c.push_reserved.new.self)) (sym c.push_reserved.ensures.items)
    (added c.self.inside.sem c.self.inside.queue c.self.inside.homes.value.items c.self.inside.prios.items c.self.inside.quotas.value.items c.self.inside.entries.items _ i c.args.cpu.0 c.args.task.0 e c.ask-answer.new.queue _
    may refl refl act a.rule room a.after c.push_reserved.ensures.capacity)
