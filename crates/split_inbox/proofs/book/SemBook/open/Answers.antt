use Rattle.std.proofs.Common.{◌≤◌, length, sym, ap, ◌∙◌, subst}
use Rattle.split_inbox.specs.Queues.{IsRoomFor}
use Rattle.split_inbox.specs.Sums.{sum_of}
use Rattle.split_inbox.proofs.Booking.{opened}
use Rattle.split_inbox.proofs.book.SemBook.open.Goals as goal

pub invariant_of-result : goal.invariant_of-result
invariant_of-result c =
    let room = subst (λ l. IsRoomFor l c.in_ok-queue.queue) c.as_slice.ensures.value c.in_ok-queue.ensures.room in
    let homes = ap (λ v. length v.items) c.of.ensures ∙ c.requires.tasks.0 in
    let sum = subst (λ l. sum_of l ≤ c.args.room) (sym (ap (λ v. v.items) c.of-2.ensures)) c.requires.room in
    opened c.args.sem c.in_ok-queue.queue c.of.result.value.items c.args.prios.items c.of-2.result.value.items c.in_ok-entries.entries.items _ c.args.room
    c.in_ok-entries.ensures.items c.in_ok-queue.ensures.free room homes sum c.in_ok-entries.ensures.capacity
