use Rattle.std.proofs.Common.{◌≡◌, ◌+◌, ◌<◌, [], ◌∷◌, ◌++◌, length, take, sym, ap, ◌∙◌, subst, arith}
use Rattle.std.proofs.lemmas.List.{take_more}
use Rattle.split_inbox.specs.Inboxes.{TakerOf, fresh_posters}
use Rattle.part_seat.specs.Partitions.{PartOf}
use Rattle.split_part.specs.Columns.{AreBoth}
use Rattle.split_part.specs.Openings.{IsFreshTaker}
use Rattle.split_part.proofs.ColumnLaws.{both-push, lists-more, map-more}
use Rattle.split_part.proofs.OpeningLaws.{open-inbox}
use Rattle.split_part.proofs.opening.inboxes.Goals as goal

pub loop-part-preserved : goal.loop-part-preserved
loop-part-preserved g c =
    let inv = c.loop-part.invariant in
    let quotas = c.args.quotas.now in
    let parts = c.args.parts.now in
    let i = c.loop-part.part-index in
    let a : PartOf = c.part-item.result in
    let t : TakerOf = c.in_ok-inbox.taker in
    let gives = c.in_ok-inbox.ensures in
    let is = open-inbox quotas _ a c.in_ok-inbox.inbox c.in_ok-inbox.posters.items t gives.room gives.posters gives.taker c.tasks.ensures in
    let now = c.push-in-loop-part-2.new.self.items in
    let before = c.loop-part.takers.items in
    let made = c.in_ok-push-3.ensures.items in
    let low : i < length parts = let h = c.loop-part-test.true in omega (arith, h) in
    let more : take (i + 1) parts ≡ take i parts ++ a ∷ [] = take_more parts i a low ∙ ap (λ x. take i parts ++ x ∷ []) (sym c.part-item.is) in
    record {
      inboxes_are = map-more (λ (k : TakerOf). k.inbox) c.loop-part.inboxes.items c.push.new.self.items before now c.in_ok-inbox.inbox t c.in_ok-push.ensures.items made inv.inboxes_are is.inbox;
      rows_are = lists-more c.push-in-loop-part.new.self.items c.loop-part.rows.items c.in_ok-inbox.posters (λ (k : TakerOf). fresh_posters k.inbox.table k.tasks k.quotas (length k.quotas)) before now t
          c.in_ok-push-2.ensures.items is.posters inv.rows_are made;
      takers_are =
          subst (λ l. AreBoth (IsFreshTaker quotas) l now) (sym more)
          (subst (λ l. AreBoth (IsFreshTaker quotas) (take i parts ++ a ∷ []) l) (sym made) (both-push (IsFreshTaker quotas) (take i parts) before a t inv.takers_are is.taker));
    }
