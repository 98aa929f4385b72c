use Rattle.std.proofs.Common.{[], ◌∷◌, ◌++◌, map, sym, ap, ◌∙◌, append_assoc}
use Rattle.std.proofs.lemmas.List.{map_push}
use Rattle.std.proofs.lemmas.List.Elements.{All-push}
use Rattle.part_seat.specs.Partitions.{PartOf}
use Rattle.part_seat.specs.PartSeats.{IsPartition}
use Rattle.split_part.proofs.ColumnLaws.{lists-push}
use Rattle.split_part.proofs.closing.histories_of.Goals as goal

pub loop-part-preserved : goal.loop-part-preserved
loop-part-preserved c =
    let inv = c.loop-part.invariant in
    let a : PartOf = c.in-Some.part in
    let steps = c.in-Some.ensures.steps.0 in
    let gives = c.into_parts-entries.ensures in
    record {
      gone = inv.gone ++ a ∷ [];
      parts_are = inv.parts_are ∙ ap (λ l. inv.gone ++ l) steps ∙ sym (append_assoc inv.gone (a ∷ []) c.next.new.self.rest.items);
      histories_are = lists-push c.push.new.self.items c.loop-part.histories.items _ (λ (k : PartOf). k.entries) inv.gone a c.in_ok-push.ensures.items gives.entries inv.histories_are;
      rows_are = lists-push c.push-in-loop-part.new.self.items c.loop-part.rows.items _ (λ (k : PartOf). k.seats) inv.gone a c.in_ok-push-2.ensures.items gives.seats inv.rows_are;
      kept = All-push IsPartition inv.gone a inv.kept gives.kept;
    }
