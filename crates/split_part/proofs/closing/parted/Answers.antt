use Rattle.std.proofs.Common.{◌≡◌, List, [], ◌∷◌, ◌++◌, All, map, sym, ap, ◌∙◌, subst, append_assoc, append-nil, arith}
use Rattle.std.proofs.lemmas.List.{map_push}
use Rattle.std.proofs.lemmas.List.Elements.{All-push}
use Rattle.part_seat.specs.PartSeats.{IsPartSeat, PartSeatView}
use Rattle.split_part.proofs.ColumnLaws.{lists-push, no-elements}
use Rattle.split_part.proofs.closing.parted.Goals as goal

pub loop-seat-preserved : goal.loop-seat-preserved
loop-seat-preserved g c =
    let inv = c.loop-seat.invariant in
    let a : PartSeatView = c.in-Some.seat in
    let steps = c.in-Some.ensures.steps.0 in
    let gives = c.into_parts-part.ensures in
    record {
      gone = inv.gone ++ a ∷ [];
      seats_are = inv.seats_are ∙ ap (λ l. inv.gone ++ l) steps ∙ sym (append_assoc inv.gone (a ∷ []) c.next.new.self.rest.items);
      parts_are =
          c.in_ok-push.ensures.items ∙ ap (λ l. l ++ c.into_parts-part.result.0 ∷ []) inv.parts_are
          ∙ ap (λ (k : PartSeatView). map (λ (b : PartSeatView). b.part) inv.gone ++ k.part ∷ []) gives.parts ∙ sym (map_push (λ (b : PartSeatView). b.part) inv.gone a);
      rows_are = lists-push c.push-in-loop-seat.new.self.items c.loop-seat.rows.items _ (λ (k : PartSeatView). k.posters) inv.gone a c.in_ok-push-2.ensures.items
          (c.in_ok-posters_of.ensures ∙ ap (λ (k : PartSeatView). k.posters) gives.parts) inv.rows_are;
      takers_are =
          c.in_ok-push-3.ensures.items ∙ ap (λ l. l ++ c.into_parts-part.result.2 ∷ []) inv.takers_are
          ∙ ap (λ (k : PartSeatView). map (λ (b : PartSeatView). b.taker) inv.gone ++ k.taker ∷ []) gives.parts ∙ sym (map_push (λ (b : PartSeatView). b.taker) inv.gone a);
      kept = All-push (IsPartSeat g.N.Names.turns) inv.gone a inv.kept gives.kept;
    }

pub returns-clause-kept : goal.returns-clause-kept
returns-clause-kept g c =
    let inv = c.loop-seat.invariant in
    let none = c.in-None.ensures.steps.0 in
    let len = c.loop-seat.seat-iterator.rest.ok.0 in
    let left = no-elements c.loop-seat.seat-iterator.rest.items (omega (arith, none, len)) in
    subst (All (IsPartSeat g.N.Names.turns)) (sym (inv.seats_are ∙ ap (λ l. inv.gone ++ l) left ∙ append-nil inv.gone)) inv.kept
