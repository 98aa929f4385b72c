use Rattle.std.proofs.Common.{◌≡◌, ◌+◌, ◌<◌, [], ◌∷◌, ◌++◌, Some, length, map, reverse, take, sym, ap, ◌∙◌, subst, append-nil, arith}
use Rattle.std.specs.Prelude.{All, slice_get}
use Rattle.split_inbox.specs.Inboxes.{PosterOf, TakerOf}
use Rattle.part_seat.specs.Partitions.{PartOf}
use Rattle.part_seat.specs.PartSeats.{IsUnplayed, PartSeatView}
use Rattle.split_part.specs.Columns.{AreFrom, IsColumn}
use Rattle.split_part.specs.inside.Deals.{lists}
use Rattle.split_part.specs.Openings.{IsSeated}
use Rattle.split_part.proofs.ClosingLaws.{column-all}
use Rattle.split_part.proofs.ColumnLaws.{all-get, from-popped, length-popped, popped-rows, rows-full, rows-popped, starts-popped, take-whole, wide-more}
use Rattle.split_part.proofs.opening.seated.Goals as goal

pub loop-part-init : goal.loop-part-init
loop-part-init g c =
    let n = length c.args.parts.items in
    let none = c.new-seats.ensures.items in
    record {
      parts_are = ([], sym (append-nil c.args.parts.items));
      takers_are = ([], sym (append-nil c.args.takers.items));
      same_count = c.requires.count;
      rows_are = sym (take-whole n (lists c.args.rows.items) c.requires.wide);
      seats_are = subst (λ l. AreFrom (IsSeated c.args.parts.items (lists c.args.rows.items) c.args.takers.items) n (reverse l)) (sym none) tt;
      count = let l = ap length none in omega (arith, l);
    }

-- src/opening.rt: what is dealt to the next seat
pub pop_each-requires : goal.pop_each-requires
pop_each-requires g c =
    let inv = c.loop-part.invariant in
    let old = c.loop-part.parts.items in
    let now = c.pop.new.self.items in
    let popped = c.in-Some.ensures.items in
    let n = length-popped old now c.in-Some.part popped in
    let all = inv.count in
    let k = length now in
    let wide = wide-more (length c.args.parts.items) k (lists c.args.rows.items) c.requires.wide (omega (arith, n, all)) in
    rows-full k (lists c.args.rows.items) wide c.loop-part.rows.items (rows-popped old now c.in-Some.part popped (lists c.args.rows.items) c.loop-part.rows.items inv.rows_are)

pub senders_of-requires : goal.senders_of-requires
senders_of-requires g c =
    let inv = c.loop-part.invariant in
    let old = c.loop-part.parts.items in
    let now = c.pop.new.self.items in
    let popped = c.in-Some.ensures.items in
    let n = length-popped old now c.in-Some.part popped in
    let all = inv.count in
    let k = length now in
    let rows = lists c.args.rows.items in
    let wide = wide-more (length c.args.parts.items) k rows c.requires.wide (omega (arith, n, all)) in
    let dealt = popped-rows k rows wide c.loop-part.rows.items (rows-popped old now c.in-Some.part popped rows c.loop-part.rows.items inv.rows_are) c.in_ok-rests.rests.items c.in_ok-rests.posters.items c.in_ok-rests.ensures in
    column-all (λ (b : PosterOf). b.posted ≡ []) k rows c.in_ok-rests.posters.items dealt.1 (λ i d low b at. all-get (λ (x : PosterOf). x.posted ≡ []) _ k b (c.requires.unposted i d low) at)

pub new-requires : goal.new-requires
new-requires g c =
    let inv = c.loop-part.invariant in
    let old = c.loop-part.parts.items in
    let now = c.pop.new.self.items in
    let popped = c.in-Some.ensures.items in
    let n = length-popped old now c.in-Some.part popped in
    let all = inv.count in
    let k = length now in
    let rows = lists c.args.rows.items in
    let wide = wide-more (length c.args.parts.items) k rows c.requires.wide (omega (arith, n, all)) in
    let dealt = popped-rows k rows wide c.loop-part.rows.items (rows-popped old now c.in-Some.part popped rows c.loop-part.rows.items inv.rows_are) c.in_ok-rests.rests.items c.in_ok-rests.posters.items c.in_ok-rests.ensures in
    let part = starts-popped old now c.in-Some.part popped c.args.parts.items inv.parts_are in
    let told = c.loop-part.takers.items in
    let tnow = c.pop-in-Some.new.self.items in
    let tpopped = c.in-Some-pop.ensures.items in
    let m = length-popped told tnow c.in-Some-pop.taker tpopped in
    let same = inv.same_count in
    let view : length tnow ≡ k = omega (arith, n, m, same) in
    let taker = starts-popped told tnow c.in-Some-pop.taker tpopped c.args.takers.items inv.takers_are in
    let there : slice_get c.args.takers.items k ≡ Some c.in-Some-pop.taker = subst (λ j. slice_get c.args.takers.items j ≡ Some c.in-Some-pop.taker) view taker.1 in
    let posters = c.in_ok-senders_of.ensures in
    let a : PartSeatView = record { part = c.in-Some.part; posters = c.in_ok-senders_of.field-0.items; taker = c.in-Some-pop.taker } in
    subst (λ (m : PartOf). IsUnplayed g.N.Names.turns (record { part = m; posters = c.in_ok-senders_of.field-0.items; taker = c.in-Some-pop.taker })) (sym c.part.view_is)
    (c.requires.unplayed_each k a (record { part = part.1; posters = subst (IsColumn k rows) (sym posters) dealt.1; taker = there }))

pub loop-part-preserved : goal.loop-part-preserved
loop-part-preserved g c =
    let inv = c.loop-part.invariant in
    let old = c.loop-part.parts.items in
    let now = c.pop.new.self.items in
    let popped = c.in-Some.ensures.items in
    let n = length-popped old now c.in-Some.part popped in
    let all = inv.count in
    let k = length now in
    let rows = lists c.args.rows.items in
    let wide = wide-more (length c.args.parts.items) k rows c.requires.wide (omega (arith, n, all)) in
    let dealt = popped-rows k rows wide c.loop-part.rows.items (rows-popped old now c.in-Some.part popped rows c.loop-part.rows.items inv.rows_are) c.in_ok-rests.rests.items c.in_ok-rests.posters.items c.in_ok-rests.ensures in
    let part = starts-popped old now c.in-Some.part popped c.args.parts.items inv.parts_are in
    let told = c.loop-part.takers.items in
    let tnow = c.pop-in-Some.new.self.items in
    let tpopped = c.in-Some-pop.ensures.items in
    let m = length-popped told tnow c.in-Some-pop.taker tpopped in
    let same = inv.same_count in
    let view : length tnow ≡ k = omega (arith, n, m, same) in
    let taker = starts-popped told tnow c.in-Some-pop.taker tpopped c.args.takers.items inv.takers_are in
    let there : slice_get c.args.takers.items k ≡ Some c.in-Some-pop.taker = subst (λ j. slice_get c.args.takers.items j ≡ Some c.in-Some-pop.taker) view taker.1 in
    let posters = c.in_ok-senders_of.ensures in
    let is = c.new.ensures ∙ ap (λ (m : PartOf). record { part = m; posters = c.in_ok-senders_of.field-0.items; taker = c.in-Some-pop.taker }) c.part.view_is in
    let a : PartSeatView = record { part = c.in-Some.part; posters = c.in_ok-senders_of.field-0.items; taker = c.in-Some-pop.taker } in
    let seated : IsSeated c.args.parts.items rows c.args.takers.items k a = record { part = part.1; posters = subst (IsColumn k rows) (sym posters) dealt.1; taker = there } in
    let pushed = c.in_ok-push.ensures.items in
    record {
      parts_are = part.0;
      takers_are = taker.0;
      same_count = view;
      rows_are = dealt.0;
      seats_are =
          from-popped (IsSeated c.args.parts.items rows c.args.takers.items) k (length old) c.push.new.self.items c.loop-part.seats.items c.new.result pushed n inv.seats_are
          (subst (IsSeated c.args.parts.items rows c.args.takers.items k) (sym is) seated);
      count = let l = length-popped c.push.new.self.items c.loop-part.seats.items c.new.result pushed in omega (arith, n, l, all);
    }
