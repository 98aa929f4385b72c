use Rattle.std.proofs.Common.{◌≡◌, ◌+◌, ◌-◌, ◌<◌, length, map, reverse, take, sym, ap, ◌∙◌, subst, arith}
use Rattle.rt_plays.proofs.SetLimits.{sets_are_in_limits}
use Rattle.part_player.proofs.OwnParts.{count-is}
use Rattle.part_seat.specs.Partitions.{unplayed}
use Rattle.std.proofs.lemmas.List.{length-reverse}
use Rattle.split_part.specs.Columns.{AreFrom, IsColumn}
use Rattle.split_part.specs.inside.Deals.{lists}
use Rattle.split_part.specs.Openings.{IsOpenPart}
use Rattle.split_part.proofs.ColumnLaws.{from-popped, popped-rows, rows-full}
use Rattle.split_part.proofs.OpeningLaws.{first-rows, open-unused, rows-reach}
use Rattle.split_part.proofs.opening.partitions.Goals as goal

pub loop-cpu-init : goal.loop-cpu-init
loop-cpu-init c =
    let p = c.args.setup.now in
    let n : length c.as_slice-cpu.result.now ≡ length p.clusters = ap length c.as_slice-cpu.ensures ∙ ap (λ q. length q.clusters) c.parts.ensures.parts in
    let none = c.new-parts.ensures.items in
    record {
      rows_are = first-rows p c.parts.ensures.valid c.requires.split (lists c.args.rows.items) c.requires.rows ∙ ap (λ k. map (take k) (lists c.args.rows.items)) (sym n);
      parts_are = subst (λ l. AreFrom (IsOpenPart p (lists c.args.rows.items)) (length c.as_slice-cpu.result.now) (reverse l)) (sym none) tt;
      count = let l = ap length none in omega (arith, n, l);
    }

pub pop_each-requires : goal.pop_each-requires
pop_each-requires c =
    let k = c.loop-cpu.cpu - 1 in
    let inv = c.loop-cpu.invariant in
    let at : c.loop-cpu.cpu ≡ k + 1 = let h = c.loop-cpu-test.true in omega (arith, h) in
    let low : k < length c.args.setup.now.clusters = let n = inv.count in let h = c.loop-cpu-test.true in omega (arith, n, h) in
    rows-full k (lists c.args.rows.items) (rows-reach c.args.setup.now c.parts.ensures.valid c.requires.split (lists c.args.rows.items) c.requires.rows k low)
    c.loop-cpu.rows.items (inv.rows_are ∙ ap (λ n. map (take n) (lists c.args.rows.items)) at)

pub overflow_cast-cpu : goal.overflow_cast-cpu
overflow_cast-cpu c =
    let few = (sets_are_in_limits c.args.setup.now c.parts.ensures.valid).few_clusters in
    let n = c.loop-cpu.invariant.count in
    omega (arith, few, n)

pub open-requires-clause-there : goal.open-requires-clause-there
open-requires-clause-there c =
    let n = c.loop-cpu.invariant.count in
    let m = count-is c.args.setup.now c.parts.ensures.valid c.requires.split in
    let h = c.loop-cpu-test.true in
    omega (arith, n, m, h)

pub open-requires-clause-seats : goal.open-requires-clause-seats
open-requires-clause-seats c =
    let p = c.args.setup.now in
    let rows = lists c.args.rows.items in
    let k = c.loop-cpu.cpu - 1 in
    let inv = c.loop-cpu.invariant in
    let h = c.loop-cpu-test.true in
    let n = inv.count in
    let m = count-is p c.parts.ensures.valid c.requires.split in
    let at : c.loop-cpu.cpu ≡ k + 1 = omega (arith, h) in
    let low : k < length p.clusters = omega (arith, n, h) in
    let wide = rows-reach p c.parts.ensures.valid c.requires.split rows c.requires.rows k low in
    let dealt = popped-rows k rows wide c.loop-cpu.rows.items (inv.rows_are ∙ ap (λ i. map (take i) rows) at) c.in_ok-rests.rests.items c.in_ok-rests.seats.items c.in_ok-rests.ensures in
    open-unused p rows c.requires.rows k c.in_ok-rests.seats.items (omega (arith, low, m)) dealt.1

pub loop-cpu-preserved : goal.loop-cpu-preserved
loop-cpu-preserved c =
    let p = c.args.setup.now in
    let rows = lists c.args.rows.items in
    let k = c.loop-cpu.cpu - 1 in
    let inv = c.loop-cpu.invariant in
    let h = c.loop-cpu-test.true in
    let n = inv.count in
    let at : c.loop-cpu.cpu ≡ k + 1 = omega (arith, h) in
    let low : k < length p.clusters = omega (arith, n, h) in
    let wide = rows-reach p c.parts.ensures.valid c.requires.split rows c.requires.rows k low in
    let dealt = popped-rows k rows wide c.loop-cpu.rows.items (inv.rows_are ∙ ap (λ i. map (take i) rows) at) c.in_ok-rests.rests.items c.in_ok-rests.seats.items c.in_ok-rests.ensures in
    let made = c.in_ok-open.ensures in
    let seats = ap (λ a. a.seats) made in
    let pushed = c.in_ok-push.ensures.items in
    record {
      rows_are = dealt.0;
      parts_are =
          from-popped (IsOpenPart p rows) k c.loop-cpu.cpu c.push.new.self.items c.loop-cpu.parts.items c.in_ok-open.field-0 pushed at inv.parts_are
          (record { is = made ∙ ap (λ l. unplayed p k l c.in_ok-open.field-0.room) (sym seats); column = subst (λ l. IsColumn k rows l) (sym seats) dealt.1 });
      count = let l = c.in_ok-push.ensures.len in omega (arith, n, h, l, c.loop-cpu.parts.ok.0, c.push.new.self.ok.0);
    }

pub returns : goal.returns
returns c =
    let inv = c.loop-cpu.invariant in
    let zero_is : c.loop-cpu.cpu ≡ 0 = let h = c.loop-cpu-test.false in omega (arith, h) in
    let m = count-is c.args.setup.now c.parts.ensures.valid c.requires.split in
    let turned = c.turn_round.ensures in
    let l = ap length turned ∙ length-reverse c.loop-cpu.parts.items in
    let n = inv.count in
    record {
      count = omega (arith, l, n, m, zero_is);
      each = subst (AreFrom (IsOpenPart c.args.setup.now (lists c.args.rows.items)) 0) (sym turned) (subst (λ k. AreFrom (IsOpenPart c.args.setup.now (lists c.args.rows.items)) k (reverse c.loop-cpu.parts.items)) zero_is inv.parts_are);
    }
