use Rattle.std.proofs.Common.{◌≡◌, ◌+◌, ◌<◌, [], ◌∷◌, ◌++◌, Some, length, map, reverse, take, sym, ap, ◌∙◌, subst, append-nil, arith}
use Rattle.std.specs.Prelude.{option_map, slice_get}
use Rattle.std.proofs.lemmas.List.{length-map}
use Rattle.std.proofs.lemmas.Option.{slice_get-map, slice_get_within}
use Rattle.split_inbox.specs.Inboxes.{TakerOf}
use Rattle.split_part.specs.Closings.{IsRestAt}
use Rattle.split_part.specs.Columns.{AreFrom}
use Rattle.split_part.specs.inside.Deals.{lists}
use Rattle.split_part.specs.Openings.{inboxes_at}
use Rattle.split_part.proofs.ClosingLaws.{column-inbox, inbox-wide, rest-at}
use Rattle.split_part.proofs.ColumnLaws.{length-popped, lists-popped, map-last, popped-rows, rows-full, rows-popped, starts-popped, take-whole}
use Rattle.split_part.proofs.closing.rests_of.Goals as goal

pub loop-inbox-init : goal.loop-inbox-init
loop-inbox-init g c =
    let n = length c.args.inboxes.items in
    let e = ap length c.requires.takers in
    let l = length-map c.args.takers.items (λ (x : TakerOf). x.inbox) in
    let none = c.new-rests.ensures.items in
    record {
      inboxes_are = c.requires.takers;
      takers_are = ([], sym (append-nil c.args.takers.items));
      rows_are = sym (take-whole n (lists c.args.rows.items) (λ i d low. let h = ap length (c.requires.posters i d low) in let m = length-map _ (λ b. b.inbox) in sym m ∙ h));
      rests_are = subst (λ x. AreFrom (IsRestAt (lists c.args.rows.items) c.args.takers.items) n (lists (reverse x))) (sym none) tt;
      count = let z = ap length none in omega (arith, e, l, z);
    }

pub pop_each-requires : goal.pop_each-requires
pop_each-requires g c =
    let inv = c.loop-inbox.invariant in
    let old = c.loop-inbox.inboxes.items in
    let now = c.pop.new.self.items in
    let popped = c.in-Some.ensures.items in
    let told = c.loop-inbox.takers.items in
    let tnow = c.pop-in-Some.new.self.items in
    let tpopped = c.in-Some-pop.ensures.items in
    let t : TakerOf = c.in-Some-pop.taker in
    let k = length now in
    let rows = lists c.args.rows.items in
    let n = length-popped old now c.in-Some.inbox popped in
    let m = length-popped told tnow t tpopped in
    let l = length-map told (λ (x : TakerOf). x.inbox) in
    let e = ap length inv.inboxes_are in
    let view : length tnow ≡ k = omega (arith, n, m, l, e) in
    let last = map-last (λ (x : TakerOf). x.inbox) tnow t now c.in-Some.inbox (sym popped ∙ inv.inboxes_are ∙ ap inboxes_at tpopped) in
    let taker = starts-popped told tnow t tpopped c.args.takers.items inv.takers_are in
    let there : slice_get c.args.takers.items k ≡ Some t = subst (λ j. slice_get c.args.takers.items j ≡ Some t) view taker.1 in
    let inbox_there : slice_get c.args.inboxes.items k ≡ Some c.in-Some.inbox =
    ap (λ x. slice_get x k) c.requires.takers ∙ slice_get-map (λ (x : TakerOf). x.inbox) c.args.takers.items k ∙ ap (option_map (λ (x : TakerOf). x.inbox)) there ∙ ap Some (sym last.1) in
    let wide = inbox-wide c.args.inboxes.items rows c.requires.posters k (slice_get_within c.args.inboxes.items k c.in-Some.inbox inbox_there) in
    rows-full k rows wide c.loop-inbox.rows.items (rows-popped old now c.in-Some.inbox popped rows c.loop-inbox.rows.items inv.rows_are)

pub close-requires-clause-taker : goal.close-requires-clause-taker
close-requires-clause-taker g c =
    let inv = c.loop-inbox.invariant in
    let last = map-last (λ (x : TakerOf). x.inbox) c.pop-in-Some.new.self.items c.in-Some-pop.taker c.pop.new.self.items c.in-Some.inbox (sym c.in-Some.ensures.items ∙ inv.inboxes_are ∙ ap inboxes_at c.in-Some-pop.ensures.items) in
    sym last.1

pub close-requires-clause-posters : goal.close-requires-clause-posters
close-requires-clause-posters g c =
    let inv = c.loop-inbox.invariant in
    let old = c.loop-inbox.inboxes.items in
    let now = c.pop.new.self.items in
    let popped = c.in-Some.ensures.items in
    let told = c.loop-inbox.takers.items in
    let tnow = c.pop-in-Some.new.self.items in
    let tpopped = c.in-Some-pop.ensures.items in
    let t : TakerOf = c.in-Some-pop.taker in
    let k = length now in
    let rows = lists c.args.rows.items in
    let n = length-popped old now c.in-Some.inbox popped in
    let m = length-popped told tnow t tpopped in
    let l = length-map told (λ (x : TakerOf). x.inbox) in
    let e = ap length inv.inboxes_are in
    let view : length tnow ≡ k = omega (arith, n, m, l, e) in
    let last = map-last (λ (x : TakerOf). x.inbox) tnow t now c.in-Some.inbox (sym popped ∙ inv.inboxes_are ∙ ap inboxes_at tpopped) in
    let taker = starts-popped told tnow t tpopped c.args.takers.items inv.takers_are in
    let there : slice_get c.args.takers.items k ≡ Some t = subst (λ j. slice_get c.args.takers.items j ≡ Some t) view taker.1 in
    let inbox_there : slice_get c.args.inboxes.items k ≡ Some c.in-Some.inbox =
    ap (λ x. slice_get x k) c.requires.takers ∙ slice_get-map (λ (x : TakerOf). x.inbox) c.args.takers.items k ∙ ap (option_map (λ (x : TakerOf). x.inbox)) there ∙ ap Some (sym last.1) in
    let wide = inbox-wide c.args.inboxes.items rows c.requires.posters k (slice_get_within c.args.inboxes.items k c.in-Some.inbox inbox_there) in
    let dealt = popped-rows k rows wide c.loop-inbox.rows.items (rows-popped old now c.in-Some.inbox popped rows c.loop-inbox.rows.items inv.rows_are) c.in_ok-left.left.items c.in_ok-left.posters.items c.in_ok-left.ensures in
    column-inbox c.args.inboxes.items rows c.requires.posters k c.in-Some.inbox c.in_ok-left.posters.items inbox_there dealt.1

pub loop-inbox-preserved : goal.loop-inbox-preserved
loop-inbox-preserved g c =
    let inv = c.loop-inbox.invariant in
    let old = c.loop-inbox.inboxes.items in
    let now = c.pop.new.self.items in
    let popped = c.in-Some.ensures.items in
    let told = c.loop-inbox.takers.items in
    let tnow = c.pop-in-Some.new.self.items in
    let tpopped = c.in-Some-pop.ensures.items in
    let t : TakerOf = c.in-Some-pop.taker in
    let k = length now in
    let rows = lists c.args.rows.items in
    let n = length-popped old now c.in-Some.inbox popped in
    let m = length-popped told tnow t tpopped in
    let l = length-map told (λ (x : TakerOf). x.inbox) in
    let e = ap length inv.inboxes_are in
    let view : length tnow ≡ k = omega (arith, n, m, l, e) in
    let last = map-last (λ (x : TakerOf). x.inbox) tnow t now c.in-Some.inbox (sym popped ∙ inv.inboxes_are ∙ ap inboxes_at tpopped) in
    let taker = starts-popped told tnow t tpopped c.args.takers.items inv.takers_are in
    let there : slice_get c.args.takers.items k ≡ Some t = subst (λ j. slice_get c.args.takers.items j ≡ Some t) view taker.1 in
    let inbox_there : slice_get c.args.inboxes.items k ≡ Some c.in-Some.inbox =
    ap (λ x. slice_get x k) c.requires.takers ∙ slice_get-map (λ (x : TakerOf). x.inbox) c.args.takers.items k ∙ ap (option_map (λ (x : TakerOf). x.inbox)) there ∙ ap Some (sym last.1) in
    let wide = inbox-wide c.args.inboxes.items rows c.requires.posters k (slice_get_within c.args.inboxes.items k c.in-Some.inbox inbox_there) in
    let dealt = popped-rows k rows wide c.loop-inbox.rows.items (rows-popped old now c.in-Some.inbox popped rows c.loop-inbox.rows.items inv.rows_are) c.in_ok-left.left.items c.in_ok-left.posters.items c.in_ok-left.ensures in
    let gives = c.close.ensures in
    let pushed = c.in_ok-push.ensures.items in
    let before = c.loop-inbox.rests.items in
    let all = inv.count in
    record {
      inboxes_are = last.0;
      takers_are = taker.0;
      rows_are = dealt.0;
      rests_are =
          lists-popped (IsRestAt rows c.args.takers.items) k (length old) c.push.new.self.items before c.close.result pushed n inv.rests_are
          (rest-at rows c.args.takers.items k t c.in_ok-left.posters.items c.close.result.items there dealt.1 gives.all gives.tasks gives.rising);
      count = let z = length-popped c.push.new.self.items before c.close.result pushed in omega (arith, n, z, all);
    }
