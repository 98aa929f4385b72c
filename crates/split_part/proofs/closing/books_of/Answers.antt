use Rattle.std.proofs.Common.{◌≡◌, ◌+◌, ◌<◌, false, [], ◌∷◌, ◌++◌, All, Some, drop, length, map, reverse, take, sym, ap, ◌∙◌, subst, append-nil, arith}
use Rattle.std.specs.Prelude.{slice_get, slice_index_or}
use Rattle.std.proofs.lemmas.List.{drop_all, length-map}
use Rattle.std.proofs.lemmas.Option.{slice_get_within}
use Rattle.turn_cell.specs.SeatViews.{TurnOf}
use Rattle.split_inbox.specs.declared.subject.SemOf.{SemOf}
use Rattle.part_seat.specs.Partitions.{Seat}
use Rattle.split_part.specs.Closings.{IsTold}
use Rattle.split_part.specs.Columns.{AreBoth}
use Rattle.split_part.specs.inside.Deals.{lists}
use Rattle.split_part.proofs.ClosingLaws.{column-cell, column-cpus, hand-contains, hand-resting, told-by, told-more, turn-wide}
use Rattle.split_part.proofs.ColumnLaws.{all-get, both-length, length-popped, popped-rows, reversed-lists, rows-full, rows-popped, starts-popped, take-whole}
use Rattle.split_part.proofs.closing.books_of.Goals as goal

pub pop_each-requires : goal.pop_each-requires
pop_each-requires c =
    let inv = c.loop-turn.invariant in
    let old = c.loop-turn.turns.items in
    let now = c.pop.new.self.items in
    let popped = c.in-Some.ensures.items in
    let k = length now in
    let rows = lists c.args.rows.items in
    let turn = starts-popped old now c.in-Some.turn popped c.args.turns.items inv.turns_are in
    let low = slice_get_within c.args.turns.items k c.in-Some.turn turn.1 in
    let wide = turn-wide c.args.turns.items rows c.requires.cells k low in
    rows-full k rows wide c.loop-turn.rows.items (rows-popped old now c.in-Some.turn popped rows c.loop-turn.rows.items inv.rows_are)

pub close-book-requires-clause-seats : goal.close-book-requires-clause-seats
close-book-requires-clause-seats c =
    let inv = c.loop-turn.invariant in
    let old = c.loop-turn.turns.items in
    let now = c.pop.new.self.items in
    let popped = c.in-Some.ensures.items in
    let k = length now in
    let rows = lists c.args.rows.items in
    let turn = starts-popped old now c.in-Some.turn popped c.args.turns.items inv.turns_are in
    let low = slice_get_within c.args.turns.items k c.in-Some.turn turn.1 in
    let wide = turn-wide c.args.turns.items rows c.requires.cells k low in
    let dealt = popped-rows k rows wide c.loop-turn.rows.items (rows-popped old now c.in-Some.turn popped rows c.loop-turn.rows.items inv.rows_are) c.in_ok-left.left.items c.in_ok-left.seats.items c.in_ok-left.ensures in
    let hand = c.in_ok-left.seats.items in
    let cells = column-cell c.args.turns.items rows c.requires.cells k c.in-Some.turn hand turn.1 dealt.1 in
    let cpus = column-cpus k rows hand c.requires.seats dealt.1 in
    λ i d h. (cells i d h, hand-resting hand cpus i d h)

pub close-book-requires-clause-all : goal.close-book-requires-clause-all
close-book-requires-clause-all c =
    let inv = c.loop-turn.invariant in
    let old = c.loop-turn.turns.items in
    let now = c.pop.new.self.items in
    let popped = c.in-Some.ensures.items in
    let k = length now in
    let rows = lists c.args.rows.items in
    let turn = starts-popped old now c.in-Some.turn popped c.args.turns.items inv.turns_are in
    let low = slice_get_within c.args.turns.items k c.in-Some.turn turn.1 in
    let wide = turn-wide c.args.turns.items rows c.requires.cells k low in
    let dealt = popped-rows k rows wide c.loop-turn.rows.items (rows-popped old now c.in-Some.turn popped rows c.loop-turn.rows.items inv.rows_are) c.in_ok-left.left.items c.in_ok-left.seats.items c.in_ok-left.ensures in
    let hand = c.in_ok-left.seats.items in
    let cells = column-cell c.args.turns.items rows c.requires.cells k c.in-Some.turn hand turn.1 dealt.1 in
    let cpus = column-cpus k rows hand c.requires.seats dealt.1 in
    λ q h. let n = all-get (λ (t : TurnOf SemOf). t.cpus ≡ length c.args.rows.items) c.args.turns.items k c.in-Some.turn c.requires.cpus turn.1 in
    let m = both-length (λ row x. slice_get row k ≡ Some x) rows hand dealt.1 in
    let l = length-map c.args.rows.items (λ v. v.items) in
    hand-contains hand cpus q (omega (arith, h, n, m, l))

pub loop-turn-init : goal.loop-turn-init
loop-turn-init c =
    let n = length c.args.turns.items in
    let rows = lists c.args.rows.items in
    let none = c.new-books.ensures.items in
    let wide : All (λ row. length row ≡ n) rows =
    λ i d low. let h = ap length (c.requires.cells i d low) in let l = length-map (slice_index_or rows i d) (λ (a : Seat). a.cell) in
    let m = length-map c.args.turns.items (λ (t : TurnOf SemOf). t.cell) in sym l ∙ sym h ∙ m in
    record {
      turns_are = ([], sym (append-nil c.args.turns.items));
      rows_are = sym (take-whole n rows wide);
      told = λ i d low. subst (λ bs. AreBoth IsTold (drop n (slice_index_or rows i d)) (lists (reverse bs))) (sym none)
          (subst (λ l. AreBoth IsTold l []) (sym (drop_all n (slice_index_or rows i d) (let e = wide i d low in omega (arith, e)))) tt);
      count = let z = ap length none in omega (arith, z);
    }

pub loop-turn-preserved : goal.loop-turn-preserved
loop-turn-preserved c =
    let inv = c.loop-turn.invariant in
    let old = c.loop-turn.turns.items in
    let now = c.pop.new.self.items in
    let popped = c.in-Some.ensures.items in
    let k = length now in
    let rows = lists c.args.rows.items in
    let turn = starts-popped old now c.in-Some.turn popped c.args.turns.items inv.turns_are in
    let low = slice_get_within c.args.turns.items k c.in-Some.turn turn.1 in
    let wide = turn-wide c.args.turns.items rows c.requires.cells k low in
    let dealt = popped-rows k rows wide c.loop-turn.rows.items (rows-popped old now c.in-Some.turn popped rows c.loop-turn.rows.items inv.rows_are) c.in_ok-left.left.items c.in_ok-left.seats.items c.in_ok-left.ensures in
    let hand = c.in_ok-left.seats.items in
    let cells = column-cell c.args.turns.items rows c.requires.cells k c.in-Some.turn hand turn.1 dealt.1 in
    let cpus = column-cpus k rows hand c.requires.seats dealt.1 in
    let b = c.close-book.result in
    let kept = c.entries.ensures.kept in
    let gives = c.close-book.ensures in
    let told : All (λ (a : Seat). IsTold a b.entries) hand = λ i d h. told-by c.in-Some.turn b (slice_index_or hand i d) gives.subject kept (cells i d h) (gives.later i d h) (gives.whole i d h) in
    let n = length-popped old now c.in-Some.turn popped in
    let before = c.loop-turn.books.items in
    let pushed = c.in_ok-push.ensures.items in
    let copy = c.in_ok-to_vec.ensures.items_if_clones_equal (λ x y e. e) ∙ c.entries.ensures.entries in
    let all = inv.count in
    let later : All (λ row. AreBoth IsTold (drop (k + 1) row) (lists (reverse before))) rows = subst (λ m. All (λ row. AreBoth IsTold (drop m row) (lists (reverse before))) rows) n inv.told in
    let more = told-more k rows hand b.entries (lists (reverse before)) dealt.1 told later in
    let books : lists (reverse c.push.new.self.items) ≡ b.entries ∷ lists (reverse before) =
    ap (λ l. lists (reverse l)) pushed ∙ reversed-lists before c.in_ok-to_vec.field-0 ∙ ap (λ l. l ∷ lists (reverse before)) copy in
    record {
      turns_are = turn.0;
      rows_are = dealt.0;
      told = subst (λ bs. All (λ row. AreBoth IsTold (drop k row) bs) rows) (sym books) more;
      count = let z = length-popped c.push.new.self.items before c.in_ok-to_vec.field-0 pushed in omega (arith, n, z, all);
    }
