use Rattle.std.proofs.Common.{All, List, ap, arith, get_or, length, refl, subst, sym, take, ◌+◌, ◌++◌, ◌<◌, ◌∙◌, ◌∷◌, [], ◌≡◌}
use Rattle.std.proofs.lemmas.List.{get_or-map, length-map, map-append, take-map, take_more}
use Rattle.std.specs.Prelude.{false, ℕ}
use Rattle.rt_base.specs.declared.TheConstants.{MOST_STEPS}
use Rattle.rt_rules.specs.Distinct.{IsDistinct}
use Rattle.rt_rules.specs.Numbers.{has}
use Rattle.rt_changes.specs.Tallies.{Waiter, counted, waiter_tasks}
use Rattle.block_counts.specs.declared.seen.Waiting.{Waiting}
use Rattle.block_counts.specs.Positions.{IsFew, seen_one}
use Rattle.block_counts.specs.SeenWords.{tallies_of, tally_of, waiter_of, waiters_of}
use Rattle.block_counts.proofs.Lists.{distinct-before}
use Rattle.block_counts.proofs.PositionLaws.{counted-more, counted-none, few-counted}
use Rattle.block_counts.proofs.requests.count_end.Goals as goal

-- a task of the list is none of those before it
fresh : (ws : List Waiting) (d : Waiting) → d.task.0 ≡ 0 → IsDistinct (waiter_tasks (waiters_of ws)) → (k : ℕ) → k < length ws → has (get_or ws k d).task.0 (waiter_tasks (waiters_of (take k ws))) ≡ false
fresh ws d none once k low =
    let inside : k < length (waiters_of ws) = rw (length-map ws waiter_of) low in
    let same_length : length (waiter_tasks (waiters_of ws)) ≡ length (waiters_of ws) = length-map (waiters_of ws) _ in
    let at : get_or (waiter_tasks (waiters_of ws)) k 0 ≡ (get_or ws k d).task.0 = get_or-map (λ (w : Waiter). w.task) (waiters_of ws) k (waiter_of d) 0 inside ∙ ap (λ (w : Waiter). w.task) (get_or-map waiter_of ws k d (waiter_of d) low) in
    let first : take k (waiter_tasks (waiters_of ws)) ≡ waiter_tasks (waiters_of (take k ws)) = take-map (λ (w : Waiter). w.task) k (waiters_of ws) ∙ ap waiter_tasks (take-map waiter_of k ws) in
    rw (at, first) at (distinct-before (waiter_tasks (waiters_of ws)) once k (rw same_length inside))

taken : (ws : List Waiting) (k : ℕ) (d : Waiting) → k < length ws → waiters_of (take (k + 1) ws) ≡ waiters_of (take k ws) ++ waiter_of (get_or ws k d) ∷ []
taken ws k d low = ap waiters_of (take_more ws k d low) ∙ map-append waiter_of (take k ws) (get_or ws k d ∷ [])

pub loop-one-init : goal.loop-one-init
loop-one-init c = sym (counted-none c.args.sem.0 (tallies_of c.args.seen.now))

pub see_end-requires-clause-positions : goal.see_end-requires-clause-positions
see_end-requires-clause-positions c = λ t i h.
    let low = (c.requires.positions.placed t i h).low in
    omega (arith, low, length-map c.args.seen.now tally_of, c.loop-one.auto.seen)

pub see_end-requires-clause-few : goal.see_end-requires-clause-few
see_end-requires-clause-few c = subst (All (IsFew (MOST_STEPS + 1))) (sym c.loop-one.invariant) (few-counted MOST_STEPS c.args.sem.0 (waiters_of (take c.loop-one.one-index c.args.waiting.now)) (tallies_of c.args.seen.now) c.requires.few)

pub loop-one-preserved : goal.loop-one-preserved
loop-one-preserved c =
    let none : Waiting = record { task = record { 0 = 0 }; blocked = false } in
    let w = get_or c.args.waiting.now c.loop-one.one-index none in
    let low : c.loop-one.one-index < length c.args.waiting.now = c.loop-one-test.true in
    c.see_end.ensures ∙
    ap (seen_one c.args.positions.now c.args.sem.0 (waiter_of w)) c.loop-one.invariant ∙
    counted-more c.args.sem.0 (waiter_of w) (waiters_of (take c.loop-one.one-index c.args.waiting.now)) (tallies_of c.args.seen.now) c.args.positions.now c.requires.positions (fresh c.args.waiting.now none refl c.requires.once c.loop-one.one-index low) ∙
    ap (λ ws. counted c.args.sem.0 ws (tallies_of c.args.seen.now)) (sym (taken c.args.waiting.now c.loop-one.one-index none low))
