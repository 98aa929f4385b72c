use Rattle.std.proofs.Common.{[], ap, arith, length, refl, rules, subst, sym, ℕ, ◌++◌, ◌<◌, ◌∙◌, ◌∷◌, ◌≡◌}
use Rattle.std.proofs.lemmas.List.{length-map, map-append, with_items_is}
use Rattle.std.specs.Prelude.{Option, Some, slice_set, vec_capacity}
use Rattle.rt_base.specs.TaskNos.{number_of_task}
use Rattle.rt_task.specs.declared.Parts.{Parts}
use Rattle.rt_rules.specs.SemState.{SemAct}
use Rattle.rt_model.specs.Blocking.{bound}
use Rattle.rt_changes.specs.Tallies.{Tally, counted, fed}
use Rattle.block_counts.specs.GroupRequests.{GroupRequests, NamesKnown, group_of}
use Rattle.block_counts.specs.Bounding.{CanBound}
use Rattle.block_counts.specs.SeenWords.{tallies_of, tally_of, waiters_of}
use Rattle.block_counts.specs.contracts.blocks.Blocks.{the_view}
use Rattle.block_counts.proofs.FedRequests.{at-fed, fit-asked, fit-counted, names-known}
use Rattle.block_counts.proofs.Limits.{can_bound}
use Rattle.block_counts.proofs.blocks.Blocks.feed.Goals as goal

pub bound_of-bound-requires-clause-can : goal.bound_of-bound-requires-clause-can
bound_of-bound-requires-clause-can c = subst CanBound (sym c.parts-parts.ensures.parts) (can_bound _ c.parts-parts.ensures.valid)

pub invariant_of-self : goal.invariant_of-self
invariant_of-self c =
    let a = c.self.inside in
    let left = subst (λ (b : GroupRequests). 0 < b.spare) (sym c.self.view_is) c.requires.room in
    let names = subst (λ (b : GroupRequests). NamesKnown b.setup c.args.entry.step.act (number_of_task c.args.runs)) (sym c.self.view_is) c.requires.names in
    let known = names-known a.setup c.args.entry.step.act c.args.entry.reply (number_of_task c.args.runs) c.in-Asks.task.0 c.in-Asks.sem.0 c.in-Asks.ensures names in
    let there : c.in-Asks.task.0 < length a.positions.items = omega (arith, known.0.1, c.self.invariant.0.positions_length) in
    let new : Tally = record { no = a.entries; task = c.in-Asks.task.0; sem = c.in-Asks.sem.0; ends = 0; ends_all = 0; bound = c.bound_of-bound.result } in
    let grown : tallies_of c.ask.new.seen.items ≡ tallies_of a.seen.items ++ new ∷ [] = ap tallies_of c.ask.ensures.seen ∙ map-append tally_of a.seen.items _ in
    let count : a.seen.len ≡ length (tallies_of a.seen.items) = omega (arith, length-map a.seen.items tally_of, a.seen.ok.0) in
    let placed : c.ask.new.positions ≡ slice_set a.positions.items c.in-Asks.task.0 (Some (length (tallies_of a.seen.items))) = c.ask.ensures.positions ∙ ap (λ ps. slice_set ps c.in-Asks.task.0 (Some a.seen.len)) c.as_mut_slice.ensures.value ∙ ap (λ n. slice_set a.positions.items c.in-Asks.task.0 (Some n)) count in
    let same : length c.ask.new.positions ≡ a.positions.len = search rules in
    let written = with_items_is a.positions c.ask.new.positions same in
    let kept : length c.bound_of-bound.new.counts ≡ a.users.len = omega (arith, c.bound_of-bound.ensures.counts.room, c.self.invariant.1.room, ap (λ (p : Parts). length p.sems) c.parts-parts.ensures.parts, a.users.ok.0) in
    let counted = with_items_is a.users c.bound_of-bound.new.counts kept in (
      rw (written, placed, grown) (fit-asked a.setup new (tallies_of a.seen.items) a.positions.items (vec_capacity a.seen) (vec_capacity c.ask.new.seen) a.entries a.spare c.self.invariant.0 left refl refl refl there c.ask.ensures.capacity),
      rw (counted, ← c.parts-parts.ensures.parts) c.bound_of-bound.ensures.counts,
    )

pub invariant_of-self-in-Frees : goal.invariant_of-self-in-Frees
invariant_of-self-in-Frees c =
    let a = c.self.inside in
    let left = subst (λ (b : GroupRequests). 0 < b.spare) (sym c.self.view_is) c.requires.room in
    let same : length c.count_end.new.seen ≡ a.seen.len = search rules in
    let written = with_items_is a.seen c.count_end.new.seen same in
    let now : tallies_of c.count_end.new.seen ≡ counted c.in-Frees.sem.0 (waiters_of c.args.waiting.now) (tallies_of a.seen.items) = c.count_end.ensures ∙ ap (λ xs. counted c.in-Frees.sem.0 (waiters_of c.args.waiting.now) (tallies_of xs)) c.as_mut_slice-in-Frees.ensures.value in
    (rw (written, now) (fit-counted a.setup c.in-Frees.sem.0 (waiters_of c.args.waiting.now) (tallies_of a.seen.items) a.positions.items (vec_capacity a.seen) a.entries a.spare c.self.invariant.0 left), c.self.invariant.1)

pub returns-in-Asks-clause-at : goal.returns-in-Asks-clause-at
returns-in-Asks-clause-at c = λ past at between.
    let a = c.self.inside in
    let b : GroupRequests = the_view a in
    let ws = waiters_of c.args.waiting.now in
    let t = c.in-Asks.task.0 in
    let s = c.in-Asks.sem.0 in
    let bound_is : c.bound_of-bound.result ≡ bound (group_of b) t s = c.bound_of-bound.ensures.bound ∙ ap (λ (p : Parts). bound (record { setup = p; number = a.group.0 }) t s) c.parts-parts.ensures.parts in
    let new = λ (o : Option ℕ). let x : Tally = record { no = a.entries; task = t; sem = s; ends = 0; ends_all = 0; bound = o } in x in
    let grown : tallies_of c.ask.new.seen.items ≡ tallies_of a.seen.items ++ new c.bound_of-bound.result ∷ [] = ap tallies_of c.ask.ensures.seen ∙ map-append tally_of a.seen.items _ in
    let fed_is = grown ∙ ap (λ o. tallies_of a.seen.items ++ new o ∷ []) bound_is ∙ ap (λ (x : SemAct). fed (bound (group_of b)) a.entries x ws (tallies_of a.seen.items)) c.in-Asks.ensures in
    at-fed b _ _ past c.args.entry (number_of_task c.args.runs) ws c.self.view_is refl refl fed_is at between

pub returns-in-Frees-clause-at : goal.returns-in-Frees-clause-at
returns-in-Frees-clause-at c = λ past at between.
    let a = c.self.inside in
    let b : GroupRequests = the_view a in
    let ws = waiters_of c.args.waiting.now in
    let same : length c.count_end.new.seen ≡ a.seen.len = search rules in
    let written = with_items_is a.seen c.count_end.new.seen same in
    let fed_is = ap tallies_of written ∙ c.count_end.ensures ∙ ap (λ xs. counted c.in-Frees.sem.0 ws (tallies_of xs)) c.as_mut_slice-in-Frees.ensures.value ∙ ap (λ (x : SemAct). fed (bound (group_of b)) a.entries x ws (tallies_of a.seen.items)) c.in-Frees.ensures in
    at-fed b _ _ past c.args.entry (number_of_task c.args.runs) ws c.self.view_is refl refl fed_is at between

pub returns-in-Neither-clause-at : goal.returns-in-Neither-clause-at
returns-in-Neither-clause-at c = λ past at between.
    let a = c.self.inside in
    let b : GroupRequests = the_view a in
    let ws = waiters_of c.args.waiting.now in
    let fed_is = ap (λ (x : SemAct). fed (bound (group_of b)) a.entries x ws (tallies_of a.seen.items)) c.in-Neither.ensures in
    at-fed b _ _ past c.args.entry (number_of_task c.args.runs) ws c.self.view_is refl refl fed_is at between
