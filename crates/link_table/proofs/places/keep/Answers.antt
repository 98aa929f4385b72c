use Rattle.std.proofs.Common.{◌≡◌, ◌≢◌, ℕ, suc, ◌<◌, List, [], ◌∷◌, length, get_or, arith, below_more, get_or-set_same, get_or-set_other, refl, subst, ap, true, ◌∙◌}
use Rattle.std.specs.Prelude.{None, Option}
use Rattle.rt_base.specs.declared.TaskNo.{TaskNo}
use Rattle.rt_rules.specs.Numbers.{is}
use Rattle.rt_rules.specs.Placing.{kept_link, kept}
use Rattle.rt_base.specs.TaskNos.{number_of_task, numbers_of_tasks}
use Rattle.link_table.proofs.MarkLaws.{left-kept, left-kept_all, left-none, link-says, run-says}
use Rattle.link_table.proofs.PlaceLaws.{link_at-numbers}
use Rattle.link_table.proofs.places.keep.Goals as goal

-- kept, place by place
kept-places : (top running : List ℕ) (xs rs ls : List (Option TaskNo)) → length xs ≡ length ls → length rs ≡ length ls → ((k : ℕ) → k < length ls → number_of_task (get_or xs k None) ≡ kept_link top running (number_of_task (get_or rs k None)) (number_of_task (get_or ls k None))) → numbers_of_tasks xs ≡ kept top running (numbers_of_tasks rs) (numbers_of_tasks ls)
kept-places top running [] [] [] e f each = refl
kept-places top running [] (r ∷ rs) [] e f each = absurd (omega arith)
kept-places top running (x ∷ xs) rs [] e f each = absurd (omega arith)
kept-places top running [] rs (l ∷ ls) e f each = absurd (omega arith)
kept-places top running (x ∷ xs) [] (l ∷ ls) e f each = absurd (omega arith)
kept-places top running (x ∷ xs) (r ∷ rs) (l ∷ ls) e f each = rw (each 0 (omega arith), kept-places top running xs rs ls (omega arith) (omega arith) (λ k h. each (suc k) (omega arith)))

pub loop-q-init : goal.loop-q-init
loop-q-init c = record { done = λ k h. absurd (omega arith); left = left-none _ _ _ _ _ c.requires.top; rest = λ k h. refl }

pub kept_at-link-requires-clause-run : goal.kept_at-link-requires-clause-run
kept_at-link-requires-clause-run c =
    λ t h.
    run-says _ _ _ _ c.loop-q.q c.loop-q.invariant.left t c.requires.runs_once (subst (λ o. is t o ≡ true) (link_at-numbers c.args.runs.now c.loop-q.q) h)

pub kept_at-link-requires-clause-link : goal.kept_at-link-requires-clause-link
kept_at-link-requires-clause-link c =
    λ t h idle.
    let here = ap number_of_task (c.loop-q.invariant.rest c.loop-q.q (omega arith)) ∙ link_at-numbers c.args.links.now c.loop-q.q in
    link-says _ _ _ _ c.loop-q.q c.loop-q.invariant.left t c.requires.linked_once (subst (λ o. is t o ≡ true) here h) idle

pub loop-q-preserved : goal.loop-q-preserved
loop-q-preserved c = record {
  done = below_more _ _ (λ k h. let ne : k ≢ c.loop-q.q = omega arith in rw get_or-set_other (c.loop-q.invariant.done k h))
      (let lt : c.loop-q.q < length c.loop-q.links = omega arith in rw (get_or-set_same, ← c.loop-q.invariant.rest c.loop-q.q (omega arith)) c.kept_at-link.ensures);
  left = rw c.set_of.ensures (left-kept _ _ _ c.args.runs.now c.args.links.now c.loop-q.links c.loop-q.q _ c.loop-q-test.true c.requires.length (c.loop-q.invariant.rest c.loop-q.q (omega arith)) c.kept_at-link.ensures c.loop-q.invariant.left);
  rest = λ k h. let ne : k ≢ c.loop-q.q = omega arith in rw get_or-set_other (c.loop-q.invariant.rest k (omega arith));
}

pub returns-clause-kept : goal.returns-clause-kept
returns-clause-kept c = kept-places _ _ _ _ _ (omega arith) (omega arith) (λ k h. c.loop-q.invariant.done k (omega arith))

pub returns-clause-left : goal.returns-clause-left
returns-clause-left c = rw (returns-clause-kept c) (left-kept_all _ _ _ c.args.runs.now c.args.links.now c.loop-q.q c.requires.length (omega arith) c.loop-q.invariant.left)
