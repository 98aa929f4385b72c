use Rattle.std.proofs.Common.{◌≡◌, ◌∙◌, ℕ, ◌<◌, ◌≤◌, List, get_or, length, refl, sym, add-one, arith}
use Rattle.std.proofs.lemmas.List.{length-map}
use Rattle.std.specs.Prelude.{None, Option, Some, is_some}
use Rattle.std.specs.Option.{option_eq}
use Rattle.rt_base.specs.contracts.TaskNoPartialEq.TheImpl.{eq-value}
use Rattle.rt_base.specs.declared.TaskNo.{TaskNo}
use Rattle.rt_base.specs.TaskNos.{number_of_task, numbers_of_tasks}
use Rattle.rt_rules.specs.Numbers.{same}
use Rattle.rt_rules.specs.Placing.{link_at}
use Rattle.link_table.proofs.Exchanging.{from-found, from-free, from-other, from-past}
use Rattle.link_table.proofs.PlaceLaws.{link_at-numbers, numbers_of_tasks-set}
use Rattle.link_table.proofs.places.exchange.Goals as goal
use Rattle.link_table.proofs.places.exchange.Goals.{then-is_none, else-is_none}

same-numbers : (x y : Option TaskNo) → same (number_of_task x) (number_of_task y) ≡ option_eq eq-value.it x y
same-numbers None None = refl
same-numbers None (Some y) = refl
same-numbers (Some x) None = refl
same-numbers (Some x) (Some y) = refl

same-at : (os : List (Option TaskNo)) (q : ℕ) (left : Option TaskNo) → same (link_at (numbers_of_tasks os) q) (number_of_task left) ≡ option_eq eq-value.it (get_or os q None) left
same-at os q left = rw (← link_at-numbers os q) (same-numbers (get_or os q None) left)

is_some-at : (os : List (Option TaskNo)) (q : ℕ) → is_some (link_at (numbers_of_tasks os) q) ≡ is_some (get_or os q None)
is_some-at os q = rw (← link_at-numbers os q) (by_case (get_or os q None))
  where
    by_case : (o : Option TaskNo) → is_some (number_of_task o) ≡ is_some o
    by_case None = refl
    by_case (Some x) = refl

within : (os all : List (Option TaskNo)) (q : ℕ) → length os ≡ length all → q < length all → q < length (numbers_of_tasks os)
within os all q same low = omega (arith, length-map os number_of_task)

pub returns-then-eq : goal.returns-then-eq
returns-then-eq c =
    let found = same-at c.loop-q.links c.loop-q.q c.args.left ∙ sym c.eq.ensures ∙ c.if-eq.true in
    numbers_of_tasks-set _ _ _ ∙ sym (from-found _ _ _ _ (within _ _ _ c.loop-q.auto.links c.loop-q-test.true) found) ∙ c.loop-q.invariant

pub loop-q-preserved : goal.loop-q-preserved
loop-q-preserved c =
    let low = within _ _ _ c.loop-q.auto.links c.loop-q-test.true in
    let other = same-at c.loop-q.links c.loop-q.q c.args.left ∙ sym c.eq.ensures ∙ c.if-eq.false in
    let is = is_some-at c.loop-q.links c.loop-q.q in
    elim c.if-is_none.branch [
      | then-is_none w ↦ rw (w.links-is, w.waiting-is, numbers_of_tasks-set, add-one) (sym (from-free _ _ _ _ low other (is ∙ w.if-is_none.ensures)) ∙ c.loop-q.invariant)
      | else-is_none w ↦ rw (w.links-is, w.waiting-is, add-one) (sym (from-other _ _ _ _ low other (is ∙ w.if-is_none.ensures)) ∙ c.loop-q.invariant)
    ]

pub returns : goal.returns
returns c =
    let past : length (numbers_of_tasks c.loop-q.links) ≤ c.loop-q.q = omega (arith, length-map c.loop-q.links number_of_task) in
    sym (from-past _ _ _ _ past) ∙ c.loop-q.invariant
