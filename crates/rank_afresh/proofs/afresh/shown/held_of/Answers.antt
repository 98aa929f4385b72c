use Rattle.std.proofs.Common.{◌∙◌, ℕ, ◌+◌, true, false, [], ◌∷◌, ◌++◌, map, ap, sym, append-nil}
use Rattle.std.specs.Prelude.{filter}
use Rattle.std.proofs.lemmas.List.{map-append}
use Rattle.rt_base.specs.declared.SemNo.{SemNo}
use Rattle.rt_rules.specs.Numbers.{is, numbers_from}
use Rattle.sem_table.specs.Told.{state_of}
use Rattle.rank_afresh.proofs.SetLists.{filter-next}
use Rattle.rank_afresh.proofs.afresh.shown.held_of.Goals as goal
use Rattle.rank_afresh.proofs.afresh.shown.held_of.Goals.{then-is_held+in_ok-push, else-is_held}

pub loop-i-preserved : goal.loop-i-preserved
loop-i-preserved c =
    let test = λ (s : ℕ). is c.args.task.0 (state_of c.args.core.now.facts.sems.table s).holder in
    let i = c.loop-i.i in
    elim c.if-is_held.branch [
      | then-is_held+in_ok-push w ↦ ap (λ v. map (λ (s : SemNo). s.0) v.items) w.held-is ∙ ap (map (λ (s : SemNo). s.0)) w.in_ok-push.ensures.items ∙ map-append (λ (s : SemNo). s.0) c.loop-i.held.items (record { 0 = i + 1 } ∷ []) ∙ ap (λ xs. xs ++ (i + 1) ∷ []) c.loop-i.invariant ∙ sym (filter-next test i true (sym c.is_held.ensures ∙ w.if-is_held.true))
      | else-is_held w ↦ ap (λ v. map (λ (s : SemNo). s.0) v.items) w.held-is ∙ c.loop-i.invariant ∙ sym (filter-next test i false (sym c.is_held.ensures ∙ w.if-is_held.false) ∙ append-nil (filter test (numbers_from 1 i)))
    ]
