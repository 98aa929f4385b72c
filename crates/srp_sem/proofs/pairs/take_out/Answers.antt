use Rattle.std.proofs.Common.{◌≡◌, Bool, true, false, not, cond, List, [], ◌∷◌, refl, ap, ◌∙◌, rules, arith}
use Rattle.std.specs.Prelude.{filter}
use Rattle.std.proofs.lemmas.Fn.{filter_same}
use Rattle.std.proofs.lemmas.Bool.Decides.{nat_tests}
use Rattle.rt_rules.specs.Pcp.{TaskSem, is_same_pair, without_pair}
use Rattle.srp_sem.specs.declared.pairs.Pair.{Pair}
use Rattle.srp_sem.specs.Listed.{pair, pairs}
use Rattle.srp_sem.proofs.pairs.take_out.Goals as goal

pairs-filter : (p : TaskSem) (ps : List Pair) → pairs (filter (λ q. not (is_same_pair p (pair q))) ps) ≡ without_pair p (pairs ps)
pairs-filter p [] = refl
pairs-filter p (q ∷ qs) = by_case (is_same_pair p (pair q)) (pairs-filter p qs)
  where
    by_case : (b : Bool) → pairs (filter (λ q. not (is_same_pair p (pair q))) qs) ≡ without_pair p (pairs qs) → pairs (cond (not b) (q ∷ filter (λ q. not (is_same_pair p (pair q))) qs) (filter (λ q. not (is_same_pair p (pair q))) qs)) ≡ cond (not b) (pair q ∷ without_pair p (pairs qs)) (without_pair p (pairs qs))
    by_case true h = h
    by_case false h = ap (λ (ps : List TaskSem). pair q ∷ ps) h

pub returns-clause-items : goal.returns-clause-items
returns-clause-items c = ap pairs (filter_same _ (λ q. not (is_same_pair (pair c.args.gone) (pair q))) _ (λ x b g h. (grind (arith, nat_tests), search rules)) _ _ c.retain.ensures.filtered) ∙ pairs-filter (pair c.args.gone) c.args.from.now.items
