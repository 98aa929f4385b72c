-- PCP: the blocker of a task is the owner of the newest grant among those of other tasks.
use Rattle.std.proofs.Common.{Bool, List, [], ap, cond, eqb-true, false, inl, inr, map, not, refl, subst, sym, true, ℕ, ◌&&◌, ◌||◌, ◌∙◌, ◌∷◌, ◌≡◌, ◌⊎◌}
use Rattle.std.specs.Prelude.{None, Option, Some, filter, is_none, nat_lt, ◌==◌}
use Rattle.rt_rules.specs.KeyOrder.{higher}
use Rattle.rt_rules.specs.OrderLaws.{higher-irreflexive, higher-transitive}
use Rattle.rt_rules.specs.declared.Key.{Key}
use Rattle.rt_rules.specs.Numbers.{first, foremost, has}
use Rattle.rt_rules.specs.Pcp.{TaskSem, holder_among, of_others, of_sem, passes}
use Rattle.rt_rules.proofs.BoolLaws.{both, clash, either, unless}
use Rattle.rt_rules.proofs.KeyLaws.{foremost-none, foremost-some, higher-mixed, keys-order}
use Rattle.rt_rules.proofs.MemberLaws.{equal_self, has-first, some-is, turned}
use Rattle.rt_rules.proofs.PairLaws.{has-of_sem, has_pair, has_pair-others, sem-there, tasks_of_pairs}
use Rattle.rt_rules.proofs.PcpLaws.{IsStacked, passes-above_ceiling, passes-cons}

-- the semaphores of a list of pairs
abbrev pub sems_of_pairs : List TaskSem → List ℕ
sems_of_pairs ps = map (λ (p : TaskSem). p.sem) ps

-- base keys of tasks, and ceilings of semaphores
module _ (base ceiling : ℕ → Key) where
  -- the base key of a task is above a ceiling
  abbrev pub is_above : ℕ → ℕ → Bool
  is_above t s = higher (base t) (ceiling s)

  -- of two semaphores the one of the higher ceiling leads, and the lower number where neither is higher
  abbrev pub leads : ℕ → ℕ → Bool
  leads s r = higher (ceiling s) (ceiling r) || not (higher (ceiling r) (ceiling s)) && nat_lt s r

  -- the owner of the newest grant holds the highest ceiling
  newest-blocks : (p : TaskSem) (ps : List TaskSem) → IsStacked is_above (p ∷ ps) → is_above p.task p.sem ≡ false → holder_among (p ∷ ps) (foremost leads (sems_of_pairs (p ∷ ps))) ≡ Some p.task
  newest-blocks p ps k low = by_case (foremost leads (p.sem ∷ sems_of_pairs ps)) refl
    where
      -- the owner of the newest grant is over what others hold, but not over what it holds
      lower : (x r : ℕ) → has_pair x r ps ≡ true → x == p.task ≡ false → higher (ceiling p.sem) (ceiling r) ≡ true
      lower x r m n = higher-mixed (base p.task) (ceiling p.sem) (ceiling r) low (passes-above_ceiling is_above ps p.task x r k.0 m n)

      leads_not : (r : ℕ) → p.sem == r ≡ false → higher (ceiling p.sem) (ceiling r) ≡ true → r == p.sem || leads r p.sem ≡ true → ⊥
      leads_not r ne up lead = no (r == p.sem) (higher (ceiling r) (ceiling p.sem)) (higher (ceiling p.sem) (ceiling r)) lead (turned r p.sem ∙ ne) (unless _ (λ m. clash _ (higher-transitive (ceiling r) (ceiling p.sem) (ceiling r) m up) (higher-irreflexive (ceiling r)))) up
        where
          no : (a b c : Bool) → a || (b || not c && nat_lt r p.sem) ≡ true → a ≡ false → b ≡ false → c ≡ true → ⊥
          no true b c l x y z = cc
          no false true c l x y z = cc
          no false false true l x y z = cc
          no false false false l x y z = cc

      owner : (r x : ℕ) → p.sem == r ≡ false → r == p.sem || leads r p.sem ≡ true → has_pair x r ps ≡ true → x ≡ p.task
      owner r x ne lead there = by_eq (x == p.task) refl
        where
          by_eq : (b : Bool) → x == p.task ≡ b → x ≡ p.task
          by_eq true m = eqb-true x p.task m
          by_eq false m = absurd (leads_not r ne (lower x r there m) lead)

      found : (r : ℕ) → p.sem == r ≡ false → has r (p.sem ∷ sems_of_pairs ps) ≡ true → r == p.sem || leads r p.sem ≡ true → (o : Option ℕ) → first (of_sem r ps) ≡ o → o ≡ Some p.task
      found r ne h lead None e = absurd (missing (either (r == p.sem) _ h))
        where
          missing : (r == p.sem ≡ true) ⊎ (has r (sems_of_pairs ps) ≡ true) → ⊥
          missing (inl m) = clash _ m (turned r p.sem ∙ ne)
          missing (inr m) = let z : is_none (first (of_sem r ps)) ≡ false = sem-there r ps m in let y : true ≡ false = rw e at z in cc
      found r ne h lead (Some x) e =
          let there : has_pair x r ps ≡ true = sym (has-of_sem x r ps) ∙ has-first x (of_sem r ps) (some-is x (first (of_sem r ps)) e) in
          ap {B = Option ℕ} (λ n. Some n) (owner r x ne lead there)

      by_case : (o : Option ℕ) → foremost leads (p.sem ∷ sems_of_pairs ps) ≡ o → holder_among (p ∷ ps) o ≡ Some p.task
      by_case None e = let none : p.sem ∷ sems_of_pairs ps ≡ [] = foremost-none leads (keys-order ceiling) (p.sem ∷ sems_of_pairs ps) e in cc
      by_case (Some r) e = at (p.sem == r) refl
        where
          facts : (has r (p.sem ∷ sems_of_pairs ps) ≡ true) × ((y : ℕ) → has y (p.sem ∷ sems_of_pairs ps) ≡ true → r == y || leads r y ≡ true)
          facts = foremost-some leads (p.sem ∷ sems_of_pairs ps) r e

          at : (b : Bool) → p.sem == r ≡ b → first (map (λ (q : TaskSem). q.task) (cond b (p ∷ filter (λ q. q.sem == r) ps) (filter (λ q. q.sem == r) ps))) ≡ Some p.task
          at true m = refl
          at false m = found r m facts.0 (facts.1 p.sem (rw (equal_self p.sem))) (first (of_sem r ps)) refl

  -- ---- what others hold

  stacked-others : (t : ℕ) (ps : List TaskSem) → IsStacked is_above ps → IsStacked is_above (of_others t ps)
  stacked-others t [] k = tt
  stacked-others t (p ∷ ps) k = by_case (p.task == t) (stacked-others t ps k.1)
    where
      keeps : (qs : List TaskSem) (u : ℕ) → passes is_above qs u ≡ true → passes is_above (of_others t qs) u ≡ true
      keeps [] u h = refl
      keeps (q ∷ qs) u h = at (q.task == t) (both _ _ (sym (passes-cons is_above q qs u) ∙ h)) (keeps qs u)
        where
          at : (b : Bool) → (q.task == u || is_above u q.sem ≡ true) × (passes is_above qs u ≡ true) → (passes is_above qs u ≡ true → passes is_above (of_others t qs) u ≡ true) → passes is_above (cond (not b) (q ∷ of_others t qs) (of_others t qs)) u ≡ true
          at true m r = r m.1
          at false m r = rw (passes-cons is_above q (of_others t qs) u, m.0, r m.1)

      by_case : (b : Bool) → IsStacked is_above (of_others t ps) → IsStacked is_above (cond (not b) (p ∷ of_others t ps) (of_others t ps))
      by_case true r = r
      by_case false r = (keeps ps p.task k.0, r)

  -- the owner of the newest grant among those of others is the blocker
  pub newest-of_others : (t : ℕ) (ps : List TaskSem) → IsStacked is_above ps → ((u s : ℕ) → has_pair u s ps ≡ true → is_above u s ≡ false) → holder_among (of_others t ps) (foremost leads (sems_of_pairs (of_others t ps))) ≡ first (tasks_of_pairs (of_others t ps))
  newest-of_others t ps k low = by_case (of_others t ps) refl
    where
      by_case : (qs : List TaskSem) → of_others t ps ≡ qs → holder_among qs (foremost leads (sems_of_pairs qs)) ≡ first (tasks_of_pairs qs)
      by_case [] e = refl
      by_case (q ∷ qs) e =
          let stacked : IsStacked is_above (q ∷ qs) = subst (λ rs. IsStacked is_above rs) e (stacked-others t ps k) in
          let there : has_pair q.task q.sem (of_others t ps) ≡ true = rw (e, equal_self q.task, equal_self q.sem) in
          newest-blocks q qs stacked (low q.task q.sem (has_pair-others t q.task q.sem ps there))
