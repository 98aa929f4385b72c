-- The moments of a partition that played its script: each first part of its history is legal, and within the limits.
use Rattle.std.proofs.Common.{◌≡◌, ℕ, suc, ◌+◌, ◌<◌, ◌≤◌, Bool, true, false, List, [], ◌∷◌, ◌++◌, length, take, drop, refl, sym, ap, ◌∙◌, subst, arith, eqb-true, length-append, get_or}
use Rattle.std.proofs.Math.Seq.{drop-cons}
use Rattle.std.proofs.lemmas.List.{take-append-drop}
use Rattle.std.proofs.lemmas.List.Elements.{filter_map-append}
use Rattle.std.specs.Prelude.{◌==◌, All, ⊤}
use Rattle.rt_base.specs.declared.TheConstants.{MOST_STEPS, TICK_END}
use Rattle.rt_task.specs.declared.Parts.{Parts}
use Rattle.rt_task.specs.declared.Step.{Step}
use Rattle.rt_model.specs.Group.{Group}
use Rattle.rt_model.specs.Past.{entries_in, now}
use Rattle.rt_model.specs.Steps.{IsStepOf}
use Rattle.rt_plays.proofs.GroupLimits.{steps-few, steps-of_groups}
use Rattle.rt_plays.specs.Drives.{steps_given}
use Rattle.rt_plays.specs.Homes.{IsProcessorOf}
use Rattle.rt_plays.specs.Scripts.{script}
use Rattle.split_rules.specs.PartHistories.{IsEntryAt, IsLegalFrom, after, past_from, past_of, step_by, steps_of}
use Rattle.split_rules.specs.PartPast.{PartPast, moves}
use Rattle.split_rules.specs.Partitions.{part_group}
use Rattle.split_rules.specs.declared.SplitAct.{SplitAct}
use Rattle.split_rules.specs.declared.SplitAct.TheVariants.{Plain, Take}
use Rattle.split_rules.specs.declared.SplitEntry.{SplitEntry}
use Rattle.split_writer.specs.PartPlays.{IsPartPlay, IsPartition}
use Rattle.split_writer.proofs.Partitions.{inside}

-- ticks below the limit
abbrev AreLow : List Step → Type 0
AreLow [] = ⊤
AreLow (x ∷ xs) = (x.tick.0 < TICK_END) × AreLow xs

low-script : (g : Group) (q : ℕ) (xs : List Step) → IsProcessorOf g q → All (λ (s : Step). IsProcessorOf g s.cpu.0 → IsStepOf g s) xs → AreLow (script xs q)
low-script g q [] there all = tt
low-script g q (x ∷ xs) there all = by_case (low-script g q xs there (λ i d low. all (suc i) d (omega (arith, low)))) (x.cpu.0 == q) refl
  where
    by_case : AreLow (script xs q) → (b : Bool) → x.cpu.0 == q ≡ b → AreLow (script (x ∷ xs) q)
    by_case rest true e =
        let same : x.cpu.0 ≡ q = eqb-true x.cpu.0 q e in
        let step : IsStepOf g x = all 0 x (omega arith) (rw same there) in
        rw e (step.tick, rest)
    by_case rest false e = rw e rest

low-front : (xs ys : List Step) → AreLow (xs ++ ys) → AreLow xs
low-front [] ys h = tt
low-front (x ∷ xs) ys h = (h.0, low-front xs ys h.1)

script-few : (xs : List Step) (q : ℕ) → length (script xs q) ≤ length xs
script-few [] q = omega arith
script-few (x ∷ xs) q = by_case (script-few xs q) (x.cpu.0 == q) refl
  where
    by_case : length (script xs q) ≤ length xs → (b : Bool) → x.cpu.0 == q ≡ b → length (script (x ∷ xs) q) ≤ length (x ∷ xs)
    by_case r true e = rw e (omega (arith, r))
    by_case r false e = rw e (omega (arith, r))

steps-joined : (q : ℕ) (xs ys : List SplitEntry) → steps_of q (xs ++ ys) ≡ steps_of q xs ++ steps_of q ys
steps-joined q xs ys = filter_map-append (λ (e : SplitEntry). step_by q e.act e) xs ys

module _ (g : Group) (q : ℕ) where
  legal-front : (xs ys : List SplitEntry) (past : PartPast) → IsLegalFrom g q past (xs ++ ys) → IsLegalFrom g q past xs
  legal-front [] ys past h = tt
  legal-front (x ∷ xs) ys past h = (h.0, legal-front xs ys (after g q x past) h.1)

  legal-next : (xs ys : List SplitEntry) (e : SplitEntry) (past : PartPast) → IsLegalFrom g q past (xs ++ e ∷ ys) → IsEntryAt g q (past_from g q past xs) e
  unfolding past_from
  legal-next [] ys e past h = h.0
  legal-next (x ∷ xs) ys e past h = legal-next xs ys e (after g q x past) h.1

  acts-in : (es : List SplitEntry) (past : PartPast) → entries_in (moves (past_from g q past es)) ≡ entries_in (moves past) + length (steps_of q es)
  unfolding past_from after
  acts-in [] past = omega arith
  acts-in (e ∷ es) past = acts-in es (after g q e past) ∙ by_act e.act refl
    where
      by_act : (a : SplitAct) → e.act ≡ a → entries_in (moves (after g q e past)) + length (steps_of q es) ≡ entries_in (moves past) + length (steps_of q (e ∷ es))
      by_act (Plain act) is = rw is (omega arith)
      by_act (Take s n t) is = rw is refl

  clock-low : (es : List SplitEntry) (past : PartPast) → now (moves past) < TICK_END → AreLow (steps_of q es) → now (moves (past_from g q past es)) < TICK_END
  unfolding past_from after
  clock-low [] past low all = low
  clock-low (e ∷ es) past low all = let b = by_act e.act refl in clock-low es (after g q e past) b.0 b.1
    where
      by_act : (a : SplitAct) → e.act ≡ a → (now (moves (after g q e past)) < TICK_END) × AreLow (steps_of q es)
      by_act (Plain act) is = let l = rw is at all in (rw is (let a = l.0 in omega (arith, a, low)), l.1)
      by_act (Take s n t) is = let l = rw is at all in (rw is low, l)

-- after the first i entries
pub record IsMoment (g : Group) (q : ℕ) (es : List SplitEntry) : Type 0 where
  pub legal : IsLegalFrom g q [] es
  pub few : entries_in (moves (past_of g q es)) ≤ MOST_STEPS
  pub low : now (moves (past_of g q es)) < TICK_END

module _ (p : Parts) (q : ℕ) (es : List SplitEntry) (is : IsPartition p q) (play : IsPartPlay p q es) where
  abbrev g : Group
  g = part_group p q

  front : (i : ℕ) → es ≡ take i es ++ drop i es
  front i = sym (take-append-drop i es)

  steps : (i : ℕ) → script (steps_given p.drive) q ≡ steps_of q (take i es) ++ steps_of q (drop i es)
  steps i = sym play.script_is ∙ ap (steps_of q) (front i) ∙ steps-joined q (take i es) (drop i es)

  pub moment : (i : ℕ) → IsMoment g q (take i es)
  unfolding past_of
  moment i = record {
    legal = legal-front g q (take i es) (drop i es) [] (subst (IsLegalFrom g q []) (front i) play.legal);
    few =
        let n = acts-in g q (take i es) [] in
        let most : length (steps_given p.drive) ≤ MOST_STEPS = steps-few p is.valid in
        let all = ap length (steps i) ∙ length-append (steps_of q (take i es)) (steps_of q (drop i es)) in
        let script_few = script-few (steps_given p.drive) q in
        omega (arith, n, most, all, script_few);
    low = clock-low g q (take i es) [] (omega arith)
        (low-front (steps_of q (take i es)) (steps_of q (drop i es))
        (subst AreLow (steps i) (low-script g q (steps_given p.drive) (inside p q is) (steps-of_groups g is.valid))));
  }

  pub next : (i : ℕ) (d : SplitEntry) → i < length es → IsEntryAt g q (past_of g q (take i es)) (get_or es i d)
  unfolding past_of
  next i d low = legal-next g q (take i es) (drop (suc i) es) (get_or es i d) []
      (subst (IsLegalFrom g q []) (front i ∙ ap (λ zs. take i es ++ zs) (drop-cons es i d low)) play.legal)
