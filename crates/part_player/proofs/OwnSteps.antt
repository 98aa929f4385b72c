-- The steps of a processor's script, and the bounds of a past that they make.
use Rattle.std.proofs.Common.{◌≡◌, ℕ, suc, ◌+◌, ◌<◌, ◌≤◌, max, Bool, true, false, List, [], ◌∷◌, ◌++◌, length, refl, sym, ap, ◌∙◌, subst, inl, inr, arith, eqb-true, length-append}
use Rattle.std.specs.List.{All, cons_option}
use Rattle.std.specs.Prelude.{◌==◌, filter, if◌then◌else◌}
use Rattle.std.proofs.lemmas.List.Elements.{All-filter, filter_passes}
use Rattle.std.proofs.lemmas.List.Sums.{AllPass-from_list_all}
use Rattle.rt_base.specs.declared.SemNo.{SemNo}
use Rattle.rt_base.specs.declared.TaskNo.{TaskNo}
use Rattle.rt_base.specs.declared.TheConstants.{MOST_STEPS, TICK_END}
use Rattle.rt_task.specs.declared.Act.{Act}
use Rattle.rt_task.specs.declared.Parts.{Parts}
use Rattle.rt_task.specs.declared.Step.{Step}
use Rattle.rt_rules.specs.Numbers.{has}
use Rattle.rt_model.specs.Group.{Group, group_processors}
use Rattle.rt_model.specs.Past.{entries_in, now}
use Rattle.rt_model.specs.Steps.{IsStepOf}
use Rattle.rt_plays.specs.Drives.{steps_given}
use Rattle.rt_plays.specs.Homes.{IsProcessorOf}
use Rattle.rt_plays.proofs.GroupLimits.{steps-few, steps-of_groups}
use Rattle.split_set.specs.SplitSets.{is_split_act}
use Rattle.split_rules.specs.PartHistories.{after, after_entry, past_from, past_of, step_by, steps_of}
use Rattle.split_rules.specs.PartPast.{PartPast, moves}
use Rattle.split_rules.specs.Partitions.{part_group}
use Rattle.split_rules.specs.declared.SplitAct.{SplitAct}
use Rattle.split_rules.specs.declared.SplitAct.TheVariants as split
use Rattle.split_rules.specs.declared.SplitEntry.{SplitEntry}
use Rattle.split_laws.specs.Parts.{Among}
use Rattle.split_laws.proofs.PostLaws.{among-left}
use Rattle.split_counts.specs.Room.{ComesNext}
use Rattle.part_player.specs.Players.{IsOfSplit, IsPlayed, own_script}
use Rattle.part_player.proofs.OwnParts.{own-inside, split-acts}

pub among-all : {A : Type 0} (P : A → Type 0) (x : A) (xs : List A) → All P xs → Among x xs → P x
among-all P x [] all m = elim m [ ]
among-all P x (y ∷ ys) all (inl e) = subst P (sym e) (all 0 y (omega arith))
among-all P x (y ∷ ys) all (inr m) = among-all P x ys (λ i d low. all (suc i) d (omega arith)) m

pub here : {A : Type 0} (x : A) (xs ys : List A) → Among x (xs ++ x ∷ ys)
here x [] ys = inl refl
here x (y ∷ xs) ys = inr (here x xs ys)

-- ---- the steps of the script are steps of the group, with acts that a split set has

pub record IsOwnStep (g : Group) (q : ℕ) (x : Step) : Type 0 where
  pub cpu : x.cpu.0 ≡ q
  pub step : IsStepOf g x
  pub split : is_split_act x.act ≡ true

module _ (p : Parts) (q : ℕ) (of : IsOfSplit p q) where
  pub own-step : (x : Step) → Among x (own_script p q) → IsOwnStep (part_group p q) q x
  own-step x m =
      let mine : (x.cpu.0 == q) ≡ true = among-all (λ (s : Step). (s.cpu.0 == q) ≡ true) x (own_script p q) (filter_passes (λ (s : Step). s.cpu.0 == q) (steps_given p.drive)) m in
      let steps = among-all (λ (s : Step). IsProcessorOf (part_group p q) s.cpu.0 → IsStepOf (part_group p q) s) x (own_script p q)
      (All-filter (λ (s : Step). s.cpu.0 == q) (λ (s : Step). IsProcessorOf (part_group p q) s.cpu.0 → IsStepOf (part_group p q) s) (steps_given p.drive) (steps-of_groups (part_group p q) of.valid)) m in
      let acts = among-all (λ (s : Step). is_split_act s.act ≡ true) x (own_script p q)
      (All-filter (λ (s : Step). s.cpu.0 == q) (λ (s : Step). is_split_act s.act ≡ true) (steps_given p.drive)
      (AllPass-from_list_all (λ (s : Step). is_split_act s.act) (steps_given p.drive) (split-acts p of.valid of.split))) m in
      record {
        cpu = eqb-true x.cpu.0 q mine;
        step = steps (subst (λ c. has c (group_processors (part_group p q)) ≡ true) (sym (eqb-true x.cpu.0 q mine)) (own-inside p q of));
        split = acts;
      }

  pub next-step : (es : List SplitEntry) (x : Step) → ComesNext (own_script p q) q es x → IsOwnStep (part_group p q) q x
  next-step es x next = own-step x (subst (Among x) (sym next.parts) (here x (steps_of q es) next.rest))

-- ---- what the entries of a history add up to

steps-plain : (q : ℕ) (e : SplitEntry) (es : List SplitEntry) (act : Act) → e.act ≡ split.Plain act
    → steps_of q (e ∷ es) ≡ record { cpu = record { 0 = q }; tick = e.tick; act = act } ∷ steps_of q es
steps-plain q e es act k = ap (λ (x : SplitAct). cons_option (step_by q x e) (steps_of q es)) k

steps-take : (q : ℕ) (e : SplitEntry) (es : List SplitEntry) (r : SemNo) (n : ℕ) (t : TaskNo) → e.act ≡ split.Take r n t → steps_of q (e ∷ es) ≡ steps_of q es
steps-take q e es r n t k = ap (λ (x : SplitAct). cons_option (step_by q x e) (steps_of q es)) k

module _ (g : Group) (q : ℕ) where
  plain-moves : (e : SplitEntry) (past : PartPast) (act : Act) → e.act ≡ split.Plain act
      → (entries_in (moves (after g q e past)) ≡ entries_in (moves past) + 1) × (now (moves (after g q e past)) ≡ max (now (moves past)) e.tick.0)
  unfolding after
  plain-moves e past act k =
      (ap (λ (x : SplitAct). entries_in (moves (after_entry g q x e past))) k, ap (λ (x : SplitAct). now (moves (after_entry g q x e past))) k)

  take-moves : (e : SplitEntry) (past : PartPast) (r : SemNo) (n : ℕ) (t : TaskNo) → e.act ≡ split.Take r n t → moves (after g q e past) ≡ moves past
  unfolding after
  take-moves e past r n t k = ap (λ (x : SplitAct). moves (after_entry g q x e past)) k

  entries-from : (es : List SplitEntry) (past : PartPast) → entries_in (moves (past_from g q past es)) ≡ entries_in (moves past) + length (steps_of q es)
  unfolding past_from
  entries-from [] past = omega arith
  entries-from (e ∷ es) past = by_act e.act refl (entries-from es (after g q e past))
    where
      by_act : (x : SplitAct) → e.act ≡ x
          → entries_in (moves (past_from g q (after g q e past) es)) ≡ entries_in (moves (after g q e past)) + length (steps_of q es)
          → entries_in (moves (past_from g q (after g q e past) es)) ≡ entries_in (moves past) + length (steps_of q (e ∷ es))
      by_act (split.Plain act) k h = let a = (plain-moves e past act k).0 in let b = ap length (steps-plain q e es act k) in omega (arith, h, a, b)
      by_act (split.Take r n t) k h = let a = ap entries_in (take-moves e past r n t k) in let b = ap length (steps-take q e es r n t k) in omega (arith, h, a, b)

  clock-from : (es : List SplitEntry) (past : PartPast) → now (moves past) < TICK_END → ((x : Step) → Among x (steps_of q es) → x.tick.0 < TICK_END)
      → now (moves (past_from g q past es)) < TICK_END
  unfolding past_from
  clock-from [] past low all = low
  clock-from (e ∷ es) past low all = by_act e.act refl (clock-from es (after g q e past))
    where
      by_act : (x : SplitAct) → e.act ≡ x
          → (now (moves (after g q e past)) < TICK_END → ((x : Step) → Among x (steps_of q es) → x.tick.0 < TICK_END) → now (moves (past_from g q (after g q e past) es)) < TICK_END)
          → now (moves (past_from g q (after g q e past) es)) < TICK_END
      by_act (split.Plain act) k h =
          let step : Step = record { cpu = record { 0 = q }; tick = e.tick; act = act } in
          let first : e.tick.0 < TICK_END = all step (subst (Among step) (sym (steps-plain q e es act k)) (inl refl)) in
          let a = (plain-moves e past act k).1 in
          h (omega (arith, a, first, low)) (λ x m. all x (subst (Among x) (sym (steps-plain q e es act k)) (inr m)))
      by_act (split.Take r n t) k h =
          h (subst (λ ms. now ms < TICK_END) (sym (take-moves e past r n t k)) low) (λ x m. all x (subst (Among x) (sym (steps-take q e es r n t k)) m))

  pub steps-pushed : (es : List SplitEntry) (e : SplitEntry) → steps_of q (es ++ e ∷ []) ≡ steps_of q es ++ steps_of q (e ∷ [])
  steps-pushed [] e = refl
  steps-pushed (x ∷ es) e = by_act x.act refl (steps-pushed es e)
    where
      by_act : (y : SplitAct) → x.act ≡ y → steps_of q (es ++ e ∷ []) ≡ steps_of q es ++ steps_of q (e ∷ []) → steps_of q (x ∷ es ++ e ∷ []) ≡ steps_of q (x ∷ es) ++ steps_of q (e ∷ [])
      by_act (split.Plain act) k h = steps-plain q x (es ++ e ∷ []) act k ∙ ap (λ (ys : List Step). record { cpu = record { 0 = q }; tick = x.tick; act = act } ∷ ys) h ∙ ap (λ (ys : List Step). ys ++ steps_of q (e ∷ [])) (sym (steps-plain q x es act k))
      by_act (split.Take r n t) k h = steps-take q x (es ++ e ∷ []) r n t k ∙ h ∙ ap (λ (ys : List Step). ys ++ steps_of q (e ∷ [])) (sym (steps-take q x es r n t k))

kept-within : (test : Step → Bool) (xs : List Step) → length (filter test xs) ≤ length xs
kept-within test [] = omega arith
kept-within test (x ∷ xs) = by_test (test x) (kept-within test xs)
  where
    by_test : (b : Bool) → length (filter test xs) ≤ length xs → length (if b then x ∷ filter test xs else filter test xs) ≤ suc (length xs)
    by_test true h = omega (arith, h)
    by_test false h = omega (arith, h)

-- the past of a partition's history is within the limits
pub record IsWithin (past : PartPast) : Type 0 where
  pub few : entries_in (moves past) ≤ MOST_STEPS
  pub clock : now (moves past) < TICK_END

pub played-within : (p : Parts) (q : ℕ) (es : List SplitEntry) → IsPlayed p q es → IsWithin (past_of (part_group p q) q es)
unfolding past_of
played-within p q es played =
    let g : Group = part_group p q in
    let of : IsOfSplit p q = played.of_split in
    let parts = played.begins.1 in
    let count = entries-from g q es [] in
    let long = ap length parts ∙ length-append (steps_of q es) played.begins.0 in
    let kept = kept-within (λ (s : Step). s.cpu.0 == q) (steps_given p.drive) in
    let all = steps-few p of.valid in
    record {
      few = omega (arith, count, long, kept, all);
      clock = clock-from g q es [] (omega arith) (λ x m. (own-step p q of x (subst (Among x) (sym parts) (among-left x (steps_of q es) played.begins.0 m))).step.tick);
    }
