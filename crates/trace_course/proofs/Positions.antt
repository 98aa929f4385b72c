-- How far the scripts of a group's processors were followed, and the next step of each.
use Rattle.std.proofs.Common.{◌≡◌, ◌≢◌, ℕ, ◌+◌, ◌<◌, ◌≤◌, ◌==◌, Bool, true, false, ◌||◌, List, [], ◌∷◌, ◌++◌, length, take, drop, get_or, set, refl, sym, ap, ◌∙◌, subst, arith, append_assoc, eqb-true, length-append, get_or-set_same, get_or-set_other, inl, inr}
use Rattle.std.specs.Prelude.{Option, None, Some, filter, count_by, replicate, if◌then◌else◌}
use Rattle.std.specs.Option.{MatchOption, is_some}
use Rattle.std.proofs.lemmas.Bool.{cases_lt}
use Rattle.std.proofs.lemmas.List.{get_or-replicate, get_or_default, get_or_past, length-replicate, map-append, take_more}
use Rattle.std.proofs.lemmas.List.Sums.{length-filter}
use Rattle.rt_base.specs.declared.CpuNo.{CpuNo}
use Rattle.rt_task.specs.declared.Act.TheVariants as acts
use Rattle.rt_task.specs.declared.Step.{Step}
use Rattle.rt_rules.specs.declared.history.Entry.{Entry}
use Rattle.rt_rules.specs.Numbers.{has}
use Rattle.rt_rules.proofs.BoolLaws.{or_true}
use Rattle.rt_rules.proofs.MemberLaws.{equal_self, has-append}
use Rattle.rt_model.specs.Group.{Group, group_processors}
use Rattle.rt_plays.proofs.ScriptParts.{script-take-drop, script-take-next, script-steps_of-next, script-steps_of-skip}
use Rattle.rt_plays.specs.Drives.{steps_given}
use Rattle.rt_plays.specs.Homes.{IsProcessorOf}
use Rattle.rt_plays.specs.Order.{steps_in_group}
use Rattle.rt_plays.specs.Scripts.{script, steps_of}
use Rattle.body_play.specs.Turns.{numbers_of}
use Rattle.trace_course.specs.declared.scripts.Scripts.{Scripts}
use Rattle.trace_course.specs.Next.{IsFollowing, IsNextAt}
use Rattle.trace_course.specs.Followed.{ArePassed, ArePositions, IsNextOfScript, IsNextPosition, IsPassed, IsPositionOf, GroupEntries, has_position, position_in}

longer : {A : Type 0} (xs ys : List A) (y : A) → xs ≡ xs ++ y ∷ ys → ⊥
longer xs ys y e = omega (arith, ap length e, length-append xs (y ∷ ys))

-- two lists that begin alike go on alike
first-same : {A : Type 0} (xs ys zs : List A) (y z : A) → xs ++ y ∷ ys ≡ xs ++ z ∷ zs → y ≡ z
first-same [] ys zs y z e = cc
first-same {A = A} (x ∷ xs) ys zs y z e = first-same xs ys zs y z (tail (xs ++ y ∷ ys) (xs ++ z ∷ zs) e)
  where
    tail : (us vs : List A) → x ∷ us ≡ x ∷ vs → us ≡ vs
    tail us vs k = cc

-- a step that was found
pub some-next : (steps : List Step) (from q : ℕ) (o : Option ℕ) → MatchOption o (script steps q ≡ script (take from steps) q) (λ j. IsNextAt steps from q j) → is_some o ≡ true → (j : ℕ) × IsNextAt steps from q j
some-next steps from q None m t = cc
some-next steps from q (Some j) m t = (j, m)

module _ (at : GroupEntries) (steps : List Step) (s : Scripts) (ps : ArePassed at steps s) where
  abbrev g : Group
  g = at.group

  abbrev es : List Entry
  es = at.entries

  abbrev positions : List (Option ℕ)
  positions = s.positions.items

  pub at_position : (q from : ℕ) → position_in positions q ≡ Some from → IsProcessorOf g q × IsPassed (steps_given g.setup.drive) es q from
  at_position q from is = subst (IsPositionOf g es q) is (ps.positions_are q)

  pub no_position : (q : ℕ) → position_in positions q ≡ None → IsProcessorOf g q → ⊥
  no_position q is = subst (IsPositionOf g es q) is (ps.positions_are q)

  pub position-within : (q from : ℕ) → position_in positions q ≡ Some from → from ≤ length steps
  position-within q from is = let w = (at_position q from is).1.within in omega (arith, w, ap length ps.steps_are)

  taken : (q from : ℕ) → position_in positions q ≡ Some from → script (take from steps) q ≡ script (steps_of es) q
  taken q from is = ap (λ (ss : List Step). script (take from ss) q) ps.steps_are ∙ (at_position q from is).1.taken

  -- a processor with no step left
  pub none-left : (q from : ℕ) → position_in positions q ≡ Some from → script steps q ≡ script (take from steps) q → script (steps_given g.setup.drive) q ≡ script (steps_of es) q
  none-left q from is same = ap (λ (ss : List Step). script ss q) (sym ps.steps_are) ∙ same ∙ taken q from is

  -- where no step was found, none is next
  pub none-found : (step : Step) (from : ℕ) → position_in positions step.cpu.0 ≡ Some from → script steps step.cpu.0 ≡ script (take from steps) step.cpu.0 → IsNextOfScript g es step → ⊥
  none-found step from is same n = longer (script (steps_of es) step.cpu.0) n.more step (sym (none-left step.cpu.0 from is same) ∙ n.next)

  -- the script, from the next step on
  goes-on : (q from j : ℕ) (x : Step) → position_in positions q ≡ Some from → IsNextAt steps from q j → x ≡ get_or steps j x → script (take (j + 1) steps) q ≡ script (steps_of es) q ++ x ∷ []
  goes-on q from j x at_it n is =
      script-take-next steps q j x n.there (n.of_cpu x)
      ∙ ap (λ (ss : List Step). ss ++ get_or steps j x ∷ []) (n.none_before ∙ taken q from at_it)
      ∙ ap (λ (y : Step). script (steps_of es) q ++ y ∷ []) (sym is)

  whole : (q from j : ℕ) (x : Step) → position_in positions q ≡ Some from → IsNextAt steps from q j → x ≡ get_or steps j x
      → script (steps_given g.setup.drive) q ≡ script (steps_of es) q ++ x ∷ script (drop (j + 1) steps) q
  whole q from j x at_it n is =
      ap (λ (ss : List Step). script ss q) (sym ps.steps_are) ∙ script-take-drop steps q (j + 1) ∙ ap (λ (ss : List Step). ss ++ script (drop (j + 1) steps) q) (goes-on q from j x at_it n is)
      ∙ append_assoc (script (steps_of es) q) (x ∷ []) (script (drop (j + 1) steps) q)

  -- the step that was found is the next one
  pub found : (step : Step) (from j : ℕ) → position_in positions step.cpu.0 ≡ Some from → IsNextAt steps from step.cpu.0 j → get_or steps j step ≡ step → IsNextPosition g es step j
  found step from j at_it n same = record {
    next = record { home = (at_position step.cpu.0 from at_it).0; more = script (drop (j + 1) steps) step.cpu.0; next = whole step.cpu.0 from j step at_it n (sym same) };
    there = subst (λ (ss : List Step). j < length ss) ps.steps_are n.there;
    step_is = λ d. ap (λ (ss : List Step). get_or ss j d) (sym ps.steps_are) ∙ get_or_default steps j d step n.there ∙ same;
    taken = ap (λ (ss : List Step). script (take (j + 1) ss) step.cpu.0) (sym ps.steps_are) ∙ goes-on step.cpu.0 from j step at_it n (sym same);
  }

  -- and the next one is that
  pub found-is : (step : Step) (from j : ℕ) → position_in positions step.cpu.0 ≡ Some from → IsNextAt steps from step.cpu.0 j → IsNextOfScript g es step → get_or steps j step ≡ step
  found-is step from j at_it n k =
      let x : Step = get_or steps j step in
      let is : x ≡ get_or steps j x = get_or_default steps j step x n.there in
      first-same (script (steps_of es) step.cpu.0) (script (drop (j + 1) steps) step.cpu.0) k.more x step (sym (whole step.cpu.0 from j x at_it n is) ∙ k.next)

  -- a step is left where one is found
  pub some-left : (q from j : ℕ) → position_in positions q ≡ Some from → IsNextAt steps from q j → script (steps_given g.setup.drive) q ≡ script (steps_of es) q → ⊥
  some-left q from j at_it n none =
      let d : Step = record { cpu = record { 0 = 0 }; tick = record { 0 = 0 }; act = acts.Tick } in
      let x : Step = get_or steps j d in
      let is : x ≡ get_or steps j x = get_or_default steps j d x n.there in
      longer (script (steps_of es) q) (script (drop (j + 1) steps) q) x (sym none ∙ whole q from j x at_it n is)

-- ---- the positions of a group

-- a processor of the group has a position
pub position-inside : (g : Group) (es : List Entry) (positions : List (Option ℕ)) (q : ℕ) → ArePositions g es positions → IsProcessorOf g q → q < length positions
position-inside g es positions q are there =
    elim (cases_lt q (length positions)) [
      | inl low ↦ low
      | inr high ↦ (let none : position_in positions q ≡ None = get_or_past positions q None high in absurd (subst (IsPositionOf g es q) none (are q) there))
    ]

-- a processor has a position where it was given one
abbrev pub given : ℕ → Bool → Option ℕ
given position b = if b then Some position else None

-- before the first entry
pub positions-first : (g : Group) (qs : List ℕ) (positions : List (Option ℕ)) → qs ≡ group_processors g → ((q : ℕ) → position_in positions q ≡ (if has q qs then Some 0 else None)) → ArePositions g [] positions
positions-first g qs positions same opened q = subst (IsPositionOf g [] q) (sym (opened q)) (by_case (has q qs) refl)
  where
    by_case : (b : Bool) → has q qs ≡ b → IsPositionOf g [] q (if b then Some 0 else None)
    by_case true e = (subst (λ (ns : List ℕ). has q ns ≡ true) same e, record { within = omega arith; taken = refl })
    by_case false e = (λ there. let yes : has q qs ≡ true = subst (λ (ns : List ℕ). has q ns ≡ true) (sym same) there in cc)

-- the steps of processors with a position are those of the group
pub positions-counted : (g : Group) (qs : List ℕ) (positions : List (Option ℕ)) (steps : List Step) → qs ≡ group_processors g → ((q : ℕ) → position_in positions q ≡ (if has q qs then Some 0 else None))
    → count_by (λ (s : Step). has_position positions s.cpu.0) steps ≡ length (steps_in_group g steps)
positions-counted g qs positions steps same opened =
    sym (length-filter (λ (s : Step). has_position positions s.cpu.0) steps) ∙ ap length (alike steps)
  where
    test : (q : ℕ) → has_position positions q ≡ has q (group_processors g)
    test q = ap (is_some {T = ℕ}) (opened q) ∙ by_case (has q qs) ∙ ap (has q) same
      where
        by_case : (b : Bool) → is_some (given 0 b) ≡ b
        by_case true = refl
        by_case false = refl

    alike : (ss : List Step) → filter (λ (s : Step). has_position positions s.cpu.0) ss ≡ steps_in_group g ss
    alike [] = refl
    alike (s ∷ ss) = rw (test s.cpu.0, alike ss) refl

-- one step more of a processor is behind it, which passes as far on as no other one of it stands
pub positions-next : (g : Group) (es : List Entry) (e : Entry) (j distance : ℕ) (positions : List (Option ℕ)) → ArePositions g es positions → IsNextPosition g es e.step j
    → IsFollowing (steps_given g.setup.drive) j distance → ArePositions g (es ++ e ∷ []) (set positions e.step.cpu.0 (Some (j + distance)))
positions-next g es e j distance positions are np far q = by_case (e.step.cpu.0 == q) refl
  where
    passed : script (take (j + distance) (steps_given g.setup.drive)) e.step.cpu.0 ≡ script (take (j + 1) (steps_given g.setup.drive)) e.step.cpu.0
    passed =
        subst (λ (s : Step). script (take (j + distance) (steps_given g.setup.drive)) s.cpu.0 ≡ script (take (j + 1) (steps_given g.setup.drive)) s.cpu.0)
        (np.step_is e.step) (far.none_between e.step)

    inside : e.step.cpu.0 < length positions
    inside = position-inside g es positions e.step.cpu.0 are np.next.home

    kept : (o : Option ℕ) → e.step.cpu.0 == q ≡ false → IsPositionOf g es q o → IsPositionOf g (es ++ e ∷ []) q o
    kept None other h = h
    kept (Some n) other h = (h.0, record { within = h.1.within; taken = h.1.taken ∙ sym (script-steps_of-skip es e q other) })

    by_case : (b : Bool) → e.step.cpu.0 == q ≡ b → IsPositionOf g (es ++ e ∷ []) q (position_in (set positions e.step.cpu.0 (Some (j + distance))) q)
    by_case true own =
        let same : e.step.cpu.0 ≡ q = eqb-true e.step.cpu.0 q own in
        let now : position_in (set positions e.step.cpu.0 (Some (j + distance))) e.step.cpu.0 ≡ Some (j + distance) = get_or-set_same positions e.step.cpu.0 (Some (j + distance)) None inside in
        let here : IsPositionOf g (es ++ e ∷ []) e.step.cpu.0 (Some (j + distance)) = (
          np.next.home,
          record {
            within = far.within;
            taken = passed ∙ np.taken ∙ sym (script-steps_of-next es e e.step.cpu.0 (equal_self e.step.cpu.0));
          },
        ) in
        subst (λ (r : ℕ). IsPositionOf g (es ++ e ∷ []) r (position_in (set positions e.step.cpu.0 (Some (j + distance))) r)) same (subst (IsPositionOf g (es ++ e ∷ []) e.step.cpu.0) (sym now) here)
    by_case false other =
        let apart : q ≢ e.step.cpu.0 = (λ k. let n : e.step.cpu.0 == q ≡ true = rw k (equal_self e.step.cpu.0) in cc) in
        let now : position_in (set positions e.step.cpu.0 (Some (j + distance))) q ≡ position_in positions q = get_or-set_other positions e.step.cpu.0 q (Some (j + distance)) None apart in
        subst (IsPositionOf g (es ++ e ∷ []) q) (sym now) (kept (position_in positions q) other (are q))

or_none : (a : Bool) → a || false ≡ a
or_none true = refl
or_none false = refl

-- none has one at first
pub opened-none : (n q : ℕ) → position_in (replicate n None) q ≡ None
opened-none n q =
    elim (cases_lt q n) [
      | inl low ↦ get_or-replicate n q None None low
      | inr high ↦ get_or_past (replicate n None) q None (omega (arith, high, length-replicate {A = Option ℕ} n None))
    ]

-- one processor more has this position
pub opened-more : (cpus : List CpuNo) (i : ℕ) (cpu d : CpuNo) (position : ℕ) (positions : List (Option ℕ)) → i < length cpus → cpu ≡ get_or cpus i d → cpu.0 < length positions
    → ((q : ℕ) → position_in positions q ≡ (if has q (numbers_of (take i cpus)) then Some position else None))
    → (q : ℕ) → position_in (set positions cpu.0 (Some position)) q ≡ (if has q (numbers_of (take (i + 1) cpus)) then Some position else None)
opened-more cpus i cpu d position positions low is inside opened q =
    by_case (q == cpu.0) refl ∙ ap (given position) (sym more)
  where
    more : has q (numbers_of (take (i + 1) cpus)) ≡ has q (numbers_of (take i cpus)) || (q == cpu.0 || false)
    more =
        ap (λ (qs : List CpuNo). has q (numbers_of qs)) (take_more cpus i d low ∙ ap (λ (x : CpuNo). take i cpus ++ x ∷ []) (sym is))
        ∙ ap (has q) (map-append (λ (x : CpuNo). x.0) (take i cpus) (cpu ∷ [])) ∙ has-append q (numbers_of (take i cpus)) (cpu.0 ∷ [])

    by_case : (b : Bool) → q == cpu.0 ≡ b → position_in (set positions cpu.0 (Some position)) q ≡ (if has q (numbers_of (take i cpus)) || (b || false) then Some position else None)
    by_case true e =
        ap (position_in (set positions cpu.0 (Some position))) (eqb-true q cpu.0 e) ∙ get_or-set_same positions cpu.0 (Some position) None inside
        ∙ ap (given position) (sym (or_true (has q (numbers_of (take i cpus)))))
    by_case false e =
        let apart : q ≢ cpu.0 = (λ k. let n : q == cpu.0 ≡ true = rw k (equal_self cpu.0) in cc) in
        get_or-set_other positions cpu.0 q (Some position) None apart ∙ opened q ∙ ap (given position) (sym (or_none (has q (numbers_of (take i cpus)))))
