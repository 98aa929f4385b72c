-- A processor in its turns: the act that it comes to is the one that may come next, and where there is none its turn is over.
use Rattle.std.proofs.Common.{◌≡◌, ◌≢◌, ◌⊎◌, ℕ, ◌+◌, ◌-◌, ◌<◌, ◌≤◌, Bool, true, false, inl, inr, List, [], ◌∷◌, refl, sym, ap, ◌∙◌, subst, arith}
use Rattle.std.specs.Prelude.{◌==◌, nat_le, nat_lt, Option, None, Some, if◌then◌else◌}
use Rattle.std.proofs.lemmas.Bool.Decides.{nat_tests}
use Rattle.rt_rules.proofs.MemberLaws.{equal_self}
use Rattle.rt_task.specs.declared.Act.{Act}
use Rattle.rt_task.specs.declared.Act.TheVariants as acts
use Rattle.rt_task.specs.declared.Step.{Step}
use Rattle.rt_rules.specs.declared.history.Entry.{Entry}
use Rattle.rt_model.specs.Group.{Group}
use Rattle.rt_model.specs.Histories.{after, past_from, past_of}
use Rattle.rt_model.specs.Past.{Past}
use Rattle.rt_model.specs.Situations.{next_act, situation}
use Rattle.rt_plays.specs.BodyPlays.{has_ended}
use Rattle.rt_plays.specs.Drives.{horizon}
use Rattle.rt_plays.specs.NextSteps.{step_at, going_on, MayComeNext}
use Rattle.rt_plays.specs.Turns.{is_tick, turns_begun, steps_since, has_none, had_none, has_left, is_between}
use Rattle.rt_plays.proofs.Sentence.{opening-past}
use Rattle.rt_plays.proofs.StepLaws.{act-next, irq-next, tick-next}
use Rattle.rt_plays.proofs.TurnLaws.{begun-act, begun-other, begun-tick, between-other, had-now, next_act-act, since-act, since-other, since-tick}
use Rattle.rt_plays.proofs.TurnPlayed.{over-full, over-none}
use Rattle.rt_plays.proofs.TurnsLeft.{ended-other}
use Rattle.turn_cell.specs.Words.{entries_of}
use Rattle.cpu_site.specs.declared.progress.Progress.{Progress}
use Rattle.cpu_site.specs.Seats.{cpu_of}
use Rattle.cpu_site.specs.Turning.{act_after, IsAtTurn, IsBetween, IsTurnDone, IsUnderWay}
use Rattle.cpu_site.proofs.Words.{none-of}

-- ---- the act that comes

module _ (g : Group) (q : ℕ) (past : Past) (at : Progress) (is : IsAtTurn g q past at) (left : at.turns < horizon g.setup.drive) where
  abbrev pub step_of : Act → Step
  step_of act = step_at q at.turns act

  -- it may come next, and one step more was taken then
  pub record Comes (act : Act) : Type 0 where
    pub next : MayComeNext g past (step_of act)
    pub far : IsAtTurn g q (after g (step_of act) past) (record { turns = at.turns; steps = at.steps + 1 })

  own : (act : Act) → (step_of act).cpu.0 == q ≡ true
  own act = equal_self q

  tick-comes : at.steps ≡ 0 → IsBetween g q at.turns past → Comes acts.Tick
  tick-comes none between = record {
    next = inr (tick-next g q past between.between (rw between.begun left) ∙ ap (λ (t : ℕ). let o : Option Step = Some (step_at q t acts.Tick) in o) between.begun);
    far = record {
      few = is.few;
      position = inr (record {
        left = left;
        begun = begun-tick g (step_of acts.Tick) past q (own acts.Tick) refl ∙ ap (λ (n : ℕ). n + 1) between.begun;
        steps_are = let s = since-tick g (step_of acts.Tick) past q (own acts.Tick) refl in omega (arith, s, none);
        few = omega (arith, none);
      });
    };
  }

  act-comes : (act : Act) → IsUnderWay g q at.turns at.steps past → at.steps < 18 → is_tick act ≡ false → going_on g q past ≡ Some (step_at q (turns_begun q past - 1) act) → Comes act
  act-comes act way low no_tick going =
      let number : turns_begun q past - 1 ≡ at.turns = (let b = way.begun in omega (arith, b)) in
      record {
        next = inl (going ∙ ap (λ (t : ℕ). let o : Option Step = Some (step_at q t act) in o) number);
        far = record {
          few = is.few;
          position = inr (record {
            left = left;
            begun = begun-act g (step_of act) past q no_tick ∙ way.begun;
            steps_are = let s = since-act g (step_of act) past q (own act) no_tick in let w = way.steps_are in omega (arith, s, w);
            few = omega (arith, low);
          });
        };
      }

  way-comes : (act : Act) → IsUnderWay g q at.turns at.steps past → (first second late : Bool) → at.steps == 0 ≡ first → at.steps == 1 ≡ second → nat_le 18 at.steps ≡ late
      → (if first then Some acts.Tick else (if second then Some acts.Irq else (if late then None else next_act g (situation g q past)))) ≡ Some act → Comes act
  way-comes act way true second late e f l h = absurd (let w = way.steps_are in let n : at.steps ≡ 0 = grind (arith, nat_tests, e) in omega (arith, w, n))
  way-comes act way false true late e f l h =
      let one : at.steps ≡ 1 = grind (arith, nat_tests, f) in
      let w = way.steps_are in
      let b = way.begun in
      let same : acts.Irq ≡ act = cc in
      subst Comes same (act-comes acts.Irq way (omega (arith, one)) refl (irq-next g q past (omega (arith, b)) (omega (arith, w, one))))
  way-comes act way false false true e f l h = cc
  way-comes act way false false false e f l h =
      let some : at.steps ≢ 0 = grind (arith, nat_tests, e) in
      let more : at.steps ≢ 1 = grind (arith, nat_tests, f) in
      let low : at.steps < 18 = grind (arith, nat_tests, l) in
      let w = way.steps_are in
      let b = way.begun in
      act-comes act way low (next_act-act g (situation g q past) act h) (act-next g q past act (omega (arith, b)) (omega (arith, w, some, more)) (omega (arith, w, low)) h)

  pub comes : (act : Act) → act_after g q at.steps past ≡ Some act → Comes act
  comes act h = by_position is.position
    where
      by_position : ((at.steps ≡ 0) × IsBetween g q at.turns past) ⊎ IsUnderWay g q at.turns at.steps past → Comes act
      by_position (inl (none, between)) =
          let first : at.steps == 0 ≡ true = grind (arith, nat_tests, none) in
          let there : Some acts.Tick ≡ Some act = rw first at h in
          let same : acts.Tick ≡ act = cc in
          subst Comes same (tick-comes none between)
      by_position (inr way) = way-comes act way (at.steps == 0) (at.steps == 1) (nat_le 18 at.steps) refl refl refl h

  -- ---- the end of a turn

  way-done : IsUnderWay g q at.turns at.steps past → (first second late : Bool) → at.steps == 0 ≡ first → at.steps == 1 ≡ second → nat_le 18 at.steps ≡ late
      → (if first then Some acts.Tick else (if second then Some acts.Irq else (if late then None else next_act g (situation g q past)))) ≡ None → IsTurnDone g q at.turns past
  unfolding has_none
  way-done way true second late e f l h = cc
  way-done way false true late e f l h = cc
  way-done way false false true e f l h =
      let high : 18 ≤ at.steps = grind (arith, nat_tests, l) in
      let w = way.steps_are in
      let few = way.few in
      record { left = left; begun = way.begun; irq = omega (arith, w, high); done = inl (omega (arith, w, high, few)) }
  way-done way false false false e f l h =
      let some : at.steps ≢ 0 = grind (arith, nat_tests, e) in
      let more : at.steps ≢ 1 = grind (arith, nat_tests, f) in
      let w = way.steps_are in
      record { left = left; begun = way.begun; irq = omega (arith, w, some, more); done = inr (rw h refl) }

  pub turn-done : act_after g q at.steps past ≡ None → IsTurnDone g q at.turns past
  turn-done h = by_position is.position
    where
      by_position : ((at.steps ≡ 0) × IsBetween g q at.turns past) ⊎ IsUnderWay g q at.turns at.steps past → IsTurnDone g q at.turns past
      by_position (inl (none, between)) =
          let first : at.steps == 0 ≡ true = grind (arith, nat_tests, none) in
          let there : Some acts.Tick ≡ None = rw first at h in
          cc
      by_position (inr way) = way-done way (at.steps == 0) (at.steps == 1) (nat_le 18 at.steps) refl refl refl h

-- where the next act is none after an entry, it was none since the processor's last step
abbrev pub IsNoneNow : Group → ℕ → Past → Type 0
IsNoneNow g q past = 1 ≤ steps_since q past → has_none g q past ≡ true → had_none g q past ≡ true

none-from : (g : Group) (q : ℕ) (past : Past) (es : List Entry) → IsNoneNow g q past → IsNoneNow g q (past_from g past es)
unfolding past_from
none-from g q past [] now = now
none-from g q past (e ∷ es) now = none-from g q (after g e.step past) es (λ some none. had-now g e.step past q none)

none-now : (g : Group) (q : ℕ) (es : List Entry) → IsNoneNow g q (past_of g es)
unfolding past_of steps_since
none-now g q es = none-from g q [] es (λ some none. absurd (omega (arith, some)))

-- a turn that is over is given as over: none is under way then
pub turn-given : (g : Group) (q t : ℕ) (es : List Entry) → IsTurnDone g q t (past_of g es) → IsAtTurn g q (past_of g es) (record { turns = t + 1; steps = 0 })
turn-given g q t es done = record {
  few = let l = done.left in omega (arith, l);
  position = inl (refl, record { begun = done.begun; between = by_cause done.done });
}
  where
    by_cause : (steps_since q (past_of g es) ≡ 17) ⊎ (has_none g q (past_of g es) ≡ true) → is_between g q (past_of g es) ≡ true
    by_cause (inl full) = over-full g q (past_of g es) (omega (arith, full))
    by_cause (inr none) = over-none g q (past_of g es) done.irq (none-now g q es done.irq none)

-- ---- no step is left

pub turns-ended : (g : Group) (q : ℕ) (past : Past) (at : Progress) → IsAtTurn g q past at → horizon g.setup.drive ≤ at.turns → (has_ended g q past ≡ true) × (at.turns ≡ horizon g.setup.drive)
unfolding has_ended has_left
turns-ended g q past at is high = (by_position is.position, let f = is.few in omega (arith, f, high))
  where
    by_position : ((at.steps ≡ 0) × IsBetween g q at.turns past) ⊎ IsUnderWay g q at.turns at.steps past → has_ended g q past ≡ true
    by_position (inl (none, between)) =
        let b = between.begun in
        let last : nat_lt (turns_begun q past) (horizon g.setup.drive) ≡ false = grind (arith, nat_tests, b, high) in
        rw (between.between, last) refl
    by_position (inr way) = absurd (let l = way.left in omega (arith, l, high))

between-first : (g : Group) (q : ℕ) → IsBetween g q 0 []
unfolding turns_begun is_between
between-first g q = record { begun = refl; between = refl }

-- before the first entry
pub at-first : (g : Group) (q : ℕ) → IsAtTurn g q (past_of g []) (record { turns = 0; steps = 0 })
at-first g q = subst (λ (past : Past). IsAtTurn g q past (record { turns = 0; steps = 0 })) (sym (opening-past g)) (record {
  few = omega arith;
  position = inl (refl, between-first g q);
})

-- ---- entries of other processors

module _ (g : Group) (q : ℕ) where
  at-other : (s : Step) (past : Past) (at : Progress) → s.cpu.0 == q ≡ false → IsAtTurn g q past at → IsAtTurn g q (after g s past) at
  at-other s past at other is = record { few = is.few; position = by_position is.position }
    where
      by_position : ((at.steps ≡ 0) × IsBetween g q at.turns past) ⊎ IsUnderWay g q at.turns at.steps past → ((at.steps ≡ 0) × IsBetween g q at.turns (after g s past)) ⊎ IsUnderWay g q at.turns at.steps (after g s past)
      by_position (inl (none, between)) = inl (none, record { begun = begun-other g s past q other ∙ between.begun; between = between-other g s past q other between.between })
      by_position (inr way) = inr (record {
        left = way.left;
        begun = begun-other g s past q other ∙ way.begun;
        steps_are = way.steps_are ∙ ap (λ (n : ℕ). n + 1) (sym (since-other g s past q other));
        few = way.few;
      })

  other-cpu : (e : Entry) → cpu_of e ≢ q → e.step.cpu.0 == q ≡ false
  other-cpu e other = grind (arith, nat_tests, other)

  pub at-others : (bs : List Entry) (past : Past) (at : Progress) → entries_of cpu_of q bs ≡ [] → IsAtTurn g q past at → IsAtTurn g q (past_from g past bs) at
  unfolding past_from
  at-others [] past at none is = is
  at-others (b ∷ bs) past at none is = let parts = none-of q b bs none in at-others bs (after g b.step past) at parts.1 (at-other b.step past at (other-cpu b parts.0) is)

  pub ended-others : (bs : List Entry) (past : Past) → entries_of cpu_of q bs ≡ [] → has_ended g q past ≡ true → has_ended g q (past_from g past bs) ≡ true
  unfolding past_from
  ended-others [] past none is = is
  ended-others (b ∷ bs) past none is = let parts = none-of q b bs none in ended-others bs (after g b.step past) parts.1 (ended-other g b.step past q (other-cpu b parts.0) is)
