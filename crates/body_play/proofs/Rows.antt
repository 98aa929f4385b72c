-- The turns of all processors: at the opening, after a step, and as they are looked at.
use Rattle.std.proofs.Common.{◌≡◌, ◌≢◌, ◌⊎◌, ℕ, ◌+◌, ◌<◌, Bool, true, false, not, ◌&&◌, ◌||◌, inl, inr, List, [], ◌∷◌, ◌++◌, length, take, get_or, set, refl, sym, ap, ◌∙◌, subst, arith, eqb-true, get_or-set_same, get_or-set_other}
use Rattle.std.specs.Prelude.{◌==◌, Option, None, Some, replicate, if◌then◌else◌}
use Rattle.std.specs.Option.{is_some}
use Rattle.std.proofs.lemmas.Bool.{cases_lt}
use Rattle.std.proofs.lemmas.List.{get_or-replicate, get_or_past, length-replicate, map-append, take_more}
use Rattle.rt_base.specs.declared.CpuNo.{CpuNo}
use Rattle.rt_task.specs.declared.Act.{Act}
use Rattle.rt_task.specs.declared.Step.{Step}
use Rattle.rt_rules.specs.Numbers.{has}
use Rattle.rt_rules.proofs.BoolLaws.{or_true}
use Rattle.rt_rules.proofs.MemberLaws.{equal_self, has-append}
use Rattle.rt_model.specs.Group.{Group, group_processors}
use Rattle.rt_model.specs.Histories.{after}
use Rattle.rt_model.specs.Past.{Past}
use Rattle.rt_model.specs.Situations.{situation, next_act}
use Rattle.rt_plays.specs.BodyPlays as plays
use Rattle.rt_plays.specs.Drives as drives
use Rattle.rt_plays.specs.Homes.{IsProcessorOf}
use Rattle.rt_plays.specs.NextSteps.{MayComeNext}
use Rattle.rt_plays.specs.Turns.{turns_begun, steps_since, has_none, had_none, is_tick}
use Rattle.rt_plays.proofs.TurnLaws.{begun-act, begun-other, begun-tick, had-after, since-act, since-other, since-tick}
use Rattle.body_play.specs.declared.turn.Turn.{Turn}
use Rattle.body_play.specs.Turn.{Begins, GoesOn, IsTaken, awaits_look, counts_none, seen, stepped}
use Rattle.body_play.specs.Turns.{AreAt, AreLooked, HasTaken, IsRowOf, IsTurnAfter, IsTurnAt, Turns, numbers_of, row_ended, row_of, row_seen}
use Rattle.body_play.proofs.TurnLaws.{comes-next, ended-is, next-comes, no-tick}

-- ---- rows

-- a row that is there is inside
pub row-inside : (rows : List (Option Turn)) (q : ℕ) (t : Turn) → row_of rows q ≡ Some t → q < length rows
row-inside rows q t is =
    elim (cases_lt q (length rows)) [
      | inl low ↦ low
      | inr high ↦ (let none : row_of rows q ≡ None = get_or_past rows q None high in cc)
    ]

pub row-has : (g : Group) (past : Past) (v : Turns) (q : ℕ) → AreAt g past v → (o : Option Turn) → row_of v.rows q ≡ o → (is_some o ≡ true → IsProcessorOf g q) × (IsProcessorOf g q → is_some o ≡ true)
row-has g past v q at None is = (λ yes. cc, λ there. absurd (subst (IsRowOf g q (IsTurnAt g past q)) is (at.rows_are q) there))
row-has g past v q at (Some t) is = (λ yes. (subst (IsRowOf g q (IsTurnAt g past q)) is (at.rows_are q)).0, λ there. refl)

-- one row is put, and the others stay
put-rows : (g : Group) (rows : List (Option Turn)) (p : ℕ) (o : Option Turn) (P P' : ℕ → Turn → Type 0) → p < length rows
    → ((q : ℕ) → IsRowOf g q (P q) (row_of rows q)) → IsRowOf g p (P' p) o → ((q : ℕ) (t : Turn) → p == q ≡ false → P q t → P' q t)
    → (q : ℕ) → IsRowOf g q (P' q) (row_of (set rows p o) q)
put-rows g rows p o P P' inside are here others q = by_case (p == q) refl
  where
    kept : (r : Option Turn) → p == q ≡ false → IsRowOf g q (P q) r → IsRowOf g q (P' q) r
    kept None apart h = h
    kept (Some t) apart h = (h.0, others q t apart h.1)

    by_case : (b : Bool) → p == q ≡ b → IsRowOf g q (P' q) (row_of (set rows p o) q)
    by_case true own =
        subst (λ (r : ℕ). IsRowOf g r (P' r) (row_of (set rows p o) r)) (eqb-true p q own)
        (subst (IsRowOf g p (P' p)) (sym (get_or-set_same rows p o None inside)) here)
    by_case false other =
        let apart : q ≢ p = (λ k. let n : p == q ≡ true = rw k (equal_self p) in cc) in
        subst (IsRowOf g q (P' q)) (sym (get_or-set_other rows p q o None apart)) (kept (row_of rows q) other (are q))

-- ---- the opening

abbrev pub before_all : Turn
before_all = stepped 0 0

abbrev pub given : Bool → Option Turn
given b = if b then Some before_all else None

pub none-given : (n q : ℕ) → row_of (replicate n None) q ≡ None
none-given n q =
    elim (cases_lt q n) [
      | inl low ↦ get_or-replicate n q None None low
      | inr high ↦ get_or_past (replicate n None) q None (omega (arith, high, length-replicate {A = Option Turn} n None))
    ]

or_none : (a : Bool) → a || false ≡ a
or_none true = refl
or_none false = refl

-- one processor more has a row
pub more-given : (cpus : List CpuNo) (i : ℕ) (cpu d : CpuNo) (rows : List (Option Turn)) → i < length cpus → cpu ≡ get_or cpus i d → cpu.0 < length rows
    → ((q : ℕ) → row_of rows q ≡ given (has q (numbers_of (take i cpus))))
    → (q : ℕ) → row_of (set rows cpu.0 (Some before_all)) q ≡ given (has q (numbers_of (take (i + 1) cpus)))
more-given cpus i cpu d rows low is inside opened q =
    by_case (q == cpu.0) refl ∙ ap given (sym more)
  where
    more : has q (numbers_of (take (i + 1) cpus)) ≡ has q (numbers_of (take i cpus)) || (q == cpu.0 || false)
    more =
        ap (λ (qs : List CpuNo). has q (numbers_of qs)) (take_more cpus i d low ∙ ap (λ (x : CpuNo). take i cpus ++ x ∷ []) (sym is))
        ∙ ap (has q) (map-append (λ (x : CpuNo). x.0) (take i cpus) (cpu ∷ [])) ∙ has-append q (numbers_of (take i cpus)) (cpu.0 ∷ [])

    by_case : (b : Bool) → q == cpu.0 ≡ b → row_of (set rows cpu.0 (Some before_all)) q ≡ given (has q (numbers_of (take i cpus)) || (b || false))
    by_case true e =
        ap (row_of (set rows cpu.0 (Some before_all))) (eqb-true q cpu.0 e) ∙ get_or-set_same rows cpu.0 (Some before_all) None inside
        ∙ ap given (sym (or_true (has q (numbers_of (take i cpus)))))
    by_case false e =
        let apart : q ≢ cpu.0 = (λ k. let n : q == cpu.0 ≡ true = rw k (equal_self cpu.0) in cc) in
        get_or-set_other rows cpu.0 q (Some before_all) None apart ∙ opened q ∙ ap given (sym (or_none (has q (numbers_of (take i cpus)))))

turn-first : (g : Group) (q : ℕ) → IsTurnAt g [] q before_all
unfolding turns_begun steps_since had_none
turn-first g q = record { begun_is = refl; since_is = refl; none_is = λ counts. refl }

pub rows-first : (g : Group) (qs : List ℕ) (v : Turns) → qs ≡ group_processors g → drives.horizon g.setup.drive ≡ v.horizon → ((q : ℕ) → row_of v.rows q ≡ given (has q qs)) → AreAt g [] v
rows-first g qs v same far opened = record { horizon_is = sym far; rows_are = λ q. subst (IsRowOf g q (IsTurnAt g [] q)) (sym (opened q)) (by_case q (has q qs) refl) }
  where
    by_case : (q : ℕ) (b : Bool) → has q qs ≡ b → IsRowOf g q (IsTurnAt g [] q) (given b)
    by_case q true e = (subst (λ (ns : List ℕ). has q ns ≡ true) same e, turn-first g q)
    by_case q false e = (λ there. let yes : has q qs ≡ true = subst (λ (ns : List ℕ). has q ns ≡ true) (sym same) there in cc)

-- ---- a step

module _ (g : Group) (past : Past) (step : Step) (v : Turns) (at : AreAt g past v) (next : Option Act) (told : next ≡ next_act g (situation g step.cpu.0 past)) where
  turn-there : (t : Turn) → row_of v.rows step.cpu.0 ≡ Some t → IsProcessorOf g step.cpu.0 × IsTurnAt g past step.cpu.0 t
  turn-there t is = subst (IsRowOf g step.cpu.0 (IsTurnAt g past step.cpu.0)) is (at.rows_are step.cpu.0)

  own : step.cpu.0 == step.cpu.0 ≡ true
  own = equal_self step.cpu.0

  none-own : (t : Turn) → t.had_none ≡ false → t.had_none ≡ (has step.cpu.0 [] && has_none g step.cpu.0 (after g step past)) || (not (step.cpu.0 == step.cpu.0) && had_none g step.cpu.0 past)
  none-own t is = rw own is

  turn-taken : (t u : Turn) → IsTurnAt g past step.cpu.0 t → IsTaken t next (drives.horizon g.setup.drive) step u → IsTurnAfter g past step [] step.cpu.0 u
  turn-taken t u is (inl (on, same)) =
      let no : is_tick step.act ≡ false = no-tick g past step.cpu.0 t is step refl next told on in
      record {
        begun_is = ap (λ (x : Turn). x.begun) same ∙ is.begun_is ∙ sym (begun-act g step past step.cpu.0 no);
        since_is = ap (λ (x : Turn). x.since) same ∙ ap (λ (n : ℕ). n + 1) is.since_is ∙ sym (since-act g step past step.cpu.0 own no);
        none_is = λ counts. none-own u (ap (λ (x : Turn). x.had_none) same);
      }
  turn-taken t u is (inr (new, same)) =
      let yes : is_tick step.act ≡ true = ap is_tick new.act_is in
      record {
        begun_is = ap (λ (x : Turn). x.begun) same ∙ ap (λ (n : ℕ). n + 1) is.begun_is ∙ sym (begun-tick g step past step.cpu.0 own yes);
        since_is = ap (λ (x : Turn). x.since) same ∙ sym (since-tick g step past step.cpu.0 own yes);
        none_is = λ counts. none-own u (ap (λ (x : Turn). x.had_none) same);
      }

  turn-other : (q : ℕ) (t : Turn) → step.cpu.0 == q ≡ false → IsTurnAt g past q t → IsTurnAfter g past step [] q t
  turn-other q t other is = record {
    begun_is = is.begun_is ∙ sym (begun-other g step past q other);
    since_is = is.since_is ∙ sym (since-other g step past q other);
    none_is = λ counts. rw other (is.none_is counts);
  }

  came : (t u : Turn) → IsTaken t next (drives.horizon g.setup.drive) step u → GoesOn t next step ⊎ Begins t (drives.horizon g.setup.drive) step
  came t u (inl (on, same)) = inl on
  came t u (inr (new, same)) = inr new

  pub has-taken : (t u : Turn) → row_of v.rows step.cpu.0 ≡ Some t → IsTaken t next v.horizon step u → (w : Turns) → w ≡ record v { rows = set v.rows step.cpu.0 (Some u) } → HasTaken g past step w
  has-taken t u row taken w same =
      let there = turn-there t row in
      let is : IsTaken t next (drives.horizon g.setup.drive) step u = subst (λ (h : ℕ). IsTaken t next h step u) at.horizon_is taken in
      subst (HasTaken g past step) (sym same) (record {
        home = there.0;
        next = comes-next g past step.cpu.0 t there.1 step refl next told (came t u is);
        looked = record {
          horizon_is = at.horizon_is;
          rows_are = put-rows g v.rows step.cpu.0 (Some u) (IsTurnAt g past) (IsTurnAfter g past step []) (row-inside v.rows step.cpu.0 t row) at.rows_are (there.0, turn-taken t u there.1 is) turn-other;
        };
      })

  -- the step that may come next is the one that was made, where that is the one that goes on or begins
  pub step-made : (t : Turn) → row_of v.rows step.cpu.0 ≡ Some t → MayComeNext g past step → (o : Option Step) → (is_tick step.act ≡ false → GoesOn t next step → o ≡ Some step)
      → ((far : ℕ) → is_tick step.act ≡ true → Begins t far step → o ≡ Some step) → o ≡ Some step
  step-made t row may o goes begins =
      let is : IsTurnAt g past step.cpu.0 t = (turn-there t row).1 in
      elim (next-comes g past step.cpu.0 t is step refl next told may) [
        | inl on ↦ goes (no-tick g past step.cpu.0 t is step refl next told on) on
        | inr new ↦ begins (drives.horizon g.setup.drive) (ap is_tick new.act_is) new
      ]

  pub not-next : (t : Turn) → row_of v.rows step.cpu.0 ≡ Some t → (GoesOn t next step ⊎ Begins t v.horizon step → ⊥) → MayComeNext g past step → ⊥
  not-next t row none may =
      let there = turn-there t row in
      none (subst (λ (h : ℕ). GoesOn t next step ⊎ Begins t h step) (sym at.horizon_is) (next-comes g past step.cpu.0 t there.1 step refl next told may))

-- ---- looking

has-more : (q p : ℕ) (qs : List ℕ) → p == q ≡ false → has q (qs ++ p ∷ []) ≡ has q qs
has-more q p qs other =
    let apart : q == p ≡ false = by_case (q == p) refl in
    has-append q qs (p ∷ []) ∙ rw apart (or_none (has q qs))
  where
    by_case : (b : Bool) → q == p ≡ b → b ≡ false
    by_case true e = (let n : p == q ≡ true = rw (eqb-true q p e) (equal_self p) in cc)
    by_case false e = refl

has-now : (q : ℕ) (qs : List ℕ) → has q (qs ++ q ∷ []) ≡ true
has-now q qs = has-append q qs (q ∷ []) ∙ rw (equal_self q) (or_true (has q qs))

looked-now : (a n r : Bool) → ((a && n) || r) || n ≡ (true && n) || r
looked-now true true r = refl
looked-now true false true = refl
looked-now true false false = refl
looked-now false true r = or_true r
looked-now false false true = refl
looked-now false false false = refl

unseen-now : (kept counts a n r : Bool) → counts ≡ true → counts && not kept ≡ false → kept ≡ (a && n) || r → kept ≡ (true && n) || r
unseen-now false counts a n r counted unasked is = cc
unseen-now true counts a n r counted unasked is = more a n r is
  where
    more : (a n r : Bool) → true ≡ (a && n) || r → true ≡ (true && n) || r
    more true n r is = is
    more false true r is = refl
    more false false r is = is

module _ (g : Group) (past : Past) (step : Step) (qs : List ℕ) (v : Turns) (at : AreLooked g past step qs v) (q : ℕ) where
  turn-kept : (p : ℕ) (t : Turn) → q == p ≡ false → IsTurnAfter g past step qs p t → IsTurnAfter g past step (qs ++ q ∷ []) p t
  turn-kept p t other is = record { begun_is = is.begun_is; since_is = is.since_is; none_is = λ counts. rw (has-more p q qs other) (is.none_is counts) }

  turn-seen : (t : Turn) (none : Bool) → none ≡ has_none g q (after g step past) → IsTurnAfter g past step qs q t → IsTurnAfter g past step (qs ++ q ∷ []) q (seen t none)
  turn-seen t none told is = record {
    begun_is = is.begun_is;
    since_is = is.since_is;
    none_is = λ counts.
        ap (λ (b : Bool). b || none) (is.none_is counts) ∙ ap (λ (b : Bool). ((has q qs && has_none g q (after g step past)) || (not (step.cpu.0 == q) && had_none g q past)) || b) told
        ∙ looked-now (has q qs) (has_none g q (after g step past)) (not (step.cpu.0 == q) && had_none g q past)
        ∙ ap (λ (b : Bool). (b && has_none g q (after g step past)) || (not (step.cpu.0 == q) && had_none g q past)) (sym (has-now q qs));
  }

  pub looked-further : (none : Bool) → none ≡ has_none g q (after g step past) → (o : Option Turn) → row_of v.rows q ≡ o → is_some o ≡ true
      → (w : Turns) → w ≡ record v { rows = set v.rows q (row_seen none o) } → AreLooked g past step (qs ++ q ∷ []) w
  looked-further none told None is there w same = cc
  looked-further none told (Some t) is there w same =
      let here = subst (IsRowOf g q (IsTurnAfter g past step qs q)) is (at.rows_are q) in
      subst (AreLooked g past step (qs ++ q ∷ [])) (sym same) (record {
        horizon_is = at.horizon_is;
        rows_are = put-rows g v.rows q (Some (seen t none)) (IsTurnAfter g past step qs) (IsTurnAfter g past step (qs ++ q ∷ [])) (row-inside v.rows q t is) at.rows_are (here.0, turn-seen t none told here.1) turn-kept;
      })

  -- where a look can change nothing, none is taken
  turn-unseen : (t : Turn) → awaits_look t ≡ false → IsTurnAfter g past step qs q t → IsTurnAfter g past step (qs ++ q ∷ []) q t
  turn-unseen t unasked is = record {
    begun_is = is.begun_is;
    since_is = is.since_is;
    none_is = λ counts.
        unseen-now t.had_none (counts_none t.since) (has q qs) (has_none g q (after g step past)) (not (step.cpu.0 == q) && had_none g q past) counts unasked (is.none_is counts)
        ∙ ap (λ (b : Bool). (b && has_none g q (after g step past)) || (not (step.cpu.0 == q) && had_none g q past)) (sym (has-now q qs));
  }

  pub looked-not : (t : Turn) → row_of v.rows q ≡ Some t → awaits_look t ≡ false → AreLooked g past step (qs ++ q ∷ []) v
  looked-not t is unasked = record { horizon_is = at.horizon_is; rows_are = λ p. kept p (q == p) refl (row_of v.rows p) refl (at.rows_are p) }
    where
      own : (u : Turn) → row_of v.rows q ≡ Some u → awaits_look u ≡ false
      own u row = (let same : Some t ≡ Some u = sym is ∙ row in cc (unasked, same))

      kept : (p : ℕ) (b : Bool) → q == p ≡ b → (o : Option Turn) → row_of v.rows p ≡ o → IsRowOf g p (IsTurnAfter g past step qs p) o → IsRowOf g p (IsTurnAfter g past step (qs ++ q ∷ []) p) o
      kept p b e None row h = h
      kept p true e (Some u) row h =
          let same : q ≡ p = eqb-true q p e in (
            h.0,
            subst (λ (r : ℕ). IsTurnAfter g past step (qs ++ q ∷ []) r u) same
                (turn-unseen u (own u (ap (row_of v.rows) same ∙ row)) (subst (λ (r : ℕ). IsTurnAfter g past step qs r u) (sym same) h.1)),
          )
      kept p false e (Some u) row h = (h.0, turn-kept p u e h.1)

  -- a processor of another group is not looked at
  pub looked-past : row_of v.rows q ≡ None → AreLooked g past step (qs ++ q ∷ []) v
  looked-past none = record { horizon_is = at.horizon_is; rows_are = λ p. kept p (q == p) refl (row_of v.rows p) refl (at.rows_are p) }
    where
      kept : (p : ℕ) (b : Bool) → q == p ≡ b → (o : Option Turn) → row_of v.rows p ≡ o → IsRowOf g p (IsTurnAfter g past step qs p) o → IsRowOf g p (IsTurnAfter g past step (qs ++ q ∷ []) p) o
      kept p b e None is h = h
      kept p true e (Some t) is h = (let row : row_of v.rows p ≡ None = subst (λ (r : ℕ). row_of v.rows r ≡ None) (eqb-true q p e) none in cc)
      kept p false e (Some t) is h = (h.0, turn-kept p t e h.1)

-- once each processor of the group was looked at
pub all-looked : (g : Group) (past : Past) (step : Step) (v : Turns) → AreLooked g past step (group_processors g) v → AreAt g (after g step past) v
all-looked g past step v at = record { horizon_is = at.horizon_is; rows_are = λ q. by_row q (row_of v.rows q) (at.rows_are q) }
  where
    by_row : (q : ℕ) (o : Option Turn) → IsRowOf g q (IsTurnAfter g past step (group_processors g) q) o → IsRowOf g q (IsTurnAt g (after g step past) q) o
    by_row q None h = h
    by_row q (Some t) h =
        let there : has q (group_processors g) ≡ true = h.0 in
        let is = h.1 in
        (h.0, record { begun_is = is.begun_is; since_is = is.since_is; none_is = λ counts. is.none_is counts ∙ rw there (sym (had-after g step past q)) })

-- ---- the end

-- each row that is there has ended where its processor has
pub row-ended : (g : Group) (past : Past) (v : Turns) (q : ℕ) → AreAt g past v → IsProcessorOf g q → row_ended v.horizon (row_of v.rows q) ≡ true → plays.has_ended g q past ≡ true
row-ended g past v q at there ended = by_row (row_of v.rows q) (at.rows_are q) ended
  where
    by_row : (o : Option Turn) → IsRowOf g q (IsTurnAt g past q) o → row_ended v.horizon o ≡ true → plays.has_ended g q past ≡ true
    by_row None h e = absurd (h there)
    by_row (Some t) h e = sym (ended-is g past q t h.1) ∙ ap (λ (n : ℕ). row_ended n (Some t)) (sym at.horizon_is) ∙ e

pub ended-row : (g : Group) (past : Past) (v : Turns) (q : ℕ) → AreAt g past v → ((p : ℕ) → IsProcessorOf g p → plays.has_ended g p past ≡ true) → row_ended v.horizon (row_of v.rows q) ≡ true
ended-row g past v q at all = by_row (row_of v.rows q) (at.rows_are q)
  where
    by_row : (o : Option Turn) → IsRowOf g q (IsTurnAt g past q) o → row_ended v.horizon o ≡ true
    by_row None h = refl
    by_row (Some t) h = ap (λ (n : ℕ). row_ended n (Some t)) at.horizon_is ∙ ended-is g past q t h.1 ∙ all q h.0
