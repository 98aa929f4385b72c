-- A processor does at most one unit a tick, since its next Work is refused until the clock has moved.
use Rattle.std.proofs.Common.{◌≡◌, ◌∙◌, ℕ, ◌<◌, Bool, true, false, List, [], ◌∷◌, ◌&&◌, refl, sym, ap, cond, subst, arith, eqb-true}
use Rattle.std.specs.Prelude.{Option, None, Some, filter, if◌then◌else◌, ◌==◌, ⊤}
use Rattle.rt_task.specs.declared.Act.{Act}
use Rattle.rt_task.specs.declared.Act.TheVariants as acts
use Rattle.rt_task.specs.declared.Op.{Op}
use Rattle.rt_task.specs.declared.Op.TheVariants as ops
use Rattle.rt_rules.specs.declared.history.Reply.TheVariants as replies
use Rattle.std.proofs.lemmas.Bool.{eqb-false}
use Rattle.rt_rules.specs.Numbers.{same}
use Rattle.rt_rules.proofs.BoolLaws.{both, clash}
use Rattle.rt_rules.proofs.MemberLaws.{equal_self}
use Rattle.rt_model.specs.Answers.{answer, do_answer, last_work, op_answer, work_answer, works_at}
use Rattle.rt_model.specs.Group.{Group}
use Rattle.rt_model.specs.Outcomes.{past_act}
use Rattle.rt_model.specs.Past.{Acted, Clock, Past, PastAct, accepted, is_work, now, operation}
use Rattle.rt_model.specs.Reachable.{IsReachable, acted, clocked, opened}
use Rattle.rt_model.specs.Runs.{runs}
use Rattle.trace_views.specs.Moments.{Moment, acts_among, is_unit, moments, own}
use Rattle.trace_views.proofs.Sums.{below_differs}

-- a unit of the processor
abbrev pub is_by : ℕ → Moment → Bool
is_by q m = is_unit m && m.act.cpu == q

-- none or one
abbrev pub AtMostOne : List Moment → Type 0
AtMostOne [] = ⊤
AtMostOne (m ∷ []) = ⊤
AtMostOne (m ∷ n ∷ ms) = ⊥

-- the units of a processor at a tick
abbrev pub units_at : ℕ → ℕ → Past → List Moment
units_at q t past = filter (is_by q) (acts_among (own t past))

abbrev moment : PastAct → Past → Moment
moment d past = record { act = d; before = past }

-- ---- one move

at-clock : (q t tick : ℕ) (past : Past) → units_at q t (Clock tick ∷ past) ≡ units_at q t past
unfolding moments
at-clock q t tick past = by_case (now (Clock tick ∷ past) == t)
  where
    by_case : (b : Bool) → filter (is_by q) (acts_among (cond b ((Clock tick ∷ past) ∷ own t past) (own t past))) ≡ units_at q t past
    by_case true = refl
    by_case false = refl

at-act : (q t : ℕ) (d : PastAct) (past : Past) → units_at q t (Acted d ∷ past) ≡ (if now past == t && is_by q (moment d past) then (moment d past ∷ units_at q t past) else units_at q t past)
unfolding moments
at-act q t d past = by_case (now past == t)
  where
    by_case : (b : Bool) → filter (is_by q) (acts_among (cond b ((Acted d ∷ past) ∷ own t past) (own t past))) ≡ (if b && is_by q (moment d past) then (moment d past ∷ units_at q t past) else units_at q t past)
    by_case true = refl
    by_case false = refl

works-unit : (q : ℕ) (d : PastAct) (past : Past) → is_by q (moment d past) ≡ works_at q (Acted d)
works-unit q d past = by_act d.act
  where
    swapped : (a b : Bool) → (a && true) && b ≡ b && a
    swapped true true = refl
    swapped true false = refl
    swapped false true = refl
    swapped false false = refl

    neither : (a b : Bool) → (a && false) && b ≡ b && false
    neither true true = refl
    neither true false = refl
    neither false true = refl
    neither false false = refl

    by_op : (op : Op) → (accepted d.reply && is_work (Some op)) && d.cpu == q ≡ works_at q (Acted (record d { act = acts.Do op }))
    by_op ops.Work = swapped (accepted d.reply) (d.cpu == q)
    by_op (ops.Lock s) = neither (accepted d.reply) (d.cpu == q)
    by_op (ops.Unlock s) = neither (accepted d.reply) (d.cpu == q)
    by_op (ops.Sleep n) = neither (accepted d.reply) (d.cpu == q)
    by_op ops.NpOn = neither (accepted d.reply) (d.cpu == q)
    by_op ops.NpOff = neither (accepted d.reply) (d.cpu == q)
    by_op ops.End = neither (accepted d.reply) (d.cpu == q)

    by_act : (a : Act) → (accepted d.reply && is_work (operation a)) && d.cpu == q ≡ works_at q (Acted (record d { act = a }))
    by_act acts.Tick = neither (accepted d.reply) (d.cpu == q)
    by_act acts.Irq = neither (accepted d.reply) (d.cpu == q)
    by_act (acts.Arrive t) = neither (accepted d.reply) (d.cpu == q)
    by_act (acts.Do op) = by_op op

-- ---- what a Work that is accepted tells

work-free : (g : Group) (q : ℕ) (act : Act) (past : Past) → accepted (answer g q act past) ≡ true → is_work (operation act) ≡ true → same (last_work q past) (Some (now past)) ≡ false
unfolding answer do_answer op_answer work_answer
work-free g q act past a w = by_act act a w
  where
    by_time : (b c : Bool) → same (last_work q past) (Some (now past)) ≡ b → accepted (if b then replies.Spent else (if c then replies.NoBudget else replies.Done)) ≡ true → b ≡ false
    by_time true c e k = cc
    by_time false c e k = refl

    by_runs : (o : Option ℕ) → accepted (do_answer g ops.Work q o past) ≡ true → same (last_work q past) (Some (now past)) ≡ false
    by_runs None k = cc
    by_runs (Some t) k = by_time (same (last_work q past) (Some (now past))) _ refl k

    by_op : (op : Op) → accepted (do_answer g op q (runs q past) past) ≡ true → is_work (Some op) ≡ true → same (last_work q past) (Some (now past)) ≡ false
    by_op ops.Work k w = by_runs (runs q past) k
    by_op (ops.Lock s) k w = cc
    by_op (ops.Unlock s) k w = cc
    by_op (ops.Sleep n) k w = cc
    by_op ops.NpOn k w = cc
    by_op ops.NpOff k w = cc
    by_op ops.End k w = cc

    by_act : (x : Act) → accepted (answer g q x past) ≡ true → is_work (operation x) ≡ true → same (last_work q past) (Some (now past)) ≡ false
    by_act acts.Tick k w = cc
    by_act acts.Irq k w = cc
    by_act (acts.Arrive t) k w = cc
    by_act (acts.Do op) k w = by_op op k w

-- ---- no state has a later clock than the newest

not-yet : (t : ℕ) (past : Past) → now past < t → own t past ≡ []
unfolding moments
not-yet t [] h = rw (below_differs 0 t h) refl
not-yet t (Clock tick ∷ past) h =
    let low : now past < t = omega (arith, h) in
    rw (below_differs (now (Clock tick ∷ past)) t h) (not-yet t past low)
not-yet t (Acted d ∷ past) h = rw (below_differs (now past) t h) (not-yet t past h)

-- a processor whose last Work was not at this clock has no unit at it
none-now : (q : ℕ) (past : Past) → same (last_work q past) (Some (now past)) ≡ false → units_at q (now past) past ≡ []
unfolding last_work moments
none-now q [] h = at_opening (0 == 0)
  where
    at_opening : (b : Bool) → filter (is_by q) (acts_among (cond b ([] ∷ []) [])) ≡ []
    at_opening true = refl
    at_opening false = refl
none-now q (Clock tick ∷ past) h = at-clock q (now (Clock tick ∷ past)) tick past ∙ by_case (now (Clock tick ∷ past) == now past) refl h (λ k. none-now q past k)
  where
    by_case : (b : Bool) → now (Clock tick ∷ past) == now past ≡ b → same (last_work q past) (Some (now (Clock tick ∷ past))) ≡ false
        → (same (last_work q past) (Some (now past)) ≡ false → units_at q (now past) past ≡ []) → units_at q (now (Clock tick ∷ past)) past ≡ []
    by_case true e k before =
        let stands : now (Clock tick ∷ past) ≡ now past = eqb-true _ _ e in
        subst (λ c. units_at q c past ≡ []) (sym stands) (before (subst (λ c. same (last_work q past) (Some c) ≡ false) stands k))
    by_case false e k before =
        let apart : (now (Clock tick ∷ past) ≡ now past → ⊥) = eqb-false _ _ e in
        let later : now past < now (Clock tick ∷ past) = omega (arith, apart) in
        ap (λ ms. filter (is_by q) (acts_among ms)) (not-yet _ past later)
none-now q (Acted d ∷ past) h = by_case (works_at q (Acted d)) refl h (λ k. none-now q past k)
  where
    by_case : (b : Bool) → works_at q (Acted d) ≡ b → same (if b then Some (now past) else last_work q past) (Some (now past)) ≡ false
        → (same (last_work q past) (Some (now past)) ≡ false → units_at q (now past) past ≡ []) → units_at q (now past) (Acted d ∷ past) ≡ []
    by_case true e k before = absurd (clash _ (equal_self (now past)) k)
    by_case false e k before =
        let no : is_by q (moment d past) ≡ false = works-unit q d past ∙ e in
        at-act q (now past) d past ∙ subst (λ b. (if now past == now past && b then (moment d past ∷ units_at q (now past) past) else units_at q (now past) past) ≡ []) (sym no) (skipped (now past == now past) (before k))
      where
        skipped : (b : Bool) → units_at q (now past) past ≡ [] → (if b && false then (moment d past ∷ units_at q (now past) past) else units_at q (now past) past) ≡ []
        skipped true m = m
        skipped false m = m

-- ---- at most one at each tick

free-before : (g : Group) (p q : ℕ) (act : Act) (past : Past) → is_by q (moment (past_act g p act past) past) ≡ true → (p ≡ q) × (same (last_work p past) (Some (now past)) ≡ false)
unfolding past_act
free-before g p q act past h =
    let u = both (accepted (answer g p act past) && is_work (operation act)) (p == q) h in
    let w = both (accepted (answer g p act past)) (is_work (operation act)) u.0 in
    (eqb-true p q u.1, work-free g p act past w.0 w.1)

pub once : {g : Group} {past : Past} → IsReachable g past → (q t : ℕ) → AtMostOne (units_at q t past)
unfolding moments
once opened q t = at_opening (0 == t)
  where
    at_opening : (b : Bool) → AtMostOne (filter (is_by q) (acts_among (cond b ([] ∷ []) [])))
    at_opening true = tt
    at_opening false = tt
once (clocked {past} tick made) q t = subst AtMostOne (sym (at-clock q t tick past)) (once made q t)
once {g} (acted {past} p act made) q t = subst AtMostOne (sym (at-act q t (past_act g p act past) past)) (by_case (now past == t) (is_by q (moment (past_act g p act past) past)) refl refl (once made q t))
  where
    by_case : (b c : Bool) → now past == t ≡ b → is_by q (moment (past_act g p act past) past) ≡ c → AtMostOne (units_at q t past)
        → AtMostOne (if b && c then (moment (past_act g p act past) past ∷ units_at q t past) else units_at q t past)
    by_case false c e k before = before
    by_case true false e k before = before
    by_case true true e k before =
        let free = free-before g p q act past k in
        let none : units_at p (now past) past ≡ [] = none-now p past free.1 in
        let empty : units_at q t past ≡ [] = subst (λ r. units_at r t past ≡ []) free.0 (subst (λ c. units_at p c past ≡ []) (eqb-true (now past) t e) none) in
        subst (λ ms. AtMostOne (moment (past_act g p act past) past ∷ ms)) (sym empty) tt
