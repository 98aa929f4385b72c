-- A processor whose row has a unit in the newest tick has worked in it, so that no act of it is a unit.
use Rattle.std.proofs.Common.{◌≡◌, ◌≢◌, ◌∙◌, ℕ, zero, suc, ◌<◌, ◌≤◌, ◌==◌, ◌&&◌, ◌||◌, Bool, true, false, inl, inr, List, [], ◌∷◌, length, map, get_or, refl, sym, ap, subst, arith, All}
use Rattle.std.specs.List.{list_any}
use Rattle.std.specs.Prelude.{Option, None, Some, filter, nat_le, if◌then◌else◌, ◌⊎◌}
use Rattle.std.proofs.lemmas.Bool.Decides.{nat_tests}
use Rattle.rt_task.specs.declared.Act.{Act}
use Rattle.rt_task.specs.declared.Act.TheVariants as acts
use Rattle.rt_task.specs.declared.Op.TheVariants as ops
use Rattle.rt_rules.specs.declared.history.Reply.{Reply}
use Rattle.rt_rules.proofs.BoolLaws.{and_false, both, clash, either}
use Rattle.rt_rules.proofs.MemberLaws.{equal_self}
use Rattle.rt_model.specs.Answers.{answer, do_answer, last_work, op_answer, work_answer, works_at}
use Rattle.rt_model.specs.Group.{Group, group_processors}
use Rattle.rt_model.specs.Outcomes.{past_act}
use Rattle.rt_model.specs.Past.{Acted, Clock, Past, PastAct, accepted, is_work, now, operation}
use Rattle.rt_model.specs.Runs.{runs}
use Rattle.rt_plays.specs.Homes.{IsProcessorOf}
use Rattle.rank_afresh.specs.Standing.{IsAt, Standing, group_of}
use Rattle.trace_views.specs.Moments.{Moment, is_unit, moments}
use Rattle.chart_cells.specs.KeptFirst.{kept_cpu}
use Rattle.chart_rows.specs.Foretold.{moment_of}
use Rattle.chart_rows.specs.Rows.{CpuKept, RowsKept, cpu_kept, rows_of}
use Rattle.chart_rows.specs.Strips.{Strip, column_of}
use Rattle.chart_rows.proofs.TickLaws.{strip-acted, strip-begun, strip-clocked}
use Rattle.span_feed.specs.TickStrips.{tick_strip}

-- ---- units of the newest tick

module _ (q : ℕ) where
  -- whether a processor has a unit among acts
  abbrev pub is_its : Moment → Bool
  is_its m = is_unit m && m.act.cpu == q

  abbrev pub some_its : List Moment → Bool
  some_its ms = list_any is_its ms

  works : (c : ℕ) (a : Act) (t : Option ℕ) (r : Reply) (o : Option ℕ) → accepted r ≡ true → is_work (operation a) ≡ true → (c == q) ≡ true
      → works_at q (Acted (record { cpu = c; act = a; task = t; reply = r; ended = o })) ≡ true
  works c acts.Tick t r o done h own = cc
  works c acts.Irq t r o done h own = cc
  works c (acts.Arrive u) t r o done h own = cc
  works c (acts.Do ops.Work) t r o done h own = rw (own, done) refl
  works c (acts.Do (ops.Lock s)) t r o done h own = cc
  works c (acts.Do (ops.Unlock s)) t r o done h own = cc
  works c (acts.Do (ops.Sleep n)) t r o done h own = cc
  works c (acts.Do ops.NpOn) t r o done h own = cc
  works c (acts.Do ops.NpOff) t r o done h own = cc
  works c (acts.Do ops.End) t r o done h own = cc

  worked-its : (d : PastAct) (past : Past) → is_its (record { act = d; before = past }) ≡ true → works_at q (Acted d) ≡ true
  worked-its d past h =
      let unit = both (accepted d.reply && is_work (operation d.act)) (d.cpu == q) h in
      let two = both (accepted d.reply) (is_work (operation d.act)) unit.0 in
      works d.cpu d.act d.task d.reply d.ended two.0 two.1 unit.1

  pub worked-in-tick : (past : Past) → some_its (tick_strip past (now past)).acts ≡ true → last_work q past ≡ Some (now past)
  unfolding moments last_work
  worked-in-tick [] h = cc
  worked-in-tick (Clock tick ∷ past) h = by_case (nat_le tick (now past)) refl (worked-in-tick past)
    where
      by_case : (b : Bool) → nat_le tick (now past) ≡ b → (some_its (tick_strip past (now past)).acts ≡ true → last_work q past ≡ Some (now past)) → last_work q past ≡ Some (now (Clock tick ∷ past))
      by_case true m older =
          let low : tick ≤ now past = grind (arith, nat_tests) in
          let same : now past ≡ now (Clock tick ∷ past) = omega arith in
          older (sym (ap (λ (s : Strip). some_its s.acts) (strip-clocked tick past low)) ∙ h) ∙ ap Some same
      by_case false m older =
          let late : now past < tick = grind (arith, nat_tests) in
          absurd (clash _ h (ap (λ (s : Strip). some_its s.acts) (strip-begun tick past late)))
  worked-in-tick (Acted d ∷ past) h = by_case (works_at q (Acted d)) refl (worked-in-tick past)
    where
      some : is_its (record { act = d; before = past }) || some_its (tick_strip past (now past)).acts ≡ true
      some = sym (ap (λ (s : Strip). some_its s.acts) (strip-acted d past)) ∙ h

      older-one : works_at q (Acted d) ≡ false → some_its (tick_strip past (now past)).acts ≡ true
      older-one other = by_either (either (is_its (record { act = d; before = past })) (some_its (tick_strip past (now past)).acts) some)
        where
          by_either : (is_its (record { act = d; before = past }) ≡ true) ⊎ (some_its (tick_strip past (now past)).acts ≡ true) → some_its (tick_strip past (now past)).acts ≡ true
          by_either (inl own) = absurd (clash _ (worked-its d past own) other)
          by_either (inr old) = old

      by_case : (b : Bool) → works_at q (Acted d) ≡ b → (some_its (tick_strip past (now past)).acts ≡ true → last_work q past ≡ Some (now past)) → (if b then Some (now past) else last_work q past) ≡ Some (now past)
      by_case true e older = refl
      by_case false other older = older (older-one other)

  -- ---- as the row shows it

  none-among : (ms : List Moment) → some_its ms ≡ false → filter is_its ms ≡ []
  none-among [] h = refl
  none-among (m ∷ ms) h = by_case (is_its m) h (none-among ms)
    where
      by_case : (b : Bool) → b || some_its ms ≡ false → (some_its ms ≡ false → filter is_its ms ≡ []) → (if b then m ∷ filter is_its ms else filter is_its ms) ≡ []
      by_case true k rest = cc
      by_case false k rest = rest k

  none-kept : (g : Group) (s : Strip) → some_its s.acts ≡ false → kept_cpu g q (column_of s) ≡ None
  unfolding kept_cpu
  none-kept g s h = rw (none-among s.acts h) refl

module _ (g : Group) (past : Past) where
  abbrev going : Strip
  going = tick_strip past (now past)

  abbrev IsKeptOf : CpuKept → Type 0
  IsKeptOf k = k.kept ≡ kept_cpu g k.cpu (column_of going)

  kept-of : (qs : List ℕ) → All IsKeptOf (map (cpu_kept g [] going) qs)
  kept-of [] j d low = absurd (omega arith)
  kept-of (q ∷ qs) zero d low = refl
  kept-of (q ∷ qs) (suc j) d low = kept-of qs j d (omega arith)

  kept-in : (rows : RowsKept) → rows ≡ rows_of g [] going → All IsKeptOf rows.cpus
  unfolding rows_of
  kept-in rows is = subst (λ (v : RowsKept). All IsKeptOf v.cpus) (sym is) (kept-of (group_processors g))

  -- a row of which a unit is kept is of a processor that has worked in the newest tick
  pub kept-worked : (rows : RowsKept) (cpus : List CpuKept) (i q : ℕ) (d : CpuKept) → rows ≡ rows_of g [] going → cpus ≡ rows.cpus → i < length cpus → (get_or cpus i d).cpu ≡ q → (get_or cpus i d).kept ≢ None
      → last_work q past ≡ Some (now past)
  kept-worked rows cpus i q d is same low own kept = by_case (some_its q going.acts) refl
    where
      here : (get_or cpus i d).kept ≡ kept_cpu g q (column_of going)
      here = subst (All IsKeptOf) (sym same) (kept-in rows is) i d low ∙ ap (λ n. kept_cpu g n (column_of going)) own

      by_case : (b : Bool) → some_its q going.acts ≡ b → last_work q past ≡ Some (now past)
      by_case true h = worked-in-tick q past h
      by_case false h = absurd (kept (here ∙ none-kept q g going h))

-- ---- no further act of it in the tick is a unit

pub spent-none : (g : Group) (q : ℕ) (act : Act) (past : Past) → last_work q past ≡ Some (now past) → is_unit (moment_of g q act past) ≡ false
unfolding past_act answer do_answer op_answer work_answer
spent-none g q act past h = by_act act
  where
    by_run : (o : Option ℕ) → accepted (do_answer g ops.Work q o past) && true ≡ false
    by_run None = refl
    by_run (Some t) = rw (h, equal_self (now past)) refl

    by_act : (a : Act) → accepted (answer g q a past) && is_work (operation a) ≡ false
    by_act acts.Tick = refl
    by_act acts.Irq = and_false _
    by_act (acts.Arrive t) = and_false _
    by_act (acts.Do ops.Work) = by_run (runs q past)
    by_act (acts.Do (ops.Lock s)) = and_false _
    by_act (acts.Do (ops.Unlock s)) = and_false _
    by_act (acts.Do (ops.Sleep n)) = and_false _
    by_act (acts.Do ops.NpOn) = and_false _
    by_act (acts.Do ops.NpOff) = and_false _
    by_act (acts.Do ops.End) = and_false _

-- two pasts at which a group stands tell the same of it
pub worked-same : (v : Standing) (q : ℕ) (past other : Past) → IsProcessorOf (group_of v) q → IsAt v past → IsAt v other → last_work q past ≡ Some (now past) → last_work q other ≡ Some (now other)
worked-same v q past other inside at as_well h =
    sym (ap (λ c. c.worked) (as_well.core_at.kept.cpus_are q inside)) ∙ ap (λ c. c.worked) (at.core_at.kept.cpus_are q inside) ∙ h
    ∙ ap Some (sym at.core_at.kept.clock_is ∙ as_well.core_at.kept.clock_is)
