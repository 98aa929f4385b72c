-- An act lets no task show more that it does not touch, and a move of the clock that is not later lets none.
use Rattle.std.proofs.Common.{◌≡◌, ◌∙◌, ℕ, ◌≤◌, max, Bool, true, false, ◌∷◌, refl, ap, arith}
use Rattle.std.specs.Prelude.{nat_lt, Option, None, Some, if◌then◌else◌}
use Rattle.std.proofs.lemmas.Bool.Decides.{nat_tests}
use Rattle.rt_rules.specs.Numbers.{is}
use Rattle.rt_rules.proofs.BoolLaws.{clash, neither}
use Rattle.rt_rules.proofs.MemberLaws.{some-is}
use Rattle.rt_model.specs.Blocking.{is_blocked}
use Rattle.rt_model.specs.Group.{Group}
use Rattle.rt_model.specs.Holders.{awaits}
use Rattle.rt_model.specs.Outcomes.{past_act}
use Rattle.rt_model.specs.Past.{Acted, Clock, Event, Past, PastAct, now}
use Rattle.rt_model.specs.Reachable.{IsReachable}
use Rattle.rt_model.specs.Releases.{exists, has_come, release}
use Rattle.rt_model.specs.Runs.{runs}
use Rattle.rt_model.specs.Sleep.{sleeps, wakes}
use Rattle.rt_laws.proofs.Moves.{IsMove, clock_moves, cpu_acts, last_move}
use Rattle.rt_laws.proofs.semaphores.Requests.{asks}
use Rattle.rt_changes.specs.Touched.{SameReady, arriving}
use Rattle.rt_changes.proofs.rankings.TouchedTasks.{clock-none, facts-none, job-none, other-none, ready-same}
use Rattle.trace_views.specs.Cells as cells
use Rattle.trace_views.specs.Cells.{TaskCell}
use Rattle.chart_cells.specs.Kept.{later, rank, state_cell}
use Rattle.chart_rows.specs.Looks.{doing_by, state_doing, there_by}
use Rattle.chart_rows.specs.UpTo.{touches}
use Rattle.chart_rows.proofs.Looks.{for-rank, later-kept, state-cell}
use Rattle.chart_rows.proofs.Waits.{stays-free}

module _ (g : Group) (t : ℕ) where
  -- by whether it waits, sleeps and is there
  abbrev rank_by : Option ℕ → Bool → Bool → ℕ
  rank_by (Some s) sleeping there = 3
  rank_by None sleeping there = rank (there_by sleeping there)

  rank-is : (x : Past) → rank (state_doing g t x) ≡ rank_by (awaits g t x) (sleeps t x) (exists g t x)
  rank-is x = by_wait (awaits g t x)
    where
      by_case : (s : ℕ) (b : Bool) → rank (if b then cells.blocked s else cells.waits s) ≡ 3
      by_case s true = refl
      by_case s false = refl

      by_wait : (o : Option ℕ) → rank (doing_by g t x o) ≡ rank_by o (sleeps t x) (exists g t x)
      by_wait (Some s) = by_case s (is_blocked g t x)
      by_wait None = refl

  low : (o : Option ℕ) (b c : Bool) → rank_by o b c ≤ 3
  low (Some s) b c = omega arith
  low None true c = omega arith
  low None false true = omega arith
  low None false false = omega arith

  falls : (past past' : Past) → exists g t past' ≡ exists g t past → sleeps t past' ≡ sleeps t past → (awaits g t past ≡ None → awaits g t past' ≡ None) → rank (state_doing g t past') ≤ rank (state_doing g t past)
  falls past past' there sleeping free = rw (rank-is past', rank-is past) (by_wait (awaits g t past) refl)
    where
      by_wait : (o : Option ℕ) → awaits g t past ≡ o → rank_by (awaits g t past') (sleeps t past') (exists g t past') ≤ rank_by o (sleeps t past) (exists g t past)
      by_wait (Some s) h = low (awaits g t past') (sleeps t past') (exists g t past')
      by_wait None h = rw (free h, sleeping, there) (omega arith)

  by_act : {past : Past} {e : Event} → IsMove g past e → (d : PastAct) → e ≡ Acted d → touches d t ≡ false → rank (state_doing g t (e ∷ past)) ≤ rank (state_doing g t past)
  unfolding past_act
  by_act (clock_moves tick) d same h = cc
  by_act {past = past} (cpu_acts q a) d same h =
      let act_is : past_act g q a past ≡ d = cc in
      let none : touches (past_act g q a past) t ≡ false = ap (λ (x : PastAct). touches x t) act_is ∙ h in
      let p = neither (is t (runs q past)) (is t (arriving a)) none in
      let facts = facts-none g t (past_act g q a past) past (other-none g q a past t p.0 p.1) in
      falls past (Acted (past_act g q a past) ∷ past) facts.same_ready.exists_same facts.same_ready.sleeps_same
      (stays-free g t (Acted (past_act g q a past)) past (λ s k. clash _ (some-is t (runs q past) (asks g q a past t s k).runs_it) p.0))

  pub act-falls : (d : PastAct) (past : Past) → IsReachable g (Acted d ∷ past) → touches d t ≡ false → rank (state_doing g t (Acted d ∷ past)) ≤ rank (state_doing g t past)
  act-falls d past made h = by_act (last_move g made).1 d refl h

  pub clock-falls : (tick : ℕ) (past : Past) → tick ≤ now past → rank (state_doing g t (Clock tick ∷ past)) ≤ rank (state_doing g t past)
  clock-falls tick past h =
      let same : max (now past) tick ≡ now past = omega arith in
      let ready : SameReady g t past (Clock tick ∷ past) = ready-same g t past (Clock tick ∷ past) (job-none g t (Clock tick) past (clock-none tick t past)) (ap (λ n. has_come n (release g t past)) same) (ap (λ n. nat_lt n (wakes t past)) same) in
      falls past (Clock tick ∷ past) ready.exists_same ready.sleeps_same (stays-free g t (Clock tick) past (λ s k. cc))

  -- ---- the cell that is kept

  pub kept-still : (x : Past) (kept : TaskCell) → rank (state_doing g t x) ≤ rank kept.doing → kept ≡ later kept (state_cell g t x)
  kept-still x kept h = let no : nat_lt (rank kept.doing) (rank (state_doing g t x)) ≡ false = grind (arith, nat_tests, h) in later-kept g t x kept (state_doing g t x) refl no

  pub later-least : (x : Past) (kept : TaskCell) → rank (state_doing g t x) ≤ rank (later kept (state_cell g t x)).doing
  later-least x kept = rw (← shown) (by_case (nat_lt (rank kept.doing) (rank (state_cell g t x).doing)) refl)
    where
      shown : rank (state_cell g t x).doing ≡ rank (state_doing g t x)
      shown = ap (λ (c : TaskCell). rank c.doing) (state-cell g t x) ∙ for-rank g t x (state_doing g t x)

      by_case : (b : Bool) → nat_lt (rank kept.doing) (rank (state_cell g t x).doing) ≡ b → rank (state_cell g t x).doing ≤ rank (if b then state_cell g t x else kept).doing
      by_case true h = omega arith
      by_case false h = grind (arith, nat_tests, h)
