-- How often tasks move, beside what the tool for migrations counts.
use Rattle.std.proofs.Common.{◌≡◌, ◌∙◌, ℕ, ◌+◌, ◌≤◌, Bool, true, false, List, [], ◌∷◌, ◌&&◌, refl, sym, ap, arith, eqb-true, le-leb}
use Rattle.std.specs.Prelude.{Option, None, Some, if◌then◌else◌, is_some, not, ◌==◌, sum_by}
use Rattle.rt_base.specs.declared.TheConstants.{MOST_TASKS}
use Rattle.rt_task.specs.Validity.{IsValid}
use Rattle.rt_task.specs.declared.Act.{Act}
use Rattle.rt_rules.specs.declared.history.Entry.{Entry}
use Rattle.rt_rules.specs.declared.history.Reply.{Reply}
use Rattle.rt_rules.specs.declared.history.Reply.TheVariants as replies
use Rattle.rt_rules.specs.Numbers.{has, is}
use Rattle.rt_rules.proofs.BoolLaws.{both}
use Rattle.rt_rules.proofs.MemberLaws.{equal_self}
use Rattle.rt_model.specs.Answers.{answer}
use Rattle.rt_model.specs.Group.{Group, tasks}
use Rattle.rt_model.specs.Histories.{IsLegal, IsLegalFrom, after, clock_moved, past_from, past_of, reply_to}
use Rattle.rt_model.specs.Outcomes.{past_act}
use Rattle.rt_model.specs.Past.{Acted, Clock, Event, Past}
use Rattle.rt_model.specs.Reachable.{IsReachable, acted, clocked, opened}
use Rattle.rt_model.proofs.AnswerLaws.{answer-runs_link, to_run}
use Rattle.rt_plays.proofs.SetLimits.{sets_are_in_limits}
use Rattle.rt_laws.proofs.links.LinkedTasks.{IsLinked, linked-eligible}
use Rattle.rt_laws.proofs.Moves.{IsMove, clock_moves, cpu_acts}
use Rattle.rt_laws.proofs.semaphores.SemaphoreLaws.{histories_are_made}
use Rattle.rt_laws.proofs.ValidSets.{task-numbered}
use Rattle.trace_text.specs.CountLines.{shown_as, shown_entries}
use Rattle.trace_tools.specs.Entries as tools
use Rattle.trace_tools.specs.declared.shown.Shown.{Shown}
use Rattle.trace_views.specs.JobCounts.{is_elsewhere, last_cpu, moves_now, taken_up}
use Rattle.trace_views.specs.JobMoves.{count_moves}
use Rattle.trace_views.specs.TaskRows.{TaskRow, task_row, task_rows}
use Rattle.trace_views.proofs.RowSums.{rows_count_all, taken-run}
use Rattle.trace_views.proofs.Sums.{one_if, sum-map}
use Rattle.view_laws.specs.Moves.{MovesAreCounted}
use Rattle.view_laws.specs.Totals.{table_of}
use Rattle.view_laws.proofs.Sums.{IsOfOne, sum-equal, tasks_have_all}
use Rattle.view_laws.proofs.Totals.{distinct-tasks}

-- the task that moved, by the task that was taken up
abbrev pub mover : Option ℕ → ℕ → Past → Option ℕ
mover None q past = None
mover (Some u) q past = if is_elsewhere q (last_cpu u past) then Some u else None

abbrev pub moves_of : Event → Past → Option ℕ
moves_of (Clock tick) past = None
moves_of (Acted d) past = mover (taken_up d.reply) d.cpu past

-- what is taken up is a task of the group
taken-member : (g : Group) (q t : ℕ) (a : Act) (past : Past) → IsReachable g past → is t (taken_up (answer g q a past)) ≡ true → has t (tasks g) ≡ true
taken-member g q t a past made h =
    let run : is t (to_run (answer g q a past)) ≡ true = rw (taken-run (answer g q a past)) at h in
    let l : IsLinked g q t past = linked-eligible g made q t (answer-runs_link g q t a past run) in
    l.member

moves-tells : (t : ℕ) (o : Option ℕ) (q : ℕ) (past : Past) → is t o && is_elsewhere q (last_cpu t past) ≡ is t (mover o q past)
moves-tells t None q past = refl
moves-tells t (Some u) q past = by_case (t == u) refl
  where
    same : (b : Bool) → t == u ≡ true → b ≡ is t (if b then Some u else None)
    same true e = sym e
    same false e = refl

    other : (b : Bool) → t == u ≡ false → false ≡ is t (if b then Some u else None)
    other true e = sym e
    other false e = refl

    by_case : (x : Bool) → t == u ≡ x → x && is_elsewhere q (last_cpu t past) ≡ is t (if is_elsewhere q (last_cpu u past) then Some u else None)
    by_case true e = ap (λ v. is_elsewhere q (last_cpu v past)) (eqb-true t u e) ∙ same (is_elsewhere q (last_cpu u past)) e
    by_case false e = other (is_elsewhere q (last_cpu u past)) e

moves-of_one : (g : Group) → IsOfOne g moves_now moves_of
unfolding past_act
moves-of_one g = record { tells = tells; member = member }
  where
    tells : (t : ℕ) (e : Event) (past : Past) → moves_now t e past ≡ is t (moves_of e past)
    tells t (Clock tick) past = refl
    tells t (Acted d) past = moves-tells t (taken_up d.reply) d.cpu past

    member : (t : ℕ) (past : Past) (e : Event) → IsReachable g past → IsMove g past e → moves_now t e past ≡ true → has t (tasks g) ≡ true
    member t past e made (clock_moves tick) h = cc
    member t past e made (cpu_acts q a) h = taken-member g q t a past made (both _ _ h).0

-- the tool knows each task that a set can have
begun-taken : (r : Reply) → ((t : ℕ) → is t (taken_up r) ≡ true → t ≤ MOST_TASKS) → tools.begun_by r ≡ taken_up r
begun-taken (replies.Runs t) h = rw (le-leb t.0 MOST_TASKS (h t.0 (equal_self t.0))) refl
begun-taken _ h = refl

-- the entries so far, newest first, have the positions of the past
abbrev pub HasPositions : Group → Past → List Shown → Type 0
HasPositions g past before = (t : ℕ) → has t (tasks g) ≡ true → tools.last_cpu t before ≡ last_cpu t past

elsewhere-moves : (u q : ℕ) (o : Option ℕ) → is_some (if is_elsewhere q o then Some u else None) ≡ tools.moves_from o q
elsewhere-moves u q None = refl
elsewhere-moves u q (Some p) = by_case (not (p == q))
  where
    by_case : (b : Bool) → is_some (if b then Some u else None) ≡ b
    by_case true = refl
    by_case false = refl

mover-moves : (g : Group) (o : Option ℕ) (q : ℕ) (past : Past) (before : List Shown) → ((u : ℕ) → is u o ≡ true → has u (tasks g) ≡ true) → HasPositions g past before
    → is_some (mover o q past) ≡ tools.moves_task o q before
mover-moves g None q past before known positions = refl
mover-moves g (Some u) q past before known positions =
    elsewhere-moves u q (last_cpu u past) ∙ ap (λ o. tools.moves_from o q) (sym (positions u (known u (equal_self u))))

-- one entry
pub record IsNext (g : Group) (i : ℕ) (e : Entry) (past : Past) (before : List Shown) : Type 0 where
  pub counts : count_moves (λ x b. is_some (moves_of x b)) (after g e.step past) ≡ count_moves (λ x b. is_some (moves_of x b)) past + one_if (tools.moves before (shown_as g i e (after g e.step past)))
  pub positions : HasPositions g (after g e.step past) (shown_as g i e (after g e.step past) ∷ before)
  pub made : IsReachable g (after g e.step past)
  -- it takes up no task of another group
  pub others : (t : ℕ) → has t (tasks g) ≡ false → tools.last_cpu t (shown_as g i e (after g e.step past) ∷ before) ≡ tools.last_cpu t before

pub next-entry : (g : Group) → IsValid g.setup → (i : ℕ) (e : Entry) (past : Past) (before : List Shown) → IsReachable g past → e.reply ≡ reply_to g e.step past → HasPositions g past before → IsNext g i e past before
unfolding after count_moves last_cpu past_act reply_to
next-entry g valid i e past before made legal positions = record {
  counts = join (is_some (mover (taken_up said) q clk)) (count_moves (λ x b. is_some (moves_of x b)) past) ∙ ap (λ x. count_moves (λ y b. is_some (moves_of y b)) past + one_if x) same_move;
  positions = λ t there. ap (λ o. if is t o then Some q else tools.last_cpu t before) begun ∙ ap (λ o. if is t (taken_up said) then Some q else o) (positions t there);
  made = acted q e.step.act (clocked e.step.tick.0 made);
  others = λ t out. ap (λ o. if is t o then Some q else tools.last_cpu t before) begun ∙ ap (λ b. if b then Some q else tools.last_cpu t before) (stranger t out (is t (taken_up said)) refl);
}
  where
    q : ℕ
    q = e.step.cpu.0

    clk : Past
    clk = clock_moved e.step past

    said : Reply
    said = answer g q e.step.act clk

    known : (t : ℕ) → is t (taken_up said) ≡ true → has t (tasks g) ≡ true
    known t h = taken-member g q t e.step.act clk (clocked e.step.tick.0 made) h

    stranger : (t : ℕ) → has t (tasks g) ≡ false → (b : Bool) → is t (taken_up said) ≡ b → is t (taken_up said) ≡ false
    stranger t out false h = h
    stranger t out true h = let both_ways : true ≡ false = sym (known t h) ∙ out in cc

    few : (t : ℕ) → is t (taken_up said) ≡ true → t ≤ MOST_TASKS
    few t h = omega (arith, task-numbered g t (known t h), (sets_are_in_limits g.setup valid).few_tasks)

    begun : tools.begun_by e.reply ≡ taken_up said
    begun = ap tools.begun_by legal ∙ begun-taken said few

    same_move : is_some (mover (taken_up said) q clk) ≡ tools.moves_task (tools.begun_by e.reply) q before
    same_move = mover-moves g (taken_up said) q clk before known positions ∙ ap (λ o. tools.moves_task o q before) (sym begun)

    join : (x : Bool) (n : ℕ) → (if x then n + 1 else n) ≡ n + one_if x
    join true n = refl
    join false n = omega arith

pub moves_are_shown : (g : Group) → IsValid g.setup → (i : ℕ) (past : Past) (es : List Entry) (before : List Shown) → IsReachable g past → IsLegalFrom g past es → HasPositions g past before
    → count_moves (λ x b. is_some (moves_of x b)) (past_from g past es) ≡ count_moves (λ x b. is_some (moves_of x b)) past + tools.moves_after before (shown_entries g i past es)
unfolding past_from shown_entries
moves_are_shown g valid i past [] before made legal positions = omega arith
moves_are_shown g valid i past (e ∷ es) before made legal positions =
    let now = after g e.step past in
    let next : IsNext g i e past before = next-entry g valid i e past before made legal.0 positions in
    let rest = moves_are_shown g valid (i + 1) now es (shown_as g i e now ∷ before) next.made legal.1 next.positions in
    let here = next.counts in
    omega (arith, rest, here)

-- of a group, behind entries of other groups
pub group_moves : (g : Group) → IsValid g.setup → (es : List Entry) (before : List Shown) → IsLegal g es → HasPositions g [] before
    → sum_by (λ (r : TaskRow). r.moves) (table_of g es) ≡ tools.moves_after before (shown_entries g 0 [] es)
unfolding task_rows past_of count_moves last_cpu
group_moves g valid es before legal positions =
    let made : IsReachable g (past_of g es) = histories_are_made g es in
    sum-map (λ (r : TaskRow). r.moves) (task_row g (past_of g es)) (tasks g)
    ∙ sum-equal _ (λ t. count_moves (moves_now t) (past_of g es)) (tasks g) (λ t. (rows_count_all g (past_of g es) valid made t).all_moves)
    ∙ tasks_have_all g moves_now moves_of (distinct-tasks g) (moves-of_one g) made
    ∙ moves_are_shown g valid 0 [] es before opened legal positions
    ∙ from_zero (tools.moves_after before (shown_entries g 0 [] es))
  where
    from_zero : (n : ℕ) → 0 + n ≡ n
    from_zero n = omega arith

pub moves_are_counted : MovesAreCounted
unfolding last_cpu
moves_are_counted g es valid legal = group_moves g valid es [] legal (λ t there. refl)
