-- The moves of all groups of a set: no entry of one group takes up a task of another.
use Rattle.std.proofs.Common.{◌≡◌, ◌∙◌, ℕ, ◌+◌, ◌≤◌, Bool, true, false, List, [], ◌∷◌, ◌++◌, ◌&&◌, refl, sym, ap, arith, eqb-true, subst}
use Rattle.std.specs.Prelude.{Option, None, Some, if◌then◌else◌, ◌==◌}
use Rattle.rt_task.specs.Validity.{IsValid}
use Rattle.rt_task.specs.declared.Parts.{Parts}
use Rattle.rt_rules.specs.declared.history.Entry.{Entry}
use Rattle.rt_rules.specs.Numbers.{has, is, numbers_from}
use Rattle.rt_rules.proofs.BoolLaws.{both}
use Rattle.rt_rules.proofs.MemberLaws.{has-filter}
use Rattle.rt_model.specs.Group.{Group, cluster, home, in_group, task, tasks}
use Rattle.rt_model.specs.Histories.{IsLegalFrom, after}
use Rattle.rt_model.specs.Past.{Past}
use Rattle.rt_model.specs.Reachable.{IsReachable, opened}
use Rattle.rt_plays.specs.Plays.{group_with}
use Rattle.trace_text.specs.CountLines.{shown_as, shown_entries, shown_from}
use Rattle.trace_tools.specs.Entries.{last_cpu, moves, moves_after}
use Rattle.trace_tools.specs.declared.shown.Shown.{Shown}
use Rattle.trace_views.specs.JobCounts as counts
use Rattle.trace_views.specs.TaskRows.{TaskRow}
use Rattle.view_laws.specs.Sets.{total_of}
use Rattle.view_laws.specs.Totals.{table_of}
use Rattle.view_laws.proofs.Legal.{AreLegal}
use Rattle.view_laws.proofs.Moves.{HasPositions, group_moves, next-entry}

-- the entries so far, newest first, once these have been shown too
abbrev pub shown_behind : List Shown → List Shown → List Shown
shown_behind before [] = before
shown_behind before (e ∷ es) = shown_behind (e ∷ before) es

pub moves-append : (before xs ys : List Shown) → moves_after before (xs ++ ys) ≡ moves_after before xs + moves_after (shown_behind before xs) ys
moves-append before [] ys = omega arith
moves-append before (x ∷ xs) ys = omega (arith, moves-append (x ∷ before) xs ys)

-- a task has one group
group-of_task : (g : Group) (t : ℕ) → has t (tasks g) ≡ true → in_group g (home g t) ≡ true
unfolding tasks
group-of_task g t h = (both (has t (numbers_from 1 _)) (in_group g (home g t)) (sym (has-filter (λ u. in_group g (home g u)) t (numbers_from 1 _)) ∙ h)).1

one-group : (p : Parts) (m n t : ℕ) → has t (tasks (group_with p m)) ≡ true → has t (tasks (group_with p n)) ≡ true → m ≡ n
unfolding in_group home task cluster
one-group p m n t h k = sym (eqb-true _ m (group-of_task (group_with p m) t h)) ∙ eqb-true _ n (group-of_task (group_with p n) t k)

other-group : (p : Parts) (m n t : ℕ) → n + 1 ≤ m → has t (tasks (group_with p m)) ≡ true → has t (tasks (group_with p n)) ≡ false
other-group p m n t above h = by_case (has t (tasks (group_with p n))) refl
  where
    by_case : (b : Bool) → has t (tasks (group_with p n)) ≡ b → has t (tasks (group_with p n)) ≡ false
    by_case false k = k
    by_case true k = absurd (omega (arith, one-group p m n t h k, above))

-- the entries of a group leave the positions of all other tasks
others-stay :
    (g : Group) → IsValid g.setup → (i : ℕ) (past : Past) (es : List Entry) (before : List Shown) → IsReachable g past → IsLegalFrom g past es → HasPositions g past before
    → (t : ℕ) → has t (tasks g) ≡ false → last_cpu t (shown_behind before (shown_entries g i past es)) ≡ last_cpu t before
unfolding shown_entries
others-stay g valid i past [] before made legal positions t out = refl
others-stay g valid i past (e ∷ es) before made legal positions t out =
    let now = after g e.step past in
    let next = next-entry g valid i e past before made legal.0 positions in
    others-stay g valid (i + 1) now es (shown_as g i e now ∷ before) next.made legal.1 next.positions t out ∙ next.others t out

-- no task of the groups from one on was taken up yet
abbrev AreNew : Parts → ℕ → List Shown → Type 0
AreNew p n before = (m t : ℕ) → n ≤ m → has t (tasks (group_with p m)) ≡ true → last_cpu t before ≡ None

moves-from : (p : Parts) → IsValid p → (n : ℕ) (hs : List (List Entry)) (before : List Shown) → AreLegal p n hs → AreNew p n before
    → moves_after before (shown_from p n hs) ≡ total_of (λ (r : TaskRow). r.moves) p n hs
unfolding counts.last_cpu
moves-from p valid n [] before legal new = refl
moves-from p valid n (es ∷ hs) before legal new =
    let g = group_with p n in
    let positions : HasPositions g [] before = λ t there. new n t (omega arith) there in
    let shown = shown_entries g 0 [] es in
    let later : AreNew p (n + 1) (shown_behind before shown) = λ m t above there.
    others-stay g valid 0 [] es before opened legal.0 positions t (other-group p m n t above there) ∙ new m t (omega (arith, above)) there in
    let here = group_moves g valid es before legal.0 positions in
    let rest = moves-from p valid (n + 1) hs (shown_behind before shown) legal.1 later in
    moves-append before shown (shown_from p (n + 1) hs) ∙ omega (arith, here, rest)

pub set-moves : (p : Parts) → IsValid p → (hs : List (List Entry)) → AreLegal p 0 hs → moves_after [] (shown_from p 0 hs) ≡ total_of (λ (r : TaskRow). r.moves) p 0 hs
set-moves p valid hs legal = moves-from p valid 0 hs [] legal (λ m t above there. refl)
