-- Rows of columns are up to the newest state of the one that goes on; and they stay as they are in a state that shows no more.
use Rattle.std.proofs.Common.{◌≡◌, ℕ, zero, suc, ◌≤◌, false, List, [], ◌∷◌, map, refl, sym, subst, arith, All}
use Rattle.rt_model.specs.Group.{Group, tasks}
use Rattle.rt_model.specs.Past.{Acted, Clock, Past, PastAct, now}
use Rattle.rt_model.specs.Reachable.{IsReachable}
use Rattle.trace_views.specs.Cells.{TaskCell}
use Rattle.chart_cells.specs.Kept.{rank}
use Rattle.chart_cells.proofs.KeptCells.{kept_cells_follow_lem}
use Rattle.chart_rows.specs.Looks.{state_doing}
use Rattle.chart_rows.specs.Rows.{RowsKept, TaskKept, rows_of, rows_seen, task_kept, task_seen}
use Rattle.chart_rows.specs.Strips.{Strip, column_of, seen}
use Rattle.chart_rows.specs.UpTo.{AreUpTo, IsUpTo, touches}
use Rattle.chart_rows.proofs.Ranks.{act-falls, clock-falls, kept-still, later-least}

all-made : {A B : Type 0} (P : B → Type 0) (f : A → B) → ((a : A) → P (f a)) → (xs : List A) → All P (map f xs)
all-made P f each [] k d low = absurd (omega arith)
all-made P f each (x ∷ xs) zero d low = each x
all-made P f each (x ∷ xs) (suc k) d low = all-made P f each xs k d (omega arith)

map-still : {A : Type 0} (P : A → Type 0) (f : A → A) → ((a : A) → P a → f a ≡ a) → (xs : List A) → All P xs → map f xs ≡ xs
map-still P f each [] all = refl
map-still P f each (x ∷ xs) all = λ i. each x (all 0 x (omega arith)) i ∷ map-still P f each xs (λ k d low. all (suc k) d (omega arith)) i

module _ (g : Group) where
  row-up-to : (ss : List Strip) (s : Strip) (x : Past) (t : ℕ) → IsUpTo g x (task_kept g ss (seen x s) t)
  row-up-to ss s x t = subst (λ (c : TaskCell). rank (state_doing g t x) ≤ rank c.doing) (sym ((kept_cells_follow_lem g t (column_of s)).states x)) (later-least g t x _)

  pub rows-up-to : (ss : List Strip) (s : Strip) (x : Past) (v : RowsKept) → v ≡ rows_of g ss (seen x s) → AreUpTo g x v
  unfolding rows_of
  rows-up-to ss s x v is = subst (λ (w : RowsKept). AreUpTo g x w) (sym is) (all-made (IsUpTo g x) (task_kept g ss (seen x s)) (row-up-to ss s x) (tasks g))

  -- ---- states that show no more

  row-still : (x : Past) (k : TaskKept) → rank (state_doing g k.task x) ≤ rank k.kept.doing → k ≡ task_seen g x k
  row-still x k h = λ i. record k { kept = kept-still g k.task x k.kept h i }

  pub row-untouched : (d : PastAct) (past : Past) (k : TaskKept) → IsReachable g (Acted d ∷ past) → IsUpTo g past k → touches d k.task ≡ false → k ≡ task_seen g (Acted d ∷ past) k
  row-untouched d past k made up h = let less = act-falls g k.task d past made h in row-still (Acted d ∷ past) k (omega arith)

  pub rows-still : (tick : ℕ) (past : Past) (v : RowsKept) → tick ≤ now past → AreUpTo g past v → v ≡ rows_seen g (Clock tick ∷ past) v
  rows-still tick past v low up = λ i. record v { tasks = sym (map-still (IsUpTo g past) (task_seen g (Clock tick ∷ past)) each v.tasks up) i }
    where
      each : (k : TaskKept) → IsUpTo g past k → task_seen g (Clock tick ∷ past) k ≡ k
      each k h = let less = clock-falls g k.task tick past low in sym (row-still (Clock tick ∷ past) k (omega arith))
