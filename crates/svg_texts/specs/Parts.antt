-- The parts of cells that lanes show, and which of them are equal.
use Rattle.std.specs.Prelude.{ℕ, Bool, true, false, ◌&&◌, ◌==◌, List, [], ◌∷◌, Option}
use Rattle.rt_rules.specs.Numbers.{same}
use Rattle.trace_views.specs.Cells.{Doing, Playing}
use Rattle.trace_views.specs.Cells as cells

-- of a task what it does with which job, what it holds, whether it is in a non-preemptive section, and whether its key is raised; of a
-- processor what it plays, and its link; and what is left of a reservation
pub data Part : Type 0 where
  job : Doing → ℕ → Part
  held : List ℕ → Part
  section : Bool → Part
  raised : Bool → Part
  playing : Playing → Part
  link : Option ℕ → Part
  left : ℕ → Part

abbrev pub same_list : List ℕ → List ℕ → Bool
same_list [] [] = true
same_list [] (y ∷ ys) = false
same_list (x ∷ xs) [] = false
same_list (x ∷ xs) (y ∷ ys) = x == y && same_list xs ys

abbrev pub same_bool : Bool → Bool → Bool
same_bool true b = b
same_bool false true = false
same_bool false false = true

abbrev pub same_doing : Doing → Doing → Bool
same_doing (cells.works qs) (cells.works rs) = same_list qs rs
same_doing (cells.running qs) (cells.running rs) = same_list qs rs
same_doing (cells.waits s) (cells.waits r) = s == r
same_doing (cells.blocked s) (cells.blocked r) = s == r
same_doing cells.sleeping cells.sleeping = true
same_doing cells.ready cells.ready = true
same_doing cells.away cells.away = true
same_doing _ _ = false

abbrev pub same_playing : Playing → Playing → Bool
same_playing (cells.works_for t) (cells.works_for u) = t == u
same_playing (cells.runs_task t) (cells.runs_task u) = t == u
same_playing cells.idle cells.idle = true
same_playing _ _ = false

unfoldable pub same_part : Part → Part → Bool
same_part (job a i) (job b k) = same_doing a b && i == k
same_part (held ss) (held rs) = same_list ss rs
same_part (section a) (section b) = same_bool a b
same_part (raised a) (raised b) = same_bool a b
same_part (playing a) (playing b) = same_playing a b
same_part (link a) (link b) = same a b
same_part (left m) (left n) = m == n
same_part _ _ = false
