-- What is kept of a column follows its states and acts, and in the end is the task's cell.
use Rattle.std.proofs.Common.{◌≡◌, ◌∙◌, ℕ, Bool, true, false, List, [], ◌∷◌, ◌++◌, ◌&&◌, map, reverse, refl, sym, ap, cond, subst}
use Rattle.std.proofs.lemmas.Grind.{reverse_onto}
use Rattle.std.proofs.lemmas.List.{map-append}
use Rattle.std.specs.Prelude.{⊤, Option, None, Some, filter, find, is_some, nat_lt, unwrap_or, if◌then◌else◌}
use Rattle.rt_rules.specs.Numbers.{is}
use Rattle.rt_model.specs.Blocking.{is_blocked}
use Rattle.rt_model.specs.Group.{Group}
use Rattle.rt_model.specs.Holders.{awaits}
use Rattle.rt_model.specs.Past.{Past}
use Rattle.rt_model.specs.Releases.{exists}
use Rattle.rt_model.specs.Sleep.{sleeps}
use Rattle.trace_views.specs.Cells.{Doing, TaskCell, cell_at, cell_away, cell_by, running_on, task_cell, there, units_of, waiting}
use Rattle.trace_views.specs.Cells as cells
use Rattle.trace_views.specs.Columns.{Column}
use Rattle.trace_views.specs.Moments.{Moment, first_where, is_unit}
use Rattle.chart_cells.specs.Kept.{cell_of_states, finished, kept_cell, later, rank, seen_as, with_unit, with_units}
use Rattle.chart_cells.specs.KeptLaws.{KeptCellsFollow, with_act}

-- ---- the first of some states that passes

abbrev earliest : Option Past → Option Past → Option Past
earliest None o = o
earliest (Some x) o = Some x

abbrev some_if : Bool → Past → Option Past
some_if b x = if b then Some x else None

find-pushed : (test : Past → Bool) (ps : List Past) (x : Past) → find test (ps ++ x ∷ []) ≡ earliest (find test ps) (some_if (test x) x)
find-pushed test [] x = by_case (test x)
  where
    by_case : (b : Bool) → cond b (Some x) None ≡ some_if b x
    by_case true = refl
    by_case false = refl
find-pushed test (p ∷ ps) x = by_case (test p) (find-pushed test ps x)
  where
    by_case : (b : Bool) → find test (ps ++ x ∷ []) ≡ earliest (find test ps) (some_if (test x) x) → cond b (Some p) (find test (ps ++ x ∷ [])) ≡ earliest (cond b (Some p) (find test ps)) (some_if (test x) x)
    by_case true h = refl
    by_case false h = h

first-step : (test : Past → Bool) (x : Past) (ps : List Past) → first_where test (x ∷ ps) ≡ earliest (first_where test ps) (some_if (test x) x)
first-step test x ps = ap (λ qs. find test qs) (reverse_onto ps x []) ∙ find-pushed test (reverse ps) x

found : (test : Past → Bool) (ps : List Past) (y : Past) → find test ps ≡ Some y → test y ≡ true
found test [] y h = cc
found test (p ∷ ps) y h = by_case (test p) refl h (found test ps y)
  where
    by_case : (b : Bool) → test p ≡ b → cond b (Some p) (find test ps) ≡ Some y → (find test ps ≡ Some y → test y ≡ true) → test y ≡ true
    by_case true e k later_ones = subst (λ z. test z ≡ true) (ap (λ o. unwrap_or o p) k) e
    by_case false e k later_ones = later_ones k

-- ---- states

module _ (g : Group) (t : ℕ) where
  -- what the first states that wait, sleep and are there come to
  abbrev summary : Option Past → Option Past → Option Past → TaskCell
  summary (Some x) b c = cell_at g (waiting g t x (awaits g t x)) t x
  summary None (Some x) c = cell_at g cells.sleeping t x
  summary None None (Some x) = cell_at g cells.ready t x
  summary None None None = cell_away g

  -- the same where the group's processors of a column run the task
  abbrev summary_there : List ℕ → Option Past → Option Past → Option Past → TaskCell
  summary_there qs (Some x) b c = cell_at g (waiting g t x (awaits g t x)) t x
  summary_there qs None (Some x) c = cell_at g cells.sleeping t x
  summary_there qs None None (Some x) = cell_at g (there g qs) t x
  summary_there qs None None None = cell_away g

  abbrev seen_by : Past → Option ℕ → Bool → Bool → TaskCell
  seen_by x (Some s) b c = cell_at g (waiting g t x (Some s)) t x
  seen_by x None b c = if b then cell_at g cells.sleeping t x else (if c then cell_at g cells.ready t x else cell_away g)

  rank-waiting : (x : Past) (s : ℕ) → rank (waiting g t x (Some s)) ≡ 3
  rank-waiting x s = by_case (is_blocked g t x)
    where
      by_case : (b : Bool) → rank (if b then cells.blocked s else cells.waits s) ≡ 3
      by_case true = refl
      by_case false = refl

  -- no state alone shows more than a wait
  no_more : (x : Past) (o : Option ℕ) (b c : Bool) → nat_lt 3 (rank (seen_by x o b c).doing) ≡ false
  unfolding cell_at
  no_more x (Some s) b c = rw (rank-waiting x s) refl
  no_more x None true c = refl
  no_more x None false true = refl
  no_more x None false false = refl

  -- a state more; the first that waits does wait
  one_more : (x : Past) (a b c : Option Past) (o : Option ℕ) (sl ex : Bool) → awaits g t x ≡ o
      → ((y : Past) → a ≡ Some y → is_some (awaits g t y) ≡ true)
      → later (summary a b c) (seen_by x o sl ex) ≡ summary (earliest a (some_if (is_some o) x)) (earliest b (some_if sl x)) (earliest c (some_if ex x))
  unfolding cell_at
  one_more x (Some y) b c o sl ex e waits = by_wait (awaits g t y) refl (waits y refl)
    where
      by_wait : (w : Option ℕ) → awaits g t y ≡ w → is_some w ≡ true → later (cell_at g (waiting g t y w) t y) (seen_by x o sl ex) ≡ cell_at g (waiting g t y w) t y
      by_wait None k m = cc
      by_wait (Some s) k m = rw (rank-waiting y s, no_more x o sl ex) refl
  one_more x None b c (Some s) sl ex e waits = by_rank b c
    where
      by_rank : (b c : Option Past) → later (summary None b c) (cell_at g (waiting g t x (Some s)) t x) ≡ cell_at g (waiting g t x (awaits g t x)) t x
      by_rank (Some y) c = rw (rank-waiting x s, e) refl
      by_rank None (Some y) = rw (rank-waiting x s, e) refl
      by_rank None None = rw (rank-waiting x s, e) refl
  one_more x None (Some y) c None true ex e waits = refl
  one_more x None (Some y) c None false true e waits = refl
  one_more x None (Some y) c None false false e waits = refl
  one_more x None None (Some y) None true ex e waits = refl
  one_more x None None None None true ex e waits = refl
  one_more x None None (Some y) None false true e waits = refl
  one_more x None None None None false true e waits = refl
  one_more x None None (Some y) None false false e waits = refl
  one_more x None None None None false false e waits = refl

  abbrev firsts : List Past → TaskCell
  firsts ps = summary (first_where (λ x. is_some (awaits g t x)) ps) (first_where (λ x. sleeps t x) ps) (first_where (λ x. exists g t x) ps)

  seen-by : (x : Past) (o : Option ℕ) → seen_as g t x o ≡ seen_by x o (sleeps t x) (exists g t x)
  seen-by x (Some s) = refl
  seen-by x None = refl

  states-firsts : (ps : List Past) → cell_of_states g t ps ≡ firsts ps
  unfolding cell_of_states
  states-firsts [] = refl
  states-firsts (x ∷ ps) =
      ap (λ k. later k (seen_as g t x (awaits g t x))) (states-firsts ps)
      ∙ ap (λ k. later (firsts ps) k) (seen-by x (awaits g t x))
      ∙ one_more x _ _ _ (awaits g t x) (sleeps t x) (exists g t x) refl (λ y. found (λ z. is_some (awaits g t z)) (reverse ps) y)
      ∙ sym (ap (λ a. summary a (first_where (λ z. sleeps t z) (x ∷ ps)) (first_where (λ z. exists g t z) (x ∷ ps))) (first-step (λ z. is_some (awaits g t z)) x ps)
      ∙ ap (λ b. summary (earliest (first_where (λ z. is_some (awaits g t z)) ps) (some_if (is_some (awaits g t x)) x)) b (first_where (λ z. exists g t z) (x ∷ ps))) (first-step (λ z. sleeps t z) x ps)
      ∙ ap (λ c. summary (earliest (first_where (λ z. is_some (awaits g t z)) ps) (some_if (is_some (awaits g t x)) x)) (earliest (first_where (λ z. sleeps t z) ps) (some_if (sleeps t x) x)) c) (first-step (λ z. exists g t z) x ps))

  -- ---- units

  abbrev cpu_of : Moment → ℕ
  cpu_of m = m.act.cpu

  -- what states show is no work
  abbrev IsNoWork : Doing → Type 0
  IsNoWork (cells.works qs) = ⊥
  IsNoWork _ = ⊤

  waiting-no_work : (x : Past) (o : Option ℕ) → IsNoWork (waiting g t x o)
  waiting-no_work x None = tt
  waiting-no_work x (Some s) = by_case (is_blocked g t x)
    where
      by_case : (b : Bool) → IsNoWork (if b then cells.blocked s else cells.waits s)
      by_case true = tt
      by_case false = tt

  summary-no_work : (a b c : Option Past) → IsNoWork (summary a b c).doing
  unfolding cell_at
  summary-no_work (Some x) b c = waiting-no_work x (awaits g t x)
  summary-no_work None (Some x) c = tt
  summary-no_work None None (Some x) = tt
  summary-no_work None None None = tt

  -- a unit more, after those so far
  first_unit : (m : Moment) (k : TaskCell) → IsNoWork k.doing → cell_at g (cells.works (m.act.cpu ∷ [])) t m.before ≡ with_unit m.act.cpu (cell_at g cells.ready t m.before) k
  unfolding cell_at
  first_unit m k h = by_doing k.doing h
    where
      by_doing : (d : Doing) → IsNoWork d → cell_at g (cells.works (m.act.cpu ∷ [])) t m.before ≡ with_unit m.act.cpu (cell_at g cells.ready t m.before) (record k { doing = d })
      by_doing (cells.works qs) free = absurd free
      by_doing (cells.blocked s) free = refl
      by_doing (cells.waits s) free = refl
      by_doing cells.sleeping free = refl
      by_doing (cells.running qs) free = refl
      by_doing cells.ready free = refl
      by_doing cells.away free = refl

  unit-pushed : (us : List Moment) (m : Moment) (k : TaskCell) → IsNoWork k.doing → with_units g t (us ++ m ∷ []) k ≡ with_unit m.act.cpu (cell_at g cells.ready t m.before) (with_units g t us k)
  unfolding cell_at
  unit-pushed [] m k h = first_unit m k h
  unit-pushed (u ∷ us) m k h = ap (λ qs. cell_at g (cells.works (u.act.cpu ∷ qs)) t u.before) (map-append cpu_of us (m ∷ []))

  -- no state shows more than work
  no_more_than_work : (x : Past) (o : Option ℕ) → nat_lt 4 (rank (seen_as g t x o).doing) ≡ false
  unfolding cell_at
  no_more_than_work x (Some s) = rw (rank-waiting x s) refl
  no_more_than_work x None = by_case (sleeps t x) (exists g t x)
    where
      by_case : (b c : Bool) → nat_lt 4 (rank (if b then cell_at g cells.sleeping t x else (if c then cell_at g cells.ready t x else cell_away g)).doing) ≡ false
      by_case true c = refl
      by_case false true = refl
      by_case false false = refl

  state-pushed : (us : List Moment) (k : TaskCell) (x : Past) (o : Option ℕ) → with_units g t us (later k (seen_as g t x o)) ≡ later (with_units g t us k) (seen_as g t x o)
  unfolding cell_at
  state-pushed [] k x o = refl
  state-pushed (u ∷ us) k x o = sym (rw (no_more_than_work x o) refl)

  -- ---- the end of a column

  waited-ends : (qs : List ℕ) (x : Past) (s : ℕ) → cell_at g (waiting g t x (Some s)) t x ≡ finished qs (cell_at g (waiting g t x (Some s)) t x)
  unfolding cell_at
  waited-ends [] x s = refl
  waited-ends (q ∷ qs) x s = by_case (is_blocked g t x)
    where
      by_case : (b : Bool) → cell_at g (if b then cells.blocked s else cells.waits s) t x ≡ finished (q ∷ qs) (cell_at g (if b then cells.blocked s else cells.waits s) t x)
      by_case true = refl
      by_case false = refl

  by_states : (qs : List ℕ) (a b d : Option Past) → ((y : Past) → a ≡ Some y → is_some (awaits g t y) ≡ true)
      → summary_there qs a b d ≡ finished qs (summary a b d)
  unfolding cell_at
  by_states qs (Some x) b d waits = by_wait (awaits g t x) (waits x refl)
    where
      by_wait : (o : Option ℕ) → is_some o ≡ true → cell_at g (waiting g t x o) t x ≡ finished qs (cell_at g (waiting g t x o) t x)
      by_wait None m = cc
      by_wait (Some s) m = waited-ends qs x s
  by_states [] None (Some x) d waits = refl
  by_states (q ∷ qs) None (Some x) d waits = refl
  by_states [] None None (Some x) waits = refl
  by_states (q ∷ qs) None None (Some x) waits = refl
  by_states [] None None None waits = refl
  by_states (q ∷ qs) None None None waits = refl

abbrev waits_at : (g : Group) → ℕ → Past → Bool
waits_at g t x = is_some (awaits g t x)

ended : (g : Group) (t : ℕ) (c : Column) (us : List Moment) → cell_by g t c us (first_where (waits_at g t) c.states) (first_where (λ x. sleeps t x) c.states) (first_where (λ x. exists g t x) c.states)
    ≡ finished (running_on g t c) (with_units g t us (firsts g t c.states))
unfolding cell_at
ended g t c [] = by_options _ _ _ (λ y. found (waits_at g t) (reverse c.states) y)
  where
    by_options : (a b d : Option Past) → ((y : Past) → a ≡ Some y → is_some (awaits g t y) ≡ true) → cell_by g t c [] a b d ≡ finished (running_on g t c) (summary g t a b d)
    by_options (Some x) b d waits = by_states g t (running_on g t c) (Some x) b d waits
    by_options None (Some x) d waits = by_states g t (running_on g t c) None (Some x) d waits
    by_options None None (Some x) waits = by_states g t (running_on g t c) None None (Some x) waits
    by_options None None None waits = by_states g t (running_on g t c) None None None waits
ended g t c (u ∷ us) = by_running (running_on g t c)
  where
    by_running : (qs : List ℕ) → cell_at g (cells.works (map (λ (m : Moment). m.act.cpu) (u ∷ us))) t u.before ≡ finished qs (cell_at g (cells.works (map (λ (m : Moment). m.act.cpu) (u ∷ us))) t u.before)
    by_running [] = refl
    by_running (q ∷ qs) = refl

-- ---- a column

abbrev fits : ℕ → Moment → Bool
fits t m = is_unit m && is t m.act.task

units-kept : (t : ℕ) (c : Column) (m : Moment) (b : Bool) → fits t m ≡ b → units_of (λ m. is t m.act.task) (with_act m c) ≡ (if b then (units_of (λ m. is t m.act.task) c ++ m ∷ []) else units_of (λ m. is t m.act.task) c)
units-kept t c m true h = rw h (reverse_onto (filter (fits t) c.acts) m [])
units-kept t c m false h = rw h refl

no_work : (g : Group) (t : ℕ) (ps : List Past) → IsNoWork g t (cell_of_states g t ps).doing
no_work g t ps = subst (λ (k : TaskCell). IsNoWork g t k.doing) (sym (states-firsts g t ps)) (summary-no_work g t _ _ _)

pub kept_cells_follow_lem : KeptCellsFollow
unfolding kept_cell cell_of_states task_cell
kept_cells_follow_lem g t c = record {
  states = λ x. state-pushed g t (units_of (λ m. is t m.act.task) c) (cell_of_states g t c.states) x (awaits g t x);
  units = λ m h. ap (λ us. with_units g t us (cell_of_states g t c.states)) (units-kept t c m true h) ∙ unit-pushed g t (units_of (λ m. is t m.act.task) c) m (cell_of_states g t c.states) (no_work g t c.states);
  others = λ m h. ap (λ us. with_units g t us (cell_of_states g t c.states)) (units-kept t c m false h);
  ends = ended g t c (units_of (λ m. is t m.act.task) c) ∙ ap (λ k. finished (running_on g t c) (with_units g t (units_of (λ m. is t m.act.task) c) k)) (sym (states-firsts g t c.states));
}
