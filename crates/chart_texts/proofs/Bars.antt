-- The bars of tasks and those of processors agree.
use Rattle.std.proofs.Common.{◌≡◌, ◌∙◌, ℕ, suc, zero, Bool, true, false, List, [], ◌∷◌, ◌&&◌, ◌||◌, map, reverse, refl, sym, ap, cond}
use Rattle.std.proofs.lemmas.Grind.{reverse_onto}
use Rattle.std.proofs.lemmas.List.{map-append}
use Rattle.std.proofs.lemmas.List.Elements.{All-cons, All-nil}
use Rattle.std.specs.Prelude.{Option, None, Some, All, filter, if◌then◌else◌, ◌==◌}
use Rattle.rt_rules.specs.Numbers.{has, is, numbers_from}
use Rattle.rt_rules.proofs.MemberLaws.{has-push, turned}
use Rattle.rt_model.specs.Blocking.{is_blocked}
use Rattle.rt_model.specs.Group.{Group}
use Rattle.rt_model.specs.Holders.{awaits}
use Rattle.rt_model.specs.Past.{Acted, Clock, Past, now}
use Rattle.rt_model.specs.Reachable.{IsReachable}
use Rattle.trace_views.specs.Cells.{Playing, cell_at, cell_by, cpu_cell, playing_by, running_on, task_cell, there, units_of, waiting}
use Rattle.trace_views.specs.Cells as cells
use Rattle.trace_views.specs.Columns.{Column, entry_columns, entry_columns_from, is_entry, tick_column, tick_columns}
use Rattle.trace_views.specs.Moments.{Moment, acts_among, is_unit, moments}
use Rattle.chart_texts.specs.declared.window.Axis.TheVariants.{Entries, Ticks}
use Rattle.chart_texts.specs.BarLaws.{BarsAgree, full_bar, works_for_task}
use Rattle.chart_texts.specs.Windows.{columns_on}
use Rattle.chart_texts.proofs.Units.{AtMostOne, is_by, once}

-- a unit of the task, and the processor of a unit
abbrev is_for : ℕ → Moment → Bool
is_for t m = is_unit m && is t m.act.task

abbrev cpu_of : Moment → ℕ
cpu_of m = m.act.cpu

-- one of some units is the task's
any_for : ℕ → List Moment → Bool
any_for t [] = false
any_for t (m ∷ ms) = is t m.act.task || any_for t ms

-- ---- a task's bar has a processor exactly where one of the processor's units is the task's

shared : (q t : ℕ) (ms : List Moment) → has q (map cpu_of (filter (is_for t) ms)) ≡ any_for t (filter (is_by q) ms)
unfolding any_for
shared q t [] = refl
shared q t (m ∷ ms) = by_case (is_unit m) (m.act.cpu == q) (is t m.act.task) refl refl (shared q t ms)
  where
    by_case : (b x y : Bool) → m.act.cpu == q ≡ x → is t m.act.task ≡ y → has q (map cpu_of (filter (is_for t) ms)) ≡ any_for t (filter (is_by q) ms)
        → has q (map cpu_of (cond (b && y) (m ∷ filter (is_for t) ms) (filter (is_for t) ms))) ≡ any_for t (cond (b && x) (m ∷ filter (is_by q) ms) (filter (is_by q) ms))
    by_case false x y e k h = h
    by_case true false false e k h = h
    by_case true true false e k h = rw k h
    by_case true false true e k h = rw (turned q (m.act.cpu), e) h
    by_case true true true e k h = rw (turned q (m.act.cpu), e, k) refl

has-turned : (q : ℕ) (ms : List Moment) → has q (map cpu_of (reverse ms)) ≡ has q (map cpu_of ms)
has-turned q [] = refl
has-turned q (m ∷ ms) =
    ap (λ ns. has q (map cpu_of ns)) (reverse_onto ms m []) ∙ ap (λ ns. has q ns) (map-append cpu_of (reverse ms) (m ∷ [])) ∙ has-push q (cpu_of m) (map cpu_of (reverse ms)) ∙ ap (λ b. q == cpu_of m || b) (has-turned q ms)

-- ---- the two cells of a column

task_bar : (g : Group) (t : ℕ) (c : Column) → full_bar (task_cell g t c).doing ≡ map cpu_of (units_of (λ m. is t m.act.task) c)
unfolding task_cell cell_at
task_bar g t c = by_case _ _ _ _
  where
    by_processors : (qs : List ℕ) → full_bar (there g qs) ≡ []
    by_processors [] = refl
    by_processors (q ∷ qs) = refl

    by_block : (b : Bool) (s : ℕ) → full_bar (if b then cells.blocked s else cells.waits s) ≡ []
    by_block true s = refl
    by_block false s = refl

    by_wait : (x : Past) (o : Option ℕ) → full_bar (waiting g t x o) ≡ []
    by_wait x None = refl
    by_wait x (Some s) = by_block (is_blocked g t x) s

    by_case : (ms : List Moment) (a b d : Option Past) → full_bar (cell_by g t c ms a b d).doing ≡ map cpu_of ms
    by_case (m ∷ ms) a b d = refl
    by_case [] (Some x) b d = by_wait x (awaits g t x)
    by_case [] None (Some x) d = refl
    by_case [] None None (Some x) = by_processors (running_on g t c)
    by_case [] None None None = refl

or_nothing : (b : Bool) → b ≡ b || false
or_nothing true = refl
or_nothing false = refl

cpu_bar : (g : Group) (t : ℕ) (ms : List Moment) (o : Option ℕ) → AtMostOne ms → works_for_task t (playing_by g (reverse ms) o) ≡ any_for t ms
unfolding any_for
cpu_bar g t [] None h = refl
cpu_bar g t [] (Some u) h = refl
cpu_bar g t (m ∷ []) o h = by_task m.act.task
  where
    by_task : (u : Option ℕ) → works_for_task t (playing_by g (record { act = record m.act { task = u }; before = m.before } ∷ []) o) ≡ is t u || false
    by_task None = refl
    by_task (Some u) = or_nothing (t == u)
cpu_bar g t (m ∷ n ∷ ms) o h = absurd h

abbrev Agree : Group → ℕ → ℕ → Column → Type 0
Agree g q t c = has q (full_bar (task_cell g t c).doing) ≡ works_for_task t (cpu_cell g q c).playing

agree : (g : Group) (q t : ℕ) (c : Column) → AtMostOne (filter (is_by q) c.acts) → Agree g q t c
unfolding cpu_cell
agree g q t c h =
    ap (λ qs. has q qs) (task_bar g t c) ∙ has-turned q (filter (is_for t) c.acts) ∙ shared q t c.acts ∙ sym (cpu_bar g t (filter (is_by q) c.acts) _ h)

-- ---- in each column of either axis

by_ticks : (g : Group) (past : Past) (q t : ℕ) → IsReachable g past → (i n : ℕ) → All (Agree g q t) (map (tick_column past) (numbers_from i n))
by_ticks g past q t made i zero = All-nil (Agree g q t)
by_ticks g past q t made i (suc n) = All-cons (Agree g q t) _ _ (agree g q t (tick_column past i) (once made q i)) (by_ticks g past q t made (suc i) n)

by_entries : (g : Group) (q t i first : ℕ) (ps : List Past) → All (Agree g q t) (entry_columns_from i first ps)
by_entries g q t i first [] = All-nil (Agree g q t)
by_entries g q t i first (p ∷ ps) = All-cons (Agree g q t) _ _ (agree g q t _ (alone p)) (by_entries g q t (suc i) _ ps)
  where
    by_test : (m : Moment) (b : Bool) → AtMostOne (cond b (m ∷ []) [])
    by_test m true = tt
    by_test m false = tt

    alone : (p : Past) → AtMostOne (filter (is_by q) (acts_among (p ∷ [])))
    alone [] = tt
    alone (Clock tick ∷ past) = tt
    alone (Acted d ∷ past) = by_test (record { act = d; before = past }) (is_by q (record { act = d; before = past }))

pub bars_agree_lem : BarsAgree
unfolding columns_on tick_columns entry_columns
bars_agree_lem g past valid made Ticks q t = by_ticks g past q t made 0 (suc (now past))
bars_agree_lem g past valid made Entries q t = by_entries g q t 0 0 (reverse (filter is_entry (moments past)))
