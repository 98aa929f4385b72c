-- A past that goes on from an earlier one: what it has up to a clock before which it went on stays.
use Rattle.std.proofs.Common.{◌≡◌, ◌∙◌, ℕ, zero, suc, ◌+◌, ◌-◌, ◌<◌, ◌≤◌, min, Bool, true, false, List, [], ◌∷◌, ◌++◌, refl, sym, ap, subst, arith, append-nil, append_assoc}
use Rattle.std.specs.Prelude.{nat_le, nat_lt, if◌then◌else◌, ◌&&◌}
use Rattle.std.proofs.lemmas.Bool.Decides.{nat_tests}
use Rattle.rt_rules.specs.declared.history.Entry.{Entry}
use Rattle.rt_task.specs.declared.Kind.{Kind}
use Rattle.rt_task.specs.declared.Kind.TheVariants.{Periodic, Sporadic}
use Rattle.rt_task.specs.declared.Task.{Task}
use Rattle.rt_model.specs.Group.{Group}
use Rattle.rt_model.specs.Histories.{after, clock_moved, past_from}
use Rattle.rt_model.specs.Outcomes.{past_act}
use Rattle.rt_model.specs.Past.{Acted, Clock, Past, PastAct, accepted, ends_job, now}
use Rattle.rt_model.specs.Releases.{arrivals, arrives}
use Rattle.rt_model.proofs.Steps.{after-acted}
use Rattle.chart_rows.proofs.TickLaws.{strip-earlier}
use Rattle.chart_rows.specs.Strips.{Strip}
use Rattle.trace_views.specs.Columns.{Column, tick_column}
use Rattle.chart_feed.specs.Finished.{EndsInAct}
use Rattle.chart_feed.specs.Times.{Edges, due_in, end_clocks, marks_in, released_before_in, released_in, up_to}
use Rattle.chart_feed.specs.WindowStrips.{entries_of, tick_strip}
use Rattle.chart_feed.proofs.Entries.{entries-acted, entries-clocked}
use Rattle.chart_feed.proofs.MarkLaws.{one_if, up_to-snoc}

-- ---- steps go on from a past, and end in an act

pub ends-on : (g : Group) (past : Past) (es : List Entry) → EndsInAct past → EndsInAct (past_from g past es)
unfolding past_from
ends-on g past [] whole = whole
ends-on g past (e ∷ es) whole = ends-on g (after g e.step past) es (subst EndsInAct (sym (after-acted g e.step past)) tt)

pub later-of : (g : Group) (early : Past) (es : List Entry) → (later : Past) × (past_from g early es ≡ later ++ early)
unfolding past_from
later-of g early [] = ([], refl)
later-of g early (e ∷ es) =
    let d : PastAct = past_act g e.step.cpu.0 e.step.act (clock_moved e.step early) in
    let rest = later-of g (after g e.step early) es in (
      rest.0 ++ Acted d ∷ Clock e.step.tick.0 ∷ [],
      rest.1 ∙ ap (λ (p : Past). rest.0 ++ p) (after-acted g e.step early) ∙ sym (append_assoc rest.0 (Acted d ∷ Clock e.step.tick.0 ∷ []) early),
    )

-- ---- the clock, and what there is before it

pub now-later : (later early : Past) → now early ≤ now (later ++ early)
now-later [] early = omega arith
now-later (Clock tick ∷ later) early = omega (arith, now-later later early)
now-later (Acted d ∷ later) early = now-later later early

strip-later : (later early : Past) (t : ℕ) → t < now early → tick_strip (later ++ early) t ≡ tick_strip early t
strip-later [] early t h = refl
strip-later (e ∷ later) early t h = strip-earlier e (later ++ early) t (omega (arith, h, now-later (e ∷ later) early)) ∙ strip-later later early t h

abbrev column_with : ℕ → Strip → Column
column_with t s = record { label = t; first = t; high = t; next = suc t; states = s.states; acts = s.acts }

pub tick-later : (later early : Past) (t : ℕ) → t < now early → tick_column (later ++ early) t ≡ tick_column early t
tick-later later early t h = ap (column_with t) (strip-later later early t h)

pub entries-later : (later early : Past) → (more : List Past) × (entries_of (later ++ early) ≡ entries_of early ++ more)
entries-later [] early = ([], sym (append-nil (entries_of early)))
entries-later (Clock tick ∷ later) early = let rest = entries-later later early in (rest.0, entries-clocked tick (later ++ early) ∙ rest.1)
entries-later (Acted d ∷ later) early =
    let rest = entries-later later early in
    let x : Past = Acted d ∷ (later ++ early) in (
      rest.0 ++ x ∷ [],
      entries-acted d (later ++ early) ∙ ap (λ (xs : List Past). xs ++ x ∷ []) rest.1 ∙ append_assoc (entries_of early) rest.0 (x ∷ []),
    )

-- ---- arrivals and ends of jobs

module _ (t x : ℕ) (early : Past) (low : x < now early) where
  up_to-more : (b : Bool) (later : Past) (clocks old : List ℕ) → up_to x clocks ≡ up_to x old → up_to x (if b then (clocks ++ now (later ++ early) ∷ []) else clocks) ≡ up_to x old
  up_to-more true later clocks old h =
      let no : nat_le (now (later ++ early)) x ≡ false = grind (arith, nat_tests, low, now-later later early) in
      omega (arith, up_to-snoc x clocks (now (later ++ early)), ap one_if no, h)
  up_to-more false later clocks old h = h

  arrivals-later : (later : Past) → up_to x (arrivals t (later ++ early)) ≡ up_to x (arrivals t early)
  unfolding arrivals
  arrivals-later [] = refl
  arrivals-later (Clock tick ∷ later) = arrivals-later later
  arrivals-later (Acted d ∷ later) = up_to-more (arrives t d.act && accepted d.reply) later (arrivals t (later ++ early)) (arrivals t early) (arrivals-later later)

  pub ends-later : (later : Past) → up_to x (end_clocks t (later ++ early)) ≡ up_to x (end_clocks t early)
  unfolding end_clocks
  ends-later [] = refl
  ends-later (e ∷ later) = up_to-more (ends_job t e) later (end_clocks t (later ++ early)) (end_clocks t early) (ends-later later)

-- ---- the marks in a column whose clocks are over

pub record AreOver (clock : ℕ) (e : Edges) : Type 0 where
  pub first : e.first ≤ clock
  pub high : e.high < clock
  pub next : e.next ≤ clock

module _ (task : Task) (t : ℕ) (later early : Past) where
  released-later : (kind : Kind) (x : ℕ) → x < now early → released_in kind task (arrivals t (later ++ early)) x ≡ released_in kind task (arrivals t early) x
  released-later Periodic x low = refl
  released-later Sporadic x low = arrivals-later t x early low later

  before-later : (x : ℕ) → x ≤ now early → released_before_in task (arrivals t (later ++ early)) x ≡ released_before_in task (arrivals t early) x
  before-later zero low = refl
  before-later (suc x) low = released-later task.kind x (omega (arith, low))

  due-later : (x : ℕ) → x ≤ now early → due_in task (arrivals t (later ++ early)) (now (later ++ early)) x ≡ due_in task (arrivals t early) (now early) x
  due-later x low = by_case (nat_lt task.rel_deadline x) refl
    where
      by_case : (b : Bool) → nat_lt task.rel_deadline x ≡ b
          → (if b then released_in task.kind task (arrivals t (later ++ early)) (min (x - (task.rel_deadline + 1)) (now (later ++ early))) else 0)
          ≡ (if b then released_in task.kind task (arrivals t early) (min (x - (task.rel_deadline + 1)) (now early)) else 0)
      by_case true h =
          let high : task.rel_deadline < x = grind (arith, nat_tests, h) in
          let past : min (x - (task.rel_deadline + 1)) (now (later ++ early)) ≡ x - (task.rel_deadline + 1) = omega (arith, low, high, now-later later early) in
          let was : min (x - (task.rel_deadline + 1)) (now early) ≡ x - (task.rel_deadline + 1) = omega (arith, low, high) in
          ap (released_in task.kind task (arrivals t (later ++ early))) past ∙ released-later task.kind (x - (task.rel_deadline + 1)) (omega (arith, low, high))
          ∙ sym (ap (released_in task.kind task (arrivals t early)) was)
      by_case false h = refl

  pub marks-later : (e : Edges) (end : Bool) → AreOver (now early) e
      → marks_in task (arrivals t (later ++ early)) (end_clocks t (later ++ early)) (now (later ++ early)) e end ≡ marks_in task (arrivals t early) (end_clocks t early) (now early) e end
  marks-later e end over =
      let yes : nat_le e.next (now (later ++ early)) ≡ true = grind (arith, nat_tests, over.next, now-later later early) in
      let was : nat_le e.next (now early) ≡ true = grind (arith, nat_tests, over.next) in
      let begun = yes ∙ sym was in
      let ends = ends-later t e.high early over.high later in
      let before = due-later e.high (omega (arith, over.high)) in
      let due = due-later e.next over.next in
      λ i. record {
        release = nat_lt (before-later e.first over.first i) (released-later task.kind e.high over.high i);
        deadline = nat_lt (before i) (due i);
        missed = nat_lt (before i) (due i) && (nat_lt (ends i) (due i) && begun i);
        end = end;
      }
