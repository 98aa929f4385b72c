-- The events of a group, where its numbers are small and its names need no escapes.
use Rattle.std.proofs.Common.{◌≡◌, ℕ, zero, suc, ◌+◌, ◌-◌, ◌*◌, ◌^◌, ◌<◌, ◌≤◌, max, Bool, true, false, List, [], ◌∷◌, ◌++◌, length, map, refl, sym, ap, ap₂, ◌∙◌, arith, leb-true, cond, subst, append_assoc}
use Rattle.std.specs.Prelude.{Option, None, Some, codes, decimal, filter, filter_map, find, flat_map, is_some, nat_le, reverse, take, if◌then◌else◌, ⊤}
use Rattle.std.specs.List.{concat, join_with_byte}
use Rattle.json.specs.Print.{escape_byte}
use Rattle.rt_base.specs.declared.TheConstants.{TICK_END}
use Rattle.rt_rules.specs.Numbers.{numbers_from}
use Rattle.rt_model.specs.Blocking.{is_blocked}
use Rattle.rt_model.specs.Group.{Group, group_processors, resv, sem, task, tasks}
use Rattle.rt_model.specs.Holders.{awaits}
use Rattle.rt_model.specs.Jobs.{done}
use Rattle.rt_model.specs.Past.{Acted, Clock, Past, PastAct, now}
use Rattle.rt_model.specs.Releases.{exists}
use Rattle.rt_model.specs.Reservations.{left}
use Rattle.rt_model.specs.Sleep.{sleeps}
use Rattle.trace_views.specs.Cells.{CpuCell, Doing, Playing, TaskCell, before_first, cell_at, cell_by, cpu_cell, newest, resv_cell, running_on, task_cell, there, units_of, waiting}
use Rattle.trace_views.specs.Cells as cells
use Rattle.trace_views.specs.Columns.{Column, tick_column, tick_columns}
use Rattle.trace_views.specs.JobMoves.{Test, clock_if, in_job, last_clock, or_else}
use Rattle.trace_views.specs.JobRows.{listed}
use Rattle.trace_views.specs.JobTimes.{deadline_of, end, ends_now, release_of}
use Rattle.trace_views.specs.Marks.{is_missed}
use Rattle.trace_views.specs.Moments.{Moment, act_of, acts_among, at_tick, first_where, is_unit, moments, own}
use Rattle.trace_views.specs.Spans.{Span, spans}
use Rattle.chart_texts.specs.Charts.{group_resvs}
use Rattle.serde_json.specs.Data.{boolean, members_depth}
use Rattle.serde_json.specs.Written.{compact_text, members_text}
use Rattle.event_texts.specs.Budgets.{budget_counts, same_count}
use Rattle.event_texts.specs.CpuSpans as cpus
use Rattle.event_texts.specs.CpuSpans.{cpu_spans, link_argument}
use Rattle.event_texts.specs.EventText as text
use Rattle.event_texts.specs.EventText.{group_name, process_of}
use Rattle.event_texts.specs.JobInstants.{deadline_instant, deadline_name, end_instant, job_instants, release_instant, task_instants}
use Rattle.event_texts.specs.Records.{Piece, count_event, instant_event, process_event, quoted, span_event, strings, thread_event, truth}
use Rattle.event_texts.specs.TaskSpans as marks
use Rattle.event_texts.specs.TaskSpans.{cell_arguments, kind, name, cpus_text, same_cell, sem_name, task_spans}
use Rattle.event_laws.specs.EventValues.{Field, count_fields, instant_fields, items_of, members_of, object_of, process_fields, span_fields, strings_of, thread_fields}
use Rattle.event_laws.specs.GroupValues.{budget_events, cell_fields, cpu_events, cpu_names, end_event, events_of_cell, events_of_playing, group_events, instant_events, job_events, link_fields, resv_names, task_events, task_names}
use Rattle.event_laws.proofs.Events.{AreEvents, Each, IsEvent, IsEventTo, IsSpanOf, append-events, each-append, each-filter, each-found, each-map, each-reverse, each-same, each-take, flat-events, map-events, names-shallow, names-whole, no-events, one-event, spans-of}
use Rattle.event_laws.proofs.Pieces.{AllPlain, AreArguments, IsPlain, concat-joined, count-text, instant-text, plain-append, plain-decimal, process-text, span-text, strings-text, text_of, thread-text, truth-text}

-- ---- what is small

pub record NamesArePlain (g : Group) : Type 0 where
  pub tasks_are : (t : ℕ) → IsPlain (task g t).name
  pub sems_are : (s : ℕ) → IsPlain (sem g s).name
  pub resvs_are : (r : ℕ) → IsPlain (resv g r).name

abbrev pub IsLow : ℕ → Type 0
IsLow n = n < 2 ^ 50

pub record GroupIsSmall (g : Group) : Type 0 where
  pub number : g.number < 2 ^ 40
  pub tasks_are : Each IsLow (tasks g)
  pub cpus_are : Each IsLow (group_processors g)

pub record StateIsSmall (g : Group) (x : Past) : Type 0 where
  pub clock : now x < TICK_END
  pub jobs : (t : ℕ) → IsLow (done t x)
  pub budgets : (r : ℕ) → IsLow (left g r x)

abbrev pub ActIsSmall : Group → Past → Type 0
ActIsSmall g [] = ⊤
ActIsSmall g (Clock tick ∷ x) = ⊤
ActIsSmall g (Acted d ∷ x) = IsLow d.cpu × StateIsSmall g x

pub record MomentIsSmall (g : Group) (m : Moment) : Type 0 where
  pub cpu : IsLow m.act.cpu
  pub before : StateIsSmall g m.before

pub record PastIsSmall (g : Group) (past : Past) : Type 0 where
  pub states : Each (StateIsSmall g) (moments past)
  pub acts : Each (ActIsSmall g) (moments past)
  pub opening : StateIsSmall g []
  pub last : StateIsSmall g past

-- ---- the states and acts of a column

acts-small : (g : Group) (xs : List Past) → Each (ActIsSmall g) xs → Each (MomentIsSmall g) (acts_among xs)
acts-small g [] h = tt
acts-small g ([] ∷ xs) h = acts-small g xs h.1
acts-small g ((Clock tick ∷ x) ∷ xs) h = acts-small g xs h.1
acts-small g ((Acted d ∷ x) ∷ xs) h = (record { cpu = h.0.0; before = h.0.1 }, acts-small g xs h.1)

pub record ColumnIsSmall (g : Group) (c : Column) : Type 0 where
  pub states : Each (StateIsSmall g) c.states
  pub acts : Each (MomentIsSmall g) c.acts

each-either : {A : Type 0} (P : A → Type 0) (b : Bool) (xs ys : List A) → Each P xs → Each P ys → Each P (if b then xs else ys)
each-either P true xs ys h k = h
each-either P false xs ys h k = k

states-small : (g : Group) (t : ℕ) (past : Past) → Each (StateIsSmall g) (moments past) → Each (StateIsSmall g) (at_tick t past)
unfolding at_tick
states-small g t past h =
    each-either (StateIsSmall g) _ _ _ (each-take (StateIsSmall g) 1 _ (each-filter (StateIsSmall g) _ (moments past) h)) (each-filter (StateIsSmall g) _ (moments past) h)

column-small : (g : Group) (t : ℕ) (past : Past) → PastIsSmall g past → ColumnIsSmall g (tick_column past t)
column-small g t past h = record { states = states-small g t past h.states; acts = acts-small g (own t past) (each-filter (ActIsSmall g) _ (moments past) h.acts) }

columns-small : (g : Group) (past : Past) → PastIsSmall g past → Each (ColumnIsSmall g) (tick_columns past)
unfolding tick_columns
columns-small g past h = go (numbers_from 0 (suc (now past)))
  where
    go : (ts : List ℕ) → Each (ColumnIsSmall g) (map (tick_column past) ts)
    go [] = tt
    go (t ∷ ts) = (column-small g t past h, go ts)

units-small : (g : Group) (test : Moment → Bool) (c : Column) → ColumnIsSmall g c → Each (MomentIsSmall g) (units_of test c)
units-small g test c h = each-reverse (MomentIsSmall g) _ (each-filter (MomentIsSmall g) _ c.acts h.acts)

first-small : (g : Group) (test : Past → Bool) (c : Column) (x : Past) → ColumnIsSmall g c → first_where test c.states ≡ Some x → StateIsSmall g x
first-small g test c x h is = each-found (StateIsSmall g) test (reverse c.states) x (each-reverse (StateIsSmall g) c.states h.states) is

-- ---- cells of tasks

cpus_text-plain : (qs : List ℕ) → Each IsLow qs → IsPlain (cpus_text qs)
unfolding escape_byte
cpus_text-plain [] h = refl
cpus_text-plain (q ∷ []) h = plain-decimal q (omega (arith, h.0))
cpus_text-plain (q ∷ r ∷ qs) h = plain-append (decimal q) (43 ∷ cpus_text (r ∷ qs)) (plain-decimal q (omega (arith, h.0))) (ap (λ l. 43 ∷ l) (cpus_text-plain (r ∷ qs) h.1))

pub record CellIsSmall (g : Group) (c : TaskCell) : Type 0 where
  pub name_is : IsPlain (name g c.doing)
  pub job_is : c.job < 2 ^ 60

-- ---- clocks and numbers

head-small : (g : Group) (past : Past) → Each (StateIsSmall g) (moments past) → StateIsSmall g past
unfolding moments
head-small g [] h = h.0
head-small g (e ∷ past) h = h.0

last-low : (g : Group) (test : Test) (past : Past) → Each (StateIsSmall g) (moments past) → (c : ℕ) → last_clock test past ≡ Some c → c < TICK_END
unfolding moments last_clock
last-low g test [] h c is = cc
last-low g test (e ∷ past) h c is = by_case (test e past) is (λ later. last-low g test past h.1 c later)
  where
    by_case : (b : Bool) → or_else (clock_if b past) (last_clock test past) ≡ Some c → (last_clock test past ≡ Some c → c < TICK_END) → c < TICK_END
    by_case true found later = let same : now past ≡ c = cc in omega (arith, same, (head-small g past h.1).clock)
    by_case false found later = later found

each-number : (i n m : ℕ) → i + n ≤ m → Each (λ k. k < m) (numbers_from i n)
each-number i zero m few = tt
each-number i (suc n) m few = (omega (arith, few), each-number (suc i) n m (omega (arith, few)))

module _ (g : Group) (plain : NamesArePlain g) (small : GroupIsSmall g) where
  -- what a task does, of which the processors are small
  abbrev DoingIsSmall : Doing → Type 0
  DoingIsSmall (cells.works qs) = Each IsLow qs
  DoingIsSmall (cells.running qs) = Each IsLow qs
  DoingIsSmall _ = ⊤

  name-plain : (d : Doing) → DoingIsSmall d → IsPlain (name g d)
  unfolding escape_byte
  name-plain (cells.works qs) h = plain-append (codes "works on ") (cpus_text qs) refl (cpus_text-plain qs h)
  name-plain (cells.blocked s) h = plain-append (codes "blocked at ") (sem g s).name refl (plain.sems_are s)
  name-plain (cells.waits s) h = plain-append (codes "waits for ") (sem g s).name refl (plain.sems_are s)
  name-plain cells.sleeping h = refl
  name-plain (cells.running qs) h = plain-append (codes "runs on ") (cpus_text qs) refl (cpus_text-plain qs h)
  name-plain cells.ready h = refl
  name-plain cells.away h = refl

  kind-plain : (d : Doing) → IsPlain (kind d)
  unfolding escape_byte
  kind-plain (cells.works qs) = refl
  kind-plain (cells.blocked s) = refl
  kind-plain (cells.waits s) = refl
  kind-plain cells.sleeping = refl
  kind-plain (cells.running qs) = refl
  kind-plain cells.ready = refl
  kind-plain cells.away = refl

  at-small : (d : Doing) (t : ℕ) (x : Past) → DoingIsSmall d → StateIsSmall g x → CellIsSmall g (cell_at g d t x)
  unfolding cell_at
  at-small d t x h k = record { name_is = name-plain d h; job_is = omega (arith, k.jobs t) }

  waiting-small : (t : ℕ) (x : Past) (o : Option ℕ) → DoingIsSmall (waiting g t x o)
  waiting-small t x None = tt
  waiting-small t x (Some s) = by_case (is_blocked g t x)
    where
      by_case : (b : Bool) → DoingIsSmall (if b then cells.blocked s else cells.waits s)
      by_case true = tt
      by_case false = tt

  there-small : (qs : List ℕ) → Each IsLow qs → DoingIsSmall (there g qs)
  there-small [] h = tt
  there-small (q ∷ qs) h = h

  by-small : (t : ℕ) (c : Column) (ms : List Moment) (o o' o'' : Option Past) → Each (MomentIsSmall g) ms → ((x : Past) → o ≡ Some x → StateIsSmall g x)
      → ((x : Past) → o' ≡ Some x → StateIsSmall g x) → ((x : Past) → o'' ≡ Some x → StateIsSmall g x) → CellIsSmall g (cell_by g t c ms o o' o'')
  unfolding running_on
  by-small t c (m ∷ ms) o o' o'' h a b d =
      at-small (cells.works (map (λ (u : Moment). u.act.cpu) (m ∷ ms))) t m.before
      (each-map (MomentIsSmall g) IsLow (λ (u : Moment). u.act.cpu) (λ u k. k.cpu) (m ∷ ms) h) h.0.before
  by-small t c [] (Some x) o' o'' h a b d = at-small (waiting g t x (awaits g t x)) t x (waiting-small t x (awaits g t x)) (a x refl)
  by-small t c [] None (Some x) o'' h a b d = at-small cells.sleeping t x tt (b x refl)
  by-small t c [] None None (Some x) h a b d = at-small (there g (running_on g t c)) t x (there-small (running_on g t c) (each-filter IsLow _ (group_processors g) small.cpus_are)) (d x refl)
  by-small t c [] None None None h a b d = record { name_is = refl; job_is = omega arith }

  cell-small : (t : ℕ) (c : Column) → ColumnIsSmall g c → CellIsSmall g (task_cell g t c)
  unfolding task_cell
  cell-small t c h =
      by-small t c (units_of _ c) _ _ _ (units-small g _ c h) (λ x is. first-small g _ c x h is) (λ x is. first-small g _ c x h is) (λ x is. first-small g _ c x h is)

  -- ---- the events of a task's cells

  held-plain : (ss : List ℕ) → AllPlain (map (sem_name g) ss)
  held-plain [] = tt
  held-plain (s ∷ ss) = (plain.sems_are s, held-plain ss)

  cell-arguments : (c : TaskCell) → AreArguments (cell_arguments g c) (cell_fields g c)
  unfolding escape_byte
  cell-arguments c r =
      let names : List Piece = map (sem_name g) c.held in
      let rest : Piece = codes ",\"nonpreemptive\":" ++ (truth c.non_preemptive ++ (codes ",\"raised\":" ++ (truth c.raised ++ (125 ∷ r)))) in
      concat-joined
      (codes "\"job\":" ∷ decimal c.job ∷ codes ",\"holds\":" ∷ strings names ∷ codes ",\"nonpreemptive\":" ∷ truth c.non_preemptive ∷ codes ",\"raised\":"
      ∷ truth c.raised ∷ []) (125 ∷ r)
      ∙ ap (λ l. codes "\"job\":" ++ (decimal c.job ++ (codes ",\"holds\":" ++ l))) (strings-text names rest (held-plain c.held))
      ∙ ap₂ (λ a b. codes "\"job\":" ++ (decimal c.job ++ (codes ",\"holds\":" ++ (compact_text (strings_of names) ++ (codes ",\"nonpreemptive\":" ++ (a ++ (codes ",\"raised\":" ++ (b ++ (125 ∷ r)))))))))
      (truth-text c.non_preemptive) (truth-text c.raised)
      ∙ sym (concat-joined
      (codes "\"job\":" ∷ decimal c.job ∷ codes ",\"holds\":" ∷ compact_text (strings_of names) ∷ codes ",\"nonpreemptive\":" ∷ compact_text (boolean c.non_preemptive)
      ∷ codes ",\"raised\":" ∷ compact_text (boolean c.raised) ∷ (125 ∷ []) ∷ []) r)

  span-is : (process thread from to : ℕ) (k n : Piece) (fields : List Field) → IsLow process → thread < 2 ^ 60 → from ≤ TICK_END → to ≤ TICK_END → IsEventTo 8 fields
      → IsEvent (span_fields process thread from to k n fields)
  span-is process thread from to k n fields a b c d e = record {
    whole = (tt, (omega arith, (omega arith, (omega arith, (omega arith, (tt, (tt, (e.whole, tt))))))));
    shallow = omega (arith, e.shallow);
  }

  fields-small : (c : TaskCell) → c.job < 2 ^ 60 → IsEventTo 8 (cell_fields g c)
  fields-small c h = record {
    whole = (omega (arith, h), (names-whole (map (sem_name g) c.held), (tt, (tt, tt))));
    shallow = omega (arith, names-shallow (map (sem_name g) c.held));
  }

  cell-events : (process t from to : ℕ) (c : TaskCell) → IsLow process → IsLow t → from ≤ TICK_END → to ≤ TICK_END → CellIsSmall g c
      → AreEvents (marks.events_of_cell g process t from to c c.doing) (events_of_cell g process t from to c c.doing)
  cell-events process t from to c a b lo hi h = by_doing c.doing (kind-plain c.doing) h.name_is
    where
      one : (k n : Piece) → IsPlain k → IsPlain n → AreEvents (span_event process t from to k n (cell_arguments g c) ∷ []) (span_fields process t from to k n (cell_fields g c) ∷ [])
      one k n plain_k plain_n =
          one-event _ _ (span-text process t from to k n (cell_arguments g c) (cell_fields g c) plain_k plain_n (cell-arguments c))
          (span-is process t from to k n (cell_fields g c) a (omega (arith, b)) lo hi (fields-small c h.job_is))

      by_doing : (d : Doing) → IsPlain (kind d) → IsPlain (name g d) → AreEvents (marks.events_of_cell g process t from to c d) (events_of_cell g process t from to c d)
      by_doing (cells.works qs) k n = one _ _ k n
      by_doing (cells.blocked s) k n = one _ _ k n
      by_doing (cells.waits s) k n = one _ _ k n
      by_doing cells.sleeping k n = one _ _ k n
      by_doing (cells.running qs) k n = one _ _ k n
      by_doing cells.ready k n = one _ _ k n
      by_doing cells.away k n = no-events

  module _ (past : Past) (states : PastIsSmall g past) where
    columns-few : length (tick_columns past) ≤ TICK_END
    unfolding tick_columns
    columns-few = omega (arith, counted (numbers_from 0 (suc (now past))), length-numbers 0 (suc (now past)), states.last.clock)
      where
        counted : (ts : List ℕ) → length (map (tick_column past) ts) ≡ length ts
        counted [] = refl
        counted (t ∷ ts) = ap suc (counted ts)

        length-numbers : (i n : ℕ) → length (numbers_from i n) ≡ n
        length-numbers i zero = refl
        length-numbers i (suc n) = ap suc (length-numbers (suc i) n)

    cells-few : {A : Type 0} (cell : Column → A) → length (map cell (tick_columns past)) ≤ TICK_END
    cells-few cell = omega (arith, same (tick_columns past), columns-few)
      where
        same : (cs : List Column) → length (map cell cs) ≡ length cs
        same [] = refl
        same (c ∷ cs) = ap suc (same cs)

    task-events : (process t : ℕ) → IsLow process → IsLow t → AreEvents (task_spans g process past t) (task_events g process past t)
    unfolding task_spans
    task-events process t a b =
        flat-events (IsSpanOf (CellIsSmall g) TICK_END) _ _
        (λ s k. cell-events process t s.from s.to s.value a b (omega (arith, k.order, k.within)) k.within k.value_is)
        (spans same_cell (map (task_cell g t) (tick_columns past)))
        (spans-of (CellIsSmall g) same_cell TICK_END (map (task_cell g t) (tick_columns past)) (cells-few (task_cell g t))
        (each-map (ColumnIsSmall g) (CellIsSmall g) (task_cell g t) (λ c h. cell-small t c h) (tick_columns past) (columns-small g past states)))

    -- ---- processors

    link-arguments : (o : Option ℕ) → AreArguments (link_argument g o) (link_fields g o)
    unfolding escape_byte
    link-arguments None r = refl
    link-arguments (Some t) r =
        let own : Piece = (task g t).name in
        ap (λ l. codes "\"link\":\"" ++ l) (sym (append_assoc (own ++ 34 ∷ []) (125 ∷ []) r) ∙ ap (λ e. ((e ++ 34 ∷ []) ++ 125 ∷ []) ++ r) (sym (plain.tasks_are t)))

    link-small : (o : Option ℕ) → IsEventTo 8 (link_fields g o)
    link-small None = record { whole = (tt, tt); shallow = omega arith }
    link-small (Some t) = record { whole = (tt, tt); shallow = omega arith }

    playing-events : (process q from to : ℕ) (link : Option ℕ) (p : Playing) → IsLow process → IsLow q → from ≤ TICK_END → to ≤ TICK_END
        → AreEvents (cpus.events_of_cell g process q from to link p) (events_of_playing g process q from to link p)
    unfolding escape_byte
    playing-events process q from to link (cells.works_for t) a b lo hi =
        one-event _ _ (span-text process (q + 1) from to (codes "work") (task g t).name (link_argument g link) (link_fields g link) refl (plain.tasks_are t) (link-arguments link))
        (span-is process (q + 1) from to (codes "work") (task g t).name (link_fields g link) a (omega (arith, b)) lo hi (link-small link))
    playing-events process q from to link (cells.runs_task t) a b lo hi =
        one-event _ _ (span-text process (q + 1) from to (codes "runs") (task g t).name (link_argument g link) (link_fields g link) refl (plain.tasks_are t) (link-arguments link))
        (span-is process (q + 1) from to (codes "runs") (task g t).name (link_fields g link) a (omega (arith, b)) lo hi (link-small link))
    playing-events process q from to link cells.idle a b lo hi = no-events

    cpu-events : (process q : ℕ) → IsLow process → IsLow q → AreEvents (cpu_spans g process past q) (cpu_events g process past q)
    unfolding cpu_spans
    cpu-events process q a b =
        flat-events (IsSpanOf (λ c. ⊤) TICK_END) _ _
        (λ s k. playing-events process q s.from s.to s.value.link s.value.playing a b (omega (arith, k.order, k.within)) k.within)
        (spans cpus.same_cell (map (cpu_cell g q) (tick_columns past)))
        (spans-of (λ c. ⊤) cpus.same_cell TICK_END (map (cpu_cell g q) (tick_columns past)) (cells-few (cpu_cell g q))
        (each-map (ColumnIsSmall g) (λ c. ⊤) (cpu_cell g q) (λ c h. tt) (tick_columns past) (columns-small g past states)))

    -- ---- reservations

    before-small : (ms : List Moment) (x : Past) → Each (MomentIsSmall g) ms → StateIsSmall g x → StateIsSmall g (before_first ms x)
    before-small [] x h k = k
    before-small (m ∷ ms) x h k = h.0.before

    newest-small : (ps : List Past) → Each (StateIsSmall g) ps → StateIsSmall g (newest ps)
    newest-small [] h = states.opening
    newest-small (p ∷ ps) h = h.0

    left-small : (r : ℕ) (c : Column) → ColumnIsSmall g c → IsLow (resv_cell g r c)
    unfolding resv_cell
    left-small r c h = (before-small (units_of _ c) (newest c.states) (units-small g _ c h) (newest-small c.states h.states)).budgets r

    budget-events : (process r : ℕ) → IsLow process → AreEvents (budget_counts g process past r) (budget_events g process past r)
    unfolding budget_counts
    budget-events process r a =
        map-events (IsSpanOf IsLow TICK_END) _ _
        (λ s k. (
          count-text process s.from (resv g r).name s.value (plain.resvs_are r),
          record {
            whole = (tt, (omega arith, (omega (arith, k.order, k.within), (tt, ((omega (arith, k.value_is), tt), tt)))));
            shallow = omega arith;
          },
        ))
        (spans same_count (map (resv_cell g r) (tick_columns past)))
        (spans-of IsLow same_count TICK_END (map (resv_cell g r) (tick_columns past)) (cells-few (resv_cell g r))
        (each-map (ColumnIsSmall g) IsLow (resv_cell g r) (λ c h. left-small r c h) (tick_columns past) (columns-small g past states)))

    -- ---- the instants of a task's jobs

    instant-is : (process t tick : ℕ) (n : Piece) (k : ℕ) → IsPlain n → IsLow process → IsLow t → tick ≤ TICK_END → k < 2 ^ 60
        → AreEvents (instant_event process t tick n k ∷ []) (instant_fields process t tick n k ∷ [])
    instant-is process t tick n k plain_n a b low few = one-event _ _ (instant-text process t tick n k plain_n) (record {
      whole = (tt, (omega arith, (omega (arith, b), (omega (arith, low), (tt, (tt, ((omega (arith, few), tt), tt)))))));
      shallow = omega arith;
    })

    either-events : (b : Bool) (p : Piece) (v : List Field) → (b ≡ true → AreEvents (p ∷ []) (v ∷ [])) → AreEvents (if b then (p ∷ []) else []) (if b then (v ∷ []) else [])
    either-events true p v h = h refl
    either-events false p v h = no-events

    end-instants : (process t k : ℕ) (o : Option ℕ) → IsLow process → IsLow t → k < 2 ^ 60 → ((tick : ℕ) → o ≡ Some tick → tick < TICK_END)
        → AreEvents (end_instant process t k o) (end_event g process t k o)
    unfolding escape_byte
    end-instants process t k None a b few low = no-events
    end-instants process t k (Some tick) a b few low = instant-is process t (tick + 1) (codes "end") k refl a b (omega (arith, low tick refl)) few

    deadline-plain : (b : Bool) → IsPlain (deadline_name b)
    unfolding escape_byte
    deadline-plain true = refl
    deadline-plain false = refl

    job-instants : (process t k : ℕ) → IsLow process → IsLow t → k < 2 ^ 60 → AreEvents (job_instants g process t past k) (job_events g process t past k)
    unfolding escape_byte end
    job-instants process t k a b few =
        append-events _ _ _ _
        (either-events (nat_le (release_of g t k past) (now past)) _ _
        (λ h. instant-is process t (release_of g t k past) (codes "release") k refl a b (omega (arith, leb-true (release_of g t k past) (now past) h, states.last.clock)) few))
        (append-events _ _ _ _
        (either-events (nat_le (deadline_of g t k past) (now past)) _ _
        (λ h. instant-is process t (deadline_of g t k past + 1) (deadline_name (is_missed g t past k)) k (deadline-plain (is_missed g t past k)) a b
        (omega (arith, leb-true (deadline_of g t k past) (now past) h, states.last.clock)) few))
        (end-instants process t k (end t k past) a b few (λ tick is. last-low g (in_job t k (ends_now t)) past states.states tick is)))

    task-instants : (process t : ℕ) → IsLow process → IsLow t → AreEvents (task_instants g process past t) (instant_events g process past t)
    unfolding task_instants listed
    task-instants process t a b =
        flat-events (λ k. k < 2 ^ 60) _ _ (λ k few. job-instants process t k a b few) (numbers_from 1 (listed g t past))
        (each-number 1 (listed g t past) (2 ^ 60) (omega (arith, listed-few (exists g t past) (done t past), states.last.jobs t)))
      where
        listed-few : (b : Bool) (n : ℕ) → (if b then n + 1 else n) ≤ n + 1
        listed-few true n = omega arith
        listed-few false n = omega arith

    -- ---- all events of the group

    process-low : (which : ℕ) → which ≤ 3 → IsLow (process_of g which)
    process-low which few = omega (arith, small.number, few)

    name-of_group : (what : Piece) → IsPlain what → IsPlain (group_name g what)
    unfolding escape_byte
    name-of_group what h =
        plain-append (codes "group ") (decimal g.number ++ (codes " " ++ what)) refl
        (plain-append (decimal g.number) (codes " " ++ what) (plain-decimal g.number (omega (arith, small.number))) (plain-append (codes " ") what refl h))

    process-is : (which : ℕ) (what : Piece) → which ≤ 3 → IsPlain what
        → AreEvents (process_event (process_of g which) (group_name g what) ∷ []) (process_fields (process_of g which) (group_name g what) ∷ [])
    process-is which what few h = one-event _ _ (process-text (process_of g which) (group_name g what) (name-of_group what h)) (record {
      whole = (tt, (omega (arith, process-low which few), (tt, ((tt, tt), tt))));
      shallow = omega arith;
    })

    thread-is : (which thread : ℕ) (n : Piece) → which ≤ 3 → thread < 2 ^ 60 → IsPlain n
        → (thread_event (process_of g which) thread n ≡ text_of (thread_fields (process_of g which) thread n)) × IsEvent (thread_fields (process_of g which) thread n)
    thread-is which thread n few low h = (
      thread-text (process_of g which) thread n h,
      record {
        whole = (tt, (omega (arith, process-low which few), (omega (arith, low), (tt, ((tt, tt), tt)))));
        shallow = omega arith;
      },
    )

    tasks-named : AreEvents (text.task_names g) (task_names g)
    unfolding escape_byte
    tasks-named =
        append-events (process_event (process_of g 1) (group_name g (codes "tasks")) ∷ []) (map _ (tasks g)) _ (map _ (tasks g)) (process-is 1 (codes "tasks") (omega arith) refl)
        (map-events IsLow _ _ (λ t low. thread-is 1 t (task g t).name (omega arith) (omega (arith, low)) (plain.tasks_are t)) (tasks g) small.tasks_are)

    cpus-named : AreEvents (text.cpu_names g) (cpu_names g)
    unfolding escape_byte
    cpus-named =
        append-events (process_event (process_of g 2) (group_name g (codes "processors")) ∷ []) (map _ (group_processors g)) _ (map _ (group_processors g))
        (process-is 2 (codes "processors") (omega arith) refl)
        (map-events IsLow _ _
        (λ q low. thread-is 2 (q + 1) (codes "processor " ++ decimal q) (omega arith) (omega (arith, low))
        (plain-append (codes "processor ") (decimal q) refl (plain-decimal q (omega (arith, low))))) (group_processors g) small.cpus_are)

    resvs-named : (rs : List ℕ) → AreEvents (text.resv_names g rs) (resv_names g rs)
    unfolding escape_byte
    resvs-named [] = no-events
    resvs-named (r ∷ rs) = process-is 3 (codes "reservations") (omega arith) refl

    each-any : {A : Type 0} (xs : List A) → Each (λ x. ⊤) xs
    each-any [] = tt
    each-any (x ∷ xs) = (tt, each-any xs)

    pub all-events : AreEvents (text.group_events g past) (group_events g past)
    unfolding text.group_events group_events
    all-events =
        append-events _ _ _ _ tasks-named
        (append-events _ _ _ _ cpus-named
        (append-events _ _ _ _ (resvs-named (group_resvs g))
        (append-events _ _ _ _
        (flat-events IsLow _ _
        (λ t low. append-events _ _ _ _ (task-events (process_of g 1) t (process-low 1 (omega arith)) low) (task-instants (process_of g 1) t (process-low 1 (omega arith)) low))
        (tasks g) small.tasks_are)
        (append-events _ _ _ _
        (flat-events IsLow _ _ (λ q low. cpu-events (process_of g 2) q (process-low 2 (omega arith)) low) (group_processors g) small.cpus_are)
        (flat-events (λ r. ⊤) _ _ (λ r any. budget-events (process_of g 3) r (process-low 3 (omega arith))) (group_resvs g) (each-any (group_resvs g)))))))
