-- The tracks of a group tell its trace events.
use Rattle.std.proofs.Common.{◌≡◌, ◌∙◌, ℕ, ◌+◌, Bool, true, false, List, [], ◌∷◌, ◌++◌, map, refl, sym, ap, ap₂}
use Rattle.std.specs.Prelude.{Option, None, Some, codes, decimal, flat_map, nat_le, if◌then◌else◌}
use Rattle.rt_task.specs.declared.Parts.{Parts}
use Rattle.rt_rules.specs.declared.history.Entry.{Entry}
use Rattle.rt_rules.specs.Numbers.{numbers_from}
use Rattle.rt_model.specs.Group.{Group, group_processors, resv, sem, task, tasks}
use Rattle.rt_model.specs.Histories.{past_of}
use Rattle.rt_model.specs.Past.{Past, now}
use Rattle.trace_views.specs.JobRows.{listed}
use Rattle.trace_views.specs.JobTimes.{deadline_of, end, release_of}
use Rattle.chart_texts.specs.Charts.{group_resvs, pasts_from}
use Rattle.event_texts.specs.Budgets.{budget_counts}
use Rattle.event_texts.specs.CpuSpans.{cpu_spans}
use Rattle.event_texts.specs.EventText.{event_lines, event_text, group_events, group_name, process_of}
use Rattle.event_texts.specs.EventText as texts
use Rattle.event_texts.specs.JobInstants.{deadline_name, end_instant, job_instants, task_instants}
use Rattle.event_texts.specs.Records.{Piece, instant_event, process_event, thread_event}
use Rattle.event_texts.specs.TaskSpans.{task_spans}
use Rattle.event_lines.specs.TrackEvents.{budget_event, cpu_events, cpu_names, cpu_span_events, cpu_thread, deadline_events, end_events, job_events, process_name, release_events, resv_events, resv_names, some_group, task_events, task_names, task_span_events, task_thread, tracks_events, tracks_text}
use Rattle.event_lines.specs.TrackLaws.{TracksTellEvents, tracks_of_groups}
use Rattle.event_lines.specs.Tracks.{Due, GroupTracks}
use Rattle.event_lines.specs.TracksOf.{cpu_track, due_of, job_marks, resv_track, task_track, tracks_of}

-- ---- lists of what was made of each

map-made : {A B C : Type 0} (f : B → C) (h : A → B) (k : A → C) → ((x : A) → f (h x) ≡ k x) → (xs : List A) → map f (map h xs) ≡ map k xs
map-made f h k same [] = refl
map-made f h k same (x ∷ xs) = ap₂ (λ y ys. y ∷ ys) (same x) (map-made f h k same xs)

flat-made : {A B : Type 0} (f : B → List Piece) (h : A → B) (k : A → List Piece) → ((x : A) → f (h x) ≡ k x) → (xs : List A) → flat_map f (map h xs) ≡ flat_map k xs
flat-made f h k same [] = refl
flat-made f h k same (x ∷ xs) = ap₂ (λ a b. a ++ b) (same x) (flat-made f h k same xs)

-- ---- the jobs of a task

release-told : (b : Bool) (process t k tick : ℕ)
    → release_events process t k (if b then Some tick else None) ≡ (if b then (instant_event process t tick (codes "release") k ∷ []) else [])
unfolding release_events
release-told true process t k tick = refl
release-told false process t k tick = refl

deadline-told : (b : Bool) (process t k : ℕ) (d : Due)
    → deadline_events process t k (if b then Some d else None) ≡ (if b then (instant_event process t (d.tick + 1) (deadline_name d.missed) k ∷ []) else [])
unfolding deadline_events
deadline-told true process t k d = refl
deadline-told false process t k d = refl

end-told : (process t k : ℕ) (ended : Option ℕ) → end_events process t k ended ≡ end_instant process t k ended
unfolding end_events
end-told process t k None = refl
end-told process t k (Some tick) = refl

module _ (g : Group) where
  job-told : (process t : ℕ) (past : Past) (k : ℕ) → job_events process t (job_marks g t past k) ≡ job_instants g process t past k
  unfolding job_events
  job-told process t past k =
      ap₂ (λ a b. a ++ b) (release-told (nat_le (release_of g t k past) (now past)) process t k (release_of g t k past))
      (ap₂ (λ a b. a ++ b) (deadline-told (nat_le (deadline_of g t k past) (now past)) process t k (due_of g t k past)) (end-told process t k (end t k past)))

  -- ---- tasks, processors and reservations

  task-told : (process : ℕ) (past : Past) (t : ℕ) → task_events g process (task_track g past t) ≡ task_spans g process past t ++ task_instants g process past t
  unfolding task_track task_spans task_instants task_span_events
  task-told process past t =
      ap (λ es. task_spans g process past t ++ es)
      (flat-made (job_events process t) (job_marks g t past) (job_instants g process t past) (job-told process t past) (numbers_from 1 (listed g t past)))

  cpu-told : (process : ℕ) (past : Past) (q : ℕ) → cpu_events g process (cpu_track g past q) ≡ cpu_spans g process past q
  unfolding cpu_track cpu_spans cpu_span_events
  cpu-told process past q = refl

  resv-told : (process : ℕ) (past : Past) (r : ℕ) → resv_events g process (resv_track g past r) ≡ budget_counts g process past r
  unfolding resv_track budget_counts budget_event
  resv-told process past r = refl

  -- ---- names

  task-names : (past : Past) → task_names g g.number (map (task_track g past) (tasks g)) ≡ texts.task_names g
  unfolding task_track task_thread process_name
  task-names past =
      ap (λ es. process_event (process_of g 1) (group_name g (codes "tasks")) ∷ es)
      (map-made (task_thread g (process_of g 1)) (task_track g past) (λ t. thread_event (process_of g 1) t (task g t).name) (λ t. refl) (tasks g))

  cpu-names : (past : Past) → cpu_names g.number (map (cpu_track g past) (group_processors g)) ≡ texts.cpu_names g
  unfolding cpu_track cpu_thread process_name
  cpu-names past =
      ap (λ es. process_event (process_of g 2) (group_name g (codes "processors")) ∷ es)
      (map-made (cpu_thread (process_of g 2)) (cpu_track g past) (λ q. thread_event (process_of g 2) (q + 1) (codes "processor " ++ decimal q)) (λ q. refl) (group_processors g))

  resv-names : (past : Past) (rs : List ℕ) → resv_names g.number (map (resv_track g past) rs) ≡ texts.resv_names g rs
  unfolding process_name
  resv-names past [] = refl
  resv-names past (r ∷ rs) = refl

  -- ---- a group

  group-told : (past : Past) → tracks_events g (tracks_of g past) ≡ group_events g past
  unfolding tracks_events tracks_of group_events
  group-told past =
      ap₂ (λ a b. a ++ b) (task-names past)
      (ap₂ (λ a b. a ++ b) (cpu-names past)
      (ap₂ (λ a b. a ++ b) (resv-names past (group_resvs g))
      (ap₂ (λ a b. a ++ b) (flat-made (task_events g (process_of g 1)) (task_track g past) (λ t. task_spans g (process_of g 1) past t ++ task_instants g (process_of g 1) past t) (task-told (process_of g 1) past) (tasks g))
      (ap₂ (λ a b. a ++ b) (flat-made (cpu_events g (process_of g 2)) (cpu_track g past) (cpu_spans g (process_of g 2) past) (cpu-told (process_of g 2) past) (group_processors g))
      (flat-made (resv_events g (process_of g 3)) (resv_track g past) (budget_counts g (process_of g 3) past) (resv-told (process_of g 3) past) (group_resvs g))))))

-- names are those of the set, whichever the group
named-alike : (p : Parts) (n : ℕ) (x : GroupTracks) → tracks_events (some_group p) x ≡ tracks_events (record { setup = p; number = n }) x
unfolding tracks_events resv sem task budget_event cpu_span_events task_span_events task_thread
named-alike p n x = refl

groups-told : (p : Parts) (n : ℕ) (hs : List (List Entry))
    → flat_map (tracks_events (some_group p)) (tracks_of_groups (pasts_from p n hs)) ≡ flat_map (λ (x : Group × Past). group_events x.0 x.1) (pasts_from p n hs)
groups-told p n [] = refl
groups-told p n (es ∷ hs) =
    let g : Group = record { setup = p; number = n } in
    ap₂ (λ a b. a ++ b) (named-alike p n (tracks_of g (past_of g es)) ∙ group-told g (past_of g es)) (groups-told p (n + 1) hs)

pub tracks_tell_events : TracksTellEvents
unfolding event_text tracks_text
tracks_tell_events p hs =
    ap (λ es. codes "{\"displayTimeUnit\":\"ms\",\"traceEvents\":[\n" ++ (event_lines es ++ codes "]}\n")) (sym (groups-told p 0 hs))
