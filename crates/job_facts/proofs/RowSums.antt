-- The line of a task is read off what the lines of its jobs come to.
use Rattle.std.proofs.Common.{◌≡◌, ◌∙◌, ℕ, ◌+◌, ◌-◌, Bool, true, false, List, [], ◌∷◌, ◌++◌, map, refl, ap, arith, cond}
use Rattle.std.specs.Prelude.{Option, None, Some, ℤ, filter, filter_map, fold, count_by, sum_by, min, nat_lt, if◌then◌else◌, ◌==◌}
use Rattle.std.proofs.lemmas.List.Elements.{filter_map-append}
use Rattle.std.proofs.lemmas.List.Sums.{fold-append, sum_by-append}
use Rattle.rt_task.specs.declared.Kind.{Kind}
use Rattle.rt_task.specs.declared.Kind.TheVariants.{Periodic, Sporadic}
use Rattle.rt_changes.specs.Tallies as seen
use Rattle.rt_changes.specs.Tallies.{tallies, tally}
use Rattle.rt_model.specs.Blocking.{Asked, requests}
use Rattle.rt_model.specs.Group.{Group, task}
use Rattle.rt_model.specs.Jobs.{done}
use Rattle.rt_model.specs.Past.{Past, now}
use Rattle.rt_model.specs.Releases.{arrivals}
use Rattle.trace_views.specs.Due.{due_before, released_at, released_by}
use Rattle.trace_views.specs.JobRows.{JobRow, rows_of}
use Rattle.trace_views.specs.TaskRows.{asked, greater, greatest_of, is_late, task_row, with_other}
use Rattle.job_facts.specs.JobLaws.{SumsAreKept}
use Rattle.job_facts.specs.Sums.{Sums, added, due_in, no_sums, plus, released_in, sums_of, task_row_from, with_number}

-- ---- one line more

sum-more : (f : JobRow → ℕ) (rows : List JobRow) (r : JobRow) → sum_by f (rows ++ r ∷ []) ≡ sum_by f rows + f r
sum-more f rows r = let first : 0 + f r ≡ f r = omega arith in sum_by-append f rows (r ∷ []) ∙ ap (λ n. sum_by f rows + n) first

count-more : (p : JobRow → Bool) (rows : List JobRow) (r : JobRow) → count_by p (rows ++ r ∷ []) ≡ (if p r then count_by p rows + 1 else count_by p rows)
count-more p rows r = sum-more (λ (x : JobRow). cond (p x) 1 0) rows r ∙ by_case (p r)
  where
    by_case : (b : Bool) → count_by p rows + cond b 1 0 ≡ (if b then count_by p rows + 1 else count_by p rows)
    by_case true = refl
    by_case false = omega arith

number-more : (f : ℤ → ℤ → ℤ) (h : JobRow → Option ℤ) (rows : List JobRow) (r : JobRow) → fold (with_other f) None (filter_map h (rows ++ r ∷ [])) ≡ with_number f (fold (with_other f) None (filter_map h rows)) (h r)
number-more f h rows r =
    ap (fold (with_other f) None) (filter_map-append h rows (r ∷ [])) ∙ fold-append (with_other f) None (filter_map h rows) (filter_map h (r ∷ [])) ∙ by_case (h r) refl
  where
    before : Option ℤ
    before = fold (with_other f) None (filter_map h rows)

    by_case : (o : Option ℤ) → h r ≡ o → fold (with_other f) before (filter_map h (r ∷ [])) ≡ with_number f before o
    by_case None e = rw e refl
    by_case (Some n) e = rw e refl

added-up : (rows : List JobRow) (r : JobRow) → sums_of (rows ++ r ∷ []) ≡ added r (sums_of rows)
unfolding sums_of
added-up rows r = λ i. record {
  late = count-more (λ (x : JobRow). is_late x.outcome) rows r i;
  units = sum-more (λ (x : JobRow). x.units) rows r i;
  response_max = number-more greater (λ (x : JobRow). x.response) rows r i;
  response_sum = number-more plus (λ (x : JobRow). x.response) rows r i;
  lateness_max = number-more greater (λ (x : JobRow). x.lateness) rows r i;
  preemptions = sum-more (λ (x : JobRow). x.preemptions) rows r i;
  migrations = sum-more (λ (x : JobRow). x.migrations) rows r i;
  moves = sum-more (λ (x : JobRow). x.moves) rows r i;
  requests = sum-more (λ (x : JobRow). x.requests) rows r i;
  queued = sum-more (λ (x : JobRow). x.queued) rows r i;
}

pub sums-none : sums_of [] ≡ no_sums
unfolding sums_of
sums-none = refl

-- ---- the rest of the line

released : (g : Group) (kind : Kind) (t clock : ℕ) (past : Past) → released_at g kind t clock past ≡ released_in kind (task g t) (arrivals t past) clock
unfolding released_at
released g Periodic t clock past = refl
released g Sporadic t clock past = refl

due : (g : Group) (t : ℕ) (past : Past) → due_before g t (now past) past ≡ due_in (task g t) (arrivals t past) (now past)
unfolding due_before released_by
due g t past =
    let d : ℕ = (task g t).rel_deadline in
    ap (λ n. if nat_lt d (now past) then n else 0) (released g (task g t).kind t (min (now past - (d + 1)) (now past)) past)

-- of the requests of a task what the list of all tells
told : (g : Group) (t : ℕ) (past : Past) (f : seen.Tally → ℕ) (rs : List Asked)
    → map (λ r. f (tally g past r)) (filter (λ (r : Asked). r.task == t) rs) ≡ map f (filter (λ (x : seen.Tally). x.task == t) (map (tally g past) rs))
told g t past f [] = refl
told g t past f (r ∷ rs) = by_case (r.task == t) (told g t past f rs)
  where
    own : List Asked
    own = filter (λ (x : Asked). x.task == t) rs

    theirs : List seen.Tally
    theirs = filter (λ (x : seen.Tally). x.task == t) (map (tally g past) rs)

    by_case : (b : Bool) → map (λ x. f (tally g past x)) own ≡ map f theirs
        → map (λ x. f (tally g past x)) (if b then (r ∷ own) else own) ≡ map f (if b then (tally g past r ∷ theirs) else theirs)
    by_case true e = ap (λ ns. f (tally g past r) ∷ ns) e
    by_case false e = e

read : (g : Group) (t : ℕ) (past : Past) → task_row g past t ≡ task_row_from (task g t) (arrivals t past) (tallies g past) (now past) t (done t past) (sums_of (rows_of g t past))
unfolding task_row sums_of asked released_by
read g t past =
    let s : Sums = sums_of (rows_of g t past) in
    let released_now = released g (task g t).kind t (now past) past in
    let due_now = due g t past in
    let most = ap greatest_of (told g t past (λ (x : seen.Tally). x.ends) (requests past)) in
    let most_all = ap greatest_of (told g t past (λ (x : seen.Tally). x.ends_all) (requests past)) in
    λ i. record {
      task = t;
      released = released_now i;
      ended = done t past;
      late = s.late;
      missed = due_now i - done t past;
      units = s.units;
      response_max = s.response_max;
      response_sum = s.response_sum;
      lateness_max = s.lateness_max;
      preemptions = s.preemptions;
      migrations = s.migrations;
      moves = s.moves;
      requests = s.requests;
      queued = s.queued;
      ends_max = most i;
      ends_all_max = most_all i;
    }

pub sums_are_kept : SumsAreKept
sums_are_kept = record { read = read; added_up = added-up }
