-- The line of a job is read off what is kept of it.
use Rattle.std.proofs.Common.{◌≡◌, ◌∙◌, ◌||◌, inl, inr, ℕ, zero, suc, ◌+◌, ◌-◌, ◌<◌, ◌≤◌, append-nil, Bool, true, false, List, [], ◌∷◌, ◌++◌, ◌&&◌, length, map, get_or, refl, sym, ap, arith, length-append}
use Rattle.std.specs.Prelude.{All, Option, nat_lt, not, if◌then◌else◌, ◌==◌, sum_by, unwrap_or}
use Rattle.std.proofs.lemmas.Bool.{cases_lt}
use Rattle.std.proofs.Math.ListN.{get_or-append}
use Rattle.std.proofs.Math.Seq.{get_or-append_seam}
use Rattle.std.proofs.lemmas.List.{get_or-map, get_or_past, length-map, map-append}
use Rattle.std.proofs.lemmas.List.Sums.{sum_by-cons}
use Rattle.std.proofs.lemmas.List.Elements.{All-head, All-nil, All-push, All-tail, All-weaker}
use Rattle.rt_task.specs.declared.Kind.{Kind}
use Rattle.rt_task.specs.declared.Kind.TheVariants.{Periodic, Sporadic}
use Rattle.rt_changes.specs.Tallies as seen
use Rattle.rt_changes.specs.Tallies.{tallies, tally}
use Rattle.rt_rules.specs.Numbers.{numbers_from}
use Rattle.rt_rules.proofs.BoolLaws.{both}
use Rattle.rt_rules.proofs.NumberLaws.{length-numbers_from}
use Rattle.rt_rules.specs.SemState.{Asks, Frees, Neither, SemAct}
use Rattle.rt_model.specs.Blocking.{Asked, asked_by, asks, ends, ends_all, requests}
use Rattle.rt_model.specs.Group.{Group, task}
use Rattle.rt_model.specs.Jobs.{done}
use Rattle.rt_model.specs.Past.{Event, Past, entries_in, now, sem_act}
use Rattle.rt_model.specs.Releases.{arrivals, exists, has_come, is_released, opens_early, release, release_by}
use Rattle.trace_views.specs.JobCounts.{asks_now, ends_all_seen, ends_seen, migrations, moves, preemptions, queued, requests_made, requests_of, units}
use Rattle.trace_views.specs.JobMoves.{in_job}
use Rattle.trace_views.specs.JobRows.{job_row, listed}
use Rattle.trace_views.specs.JobTimes as times
use Rattle.job_facts.specs.JobLaws.{RowsAreKept}
use Rattle.job_facts.specs.RequestPositions.{request_positions}
use Rattle.job_facts.specs.Rows.{ends_all_in, ends_in, job_in, listed_in, no_request, release_at, row_from}
use Rattle.job_facts.specs.Tallies.{Tally, jobs_at, tally_at}
use Rattle.job_facts.proofs.Few.{request_positions-length}

abbrev none_asked : Asked
none_asked = record { no = 0; task = 0; sem = 0 }

abbrev AreBelow : ℕ → List ℕ → Type 0
AreBelow n is = All (λ i. i < n) is

-- the requests in these positions
abbrev in_positions : List Asked → List ℕ → List Asked
in_positions rs is = map (λ i. get_or rs i none_asked) is

stays-in : (rs more : List Asked) (is : List ℕ) → AreBelow (length rs) is → in_positions (rs ++ more) is ≡ in_positions rs is
stays-in rs more [] low = refl
stays-in rs more (i ∷ is) low = let first : i < length rs = All-head (λ j. j < length rs) i is low in rw (get_or-append rs more none_asked i first, stays-in rs more is (All-tail (λ j. j < length rs) i is low)) refl

-- a further request stands behind the others
requests-grow : (e : Event) (past : Past) → (more : List Asked) × (requests (e ∷ past) ≡ requests past ++ more)
unfolding requests
requests-grow e past = by_act (sem_act e)
  where
    by_act : (x : SemAct) → (more : List Asked) × (asked_by x (entries_in past) (requests past) ≡ requests past ++ more)
    by_act (Asks t s) = (record { no = entries_in past; task = t; sem = s } ∷ [], refl)
    by_act (Frees t s) = ([], sym (append-nil (requests past)))
    by_act Neither = ([], sym (append-nil (requests past)))

below-more : (n m : ℕ) (is : List ℕ) → n ≤ m → AreBelow n is → AreBelow m is
below-more n m is h low = All-weaker (λ i. i < n) (λ i. i < m) (λ i k. omega (arith, h, k)) is low

-- one more where a request is made
asked-length : (t : ℕ) (x : SemAct) (n : ℕ) (rs : List Asked) → asks t x ≡ true → length (asked_by x n rs) ≡ length rs + 1
asked-length t (Asks u s) n rs h = length-append rs (record { no = n; task = u; sem = s } ∷ [])
asked-length t (Frees u s) n rs h = cc
asked-length t Neither n rs h = cc

pub placed : (t k : ℕ) (past : Past) → AreBelow (length (requests past)) (request_positions t k past)
unfolding request_positions requests
placed t k [] = All-nil (λ i. i < 0)
placed t k (e ∷ past) = by_case (in_job t k (asks_now t) e past) refl (placed t k past)
  where
    grown : length (requests past) ≤ length (requests (e ∷ past))
    grown = let more = requests-grow e past in omega (arith, ap length more.1, length-append (requests past) more.0)

    by_case : (b : Bool) → in_job t k (asks_now t) e past ≡ b → AreBelow (length (requests past)) (request_positions t k past)
        → AreBelow (length (requests (e ∷ past))) (if b then (request_positions t k past ++ length (requests past) ∷ []) else request_positions t k past)
    by_case true m low =
        let one : length (requests (e ∷ past)) ≡ length (requests past) + 1 = asked-length t (sem_act e) (entries_in past) (requests past) (both (done t past + 1 == k) (asks t (sem_act e)) m).1 in
        All-push (λ i. i < length (requests (e ∷ past))) (request_positions t k past) (length (requests past)) (below-more (length (requests past)) (length (requests (e ∷ past))) (request_positions t k past) grown low) (omega (arith, one))
    by_case false m low = below-more (length (requests past)) (length (requests (e ∷ past))) (request_positions t k past) grown low

-- in these positions are the requests of the job
asked-last : (t : ℕ) (x : SemAct) (n : ℕ) (rs own : List Asked) → asks t x ≡ true → asked_by x n own ≡ own ++ get_or (asked_by x n rs) (length rs) none_asked ∷ []
asked-last t (Asks u s) n rs own h =
    let r : Asked = record { no = n; task = u; sem = s } in
    ap (λ (y : Asked). own ++ y ∷ []) (sym (get_or-append_seam rs r [] none_asked))
asked-last t (Frees u s) n rs own h = cc
asked-last t Neither n rs own h = cc

pub requests-placed : (t k : ℕ) (past : Past) → requests_of t k past ≡ in_positions (requests past) (request_positions t k past)
unfolding requests_of request_positions requests
requests-placed t k [] = refl
requests-placed t k (e ∷ past) = by_case (in_job t k (asks_now t) e past) refl (requests-placed t k past)
  where
    kept : in_positions (requests (e ∷ past)) (request_positions t k past) ≡ in_positions (requests past) (request_positions t k past)
    kept = let more = requests-grow e past in ap (λ rs. in_positions rs (request_positions t k past)) more.1 ∙ stays-in (requests past) more.0 (request_positions t k past) (placed t k past)

    by_case : (b : Bool) → in_job t k (asks_now t) e past ≡ b → requests_of t k past ≡ in_positions (requests past) (request_positions t k past)
        → (if b then asked_by (sem_act e) (entries_in past) (requests_of t k past) else requests_of t k past) ≡ in_positions (requests (e ∷ past)) (if b then (request_positions t k past ++ length (requests past) ∷ []) else request_positions t k past)
    by_case true m before =
        let is : asks t (sem_act e) ≡ true = (both (done t past + 1 == k) (asks t (sem_act e)) m).1 in
        asked-last t (sem_act e) (entries_in past) (requests past) (requests_of t k past) is
        ∙ ap (λ rs. rs ++ get_or (requests (e ∷ past)) (length (requests past)) none_asked ∷ []) (before ∙ sym kept)
        ∙ sym (map-append (λ i. get_or (requests (e ∷ past)) i none_asked) (request_positions t k past) (length (requests past) ∷ []))
    by_case false m before = before ∙ sym kept

-- so what they saw end is told by the list of requests
told-at : (g : Group) (past : Past) (f : seen.Tally → ℕ) (is : List ℕ) → AreBelow (length (requests past)) is
    → sum_by (λ r. f (tally g past r)) (in_positions (requests past) is) ≡ sum_by (λ i. f (get_or (tallies g past) i no_request)) is
told-at g past f [] low = refl
told-at g past f (i ∷ is) low =
    let first : i < length (requests past) = All-head (λ j. j < length (requests past)) i is low in
    let rest = told-at g past f is (All-tail (λ j. j < length (requests past)) i is low) in
    let here : get_or (tallies g past) i no_request ≡ tally g past (get_or (requests past) i none_asked) = get_or-map (tally g past) (requests past) i none_asked no_request first in
    let seen_by : Asked → ℕ = λ r. f (tally g past r) in
    let told : ℕ → ℕ = λ j. f (get_or (tallies g past) j no_request) in
    sum_by-cons seen_by (get_or (requests past) i none_asked) (in_positions (requests past) is)
    ∙ ap (λ (x : seen.Tally). f x + sum_by seen_by (in_positions (requests past) is)) (sym here)
    ∙ ap (λ n. told i + n) rest
    ∙ sym (sum_by-cons told i is)

ends-told : (g : Group) (t k : ℕ) (past : Past) → ends_seen g t k past ≡ ends_in (tallies g past) (request_positions t k past)
unfolding ends_seen
ends-told g t k past =
    ap (λ rs. sum_by (λ (r : Asked). ends g r.no r.task r.sem past) rs) (requests-placed t k past) ∙ told-at g past (λ (x : seen.Tally). x.ends) (request_positions t k past) (placed t k past)

ends_all-told : (g : Group) (t k : ℕ) (past : Past) → ends_all_seen g t k past ≡ ends_all_in (tallies g past) (request_positions t k past)
unfolding ends_all_seen
ends_all-told g t k past =
    ap (λ rs. sum_by (λ (r : Asked). ends_all g r.no r.task r.sem past) rs) (requests-placed t k past) ∙ told-at g past (λ (x : seen.Tally). x.ends_all) (request_positions t k past) (placed t k past)

-- the release
at-numbers_from : (i n k : ℕ) → k < n → get_or (numbers_from i n) k 0 ≡ i + k
at-numbers_from i zero k h = absurd (omega (arith, h))
at-numbers_from i (suc n) zero h = omega arith
at-numbers_from i (suc n) (suc k) h = at-numbers_from (suc i) n k (omega (arith, h)) ∙ omega arith

released : (g : Group) (kind : Kind) (t k : ℕ) (past : Past) → release_by g kind t k past ≡ release_at kind (task g t) (arrivals t past) k
unfolding release_by
released g Periodic t k past = refl
released g Sporadic t k past = refl

read : (g : Group) (t k : ℕ) (past : Past) → job_row g t past k ≡ row_from (task g t) (arrivals t past) (tallies g past) (now past) t k (tally_at t k past)
unfolding tally_at job_row times.release_of times.deadline_of times.finish times.outcome times.response times.lateness requests_made
read g t k past =
    let release = ap (λ o. unwrap_or o 0) (released g (task g t).kind t (k - 1) past) in
    let finish : Option ℕ = times.finish_by (times.last_unit t k past) (times.end t k past) in
    λ i. record {
      task = t;
      job = k;
      release = release i;
      deadline = release i + (task g t).rel_deadline;
      start = times.start t k past;
      finish = finish;
      end = times.end t k past;
      outcome = times.outcome_by (times.end t k past) (release i + (task g t).rel_deadline) (now past);
      units = units t k past;
      response = times.time_to (release i) finish;
      lateness = times.time_to (release i + (task g t).rel_deadline) finish;
      preemptions = preemptions t k past;
      migrations = migrations t k past;
      moves = moves t k past;
      requests = sym (request_positions-length t k past) i;
      queued = queued t k past;
      ends = ends-told g t k past i;
      ends_all = ends_all-told g t k past i;
    }

listed-told : (g : Group) (t : ℕ) (past : Past) → listed g t past ≡ listed_in (task g t) (arrivals t past) (done t past) (now past)
unfolding listed exists is_released opens_early release
listed-told g t past =
    let early : Bool = (task g t).early in
    let n : ℕ = done t past in
    ap (λ o. if has_come (now past) o || (early && (nat_lt 0 n && not (has_come (now past) o))) then n + 1 else n) (released g (task g t).kind t n past)

current-told : (t k : ℕ) (past : Past) → 1 ≤ k → k ≤ done t past + 1 → job_in (jobs_at t past) k ≡ tally_at t k past
unfolding jobs_at
current-told t k past low high = elim (cases_lt (k - 1) (done t past)) [ inl m ↦ ended m | inr m ↦ last m ]
  where
    row : ℕ → Tally
    row j = tally_at t j past

    long : length (map row (numbers_from 1 (done t past))) ≡ done t past
    long = length-map (numbers_from 1 (done t past)) row ∙ length-numbers_from 1 (done t past)

    ended : k - 1 < done t past → get_or (map row (numbers_from 1 (done t past))) (k - 1) (row (done t past + 1)) ≡ row k
    ended m =
        let within : k - 1 < length (numbers_from 1 (done t past)) = omega (arith, m, length-numbers_from 1 (done t past)) in
        let number : 1 + (k - 1) ≡ k = omega (arith, low) in
        get_or-map row (numbers_from 1 (done t past)) (k - 1) 0 (row (done t past + 1)) within ∙ ap row (at-numbers_from 1 (done t past) (k - 1) m ∙ number)

    last : done t past ≤ k - 1 → get_or (map row (numbers_from 1 (done t past))) (k - 1) (row (done t past + 1)) ≡ row k
    last m =
        let number : done t past + 1 ≡ k = omega (arith, m, low, high) in
        get_or_past (map row (numbers_from 1 (done t past))) (k - 1) (row (done t past + 1)) (omega (arith, m, long)) ∙ ap row number

pub rows_are_kept : RowsAreKept
rows_are_kept = record { read = read; listed = listed-told; current = current-told; placed = placed }
