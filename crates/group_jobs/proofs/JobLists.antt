-- The facts of tasks as they are kept: counts in one list, the arrivals that wait in another.
use Rattle.std.proofs.Common.{false, None, ◌≡◌, ℕ, zero, suc, ◌+◌, ◌-◌, ◌<◌, ◌≤◌, List, [], ◌∷◌, length, drop, map, replicate, get_or, set, refl, sym, ap, ◌∙◌, arith}
use Rattle.arrival_queue.specs.Waiting.{queue_at}
use Rattle.group_jobs.specs.Facts.{JobFacts, idle_cpu, no_job}
use Rattle.group_jobs.specs.States.{cpu_seen, job_with, jobs_with}
use Rattle.group_jobs.specs.declared.cpus.CpuState.{CpuState}
use Rattle.group_jobs.specs.declared.states.TaskState.{TaskState}

pub length-jobs : (ss : List TaskState) (qs : List (List ℕ)) → length (jobs_with ss qs) ≡ length ss
length-jobs [] qs = refl
length-jobs (s ∷ ss) [] = ap suc (length-jobs ss [])
length-jobs (s ∷ ss) (q ∷ qs) = ap suc (length-jobs ss qs)

job-in : (ss : List TaskState) (qs : List (List ℕ)) (i : ℕ) (d : TaskState) → i < length ss → get_or (jobs_with ss qs) i no_job ≡ job_with (get_or ss i d) (get_or qs i [])
job-in [] qs i d low = absurd (omega arith)
job-in (s ∷ ss) [] zero d low = refl
job-in (s ∷ ss) [] (suc i) d low = job-in ss [] i d (omega arith)
job-in (s ∷ ss) (q ∷ qs) zero d low = refl
job-in (s ∷ ss) (q ∷ qs) (suc i) d low = job-in ss qs i d (omega arith)

job-put : (ss : List TaskState) (qs : List (List ℕ)) (i : ℕ) (s : TaskState) (q : List ℕ) → length qs ≡ length ss → set (jobs_with ss qs) i (job_with s q) ≡ jobs_with (set ss i s) (set qs i q)
job-put [] [] i s q same = refl
job-put [] (p ∷ qs) i s q same = refl
job-put (x ∷ ss) [] i s q same = absurd (omega arith)
job-put (x ∷ ss) (p ∷ qs) zero s q same = refl
job-put (x ∷ ss) (p ∷ qs) (suc i) s q same = ap (λ js. job_with x p ∷ js) (job-put ss qs i s q (omega arith))

queue-behind : (qs : List (List ℕ)) (i : ℕ) → get_or (drop 1 qs) i [] ≡ get_or qs (suc i) []
queue-behind [] i = refl
queue-behind (q ∷ qs) i = refl

set-behind : (qs : List (List ℕ)) (i : ℕ) (q : List ℕ) → set (drop 1 qs) i q ≡ drop 1 (set qs (suc i) q)
set-behind [] i q = refl
set-behind (p ∷ qs) i q = refl

length-behind : (qs : List (List ℕ)) (n : ℕ) → length qs ≡ n + 1 → length (drop 1 qs) ≡ n
length-behind [] n h = absurd (omega arith)
length-behind (q ∷ qs) n h = omega (arith, h)

-- the facts of task t
pub job-at : (ss : List TaskState) (qs : List (List ℕ)) (t : ℕ) (d : TaskState) → 1 ≤ t → t ≤ length ss → get_or (jobs_with ss (drop 1 qs)) (t - 1) no_job ≡ job_with (get_or ss (t - 1) d) (queue_at qs t)
job-at ss qs t d low high =
    let place : suc (t - 1) ≡ t = omega arith in
    job-in ss (drop 1 qs) (t - 1) d (omega arith) ∙ ap (job_with (get_or ss (t - 1) d)) (queue-behind qs (t - 1) ∙ ap (λ i. get_or qs i []) place)

-- the facts of all tasks where those of task t are put in their place
pub job-set : (ss : List TaskState) (qs : List (List ℕ)) (t : ℕ) (s : TaskState) (q : List ℕ) → 1 ≤ t → length qs ≡ length ss + 1 → set (jobs_with ss (drop 1 qs)) (t - 1) (job_with s q) ≡ jobs_with (set ss (t - 1) s) (drop 1 (set qs t q))
job-set ss qs t s q low same =
    let place : suc (t - 1) ≡ t = omega arith in
    job-put ss (drop 1 qs) (t - 1) s q (length-behind qs (length ss) same) ∙ ap (jobs_with (set ss (t - 1) s)) (set-behind qs (t - 1) q ∙ ap (λ i. drop 1 (set qs i q)) place)

pub high-kept : (ss : List TaskState) (qs : List (List ℕ)) (t : ℕ) → t ≤ length (jobs_with ss (drop 1 qs)) → t ≤ length ss
high-kept ss qs t h = omega (arith, h, length-jobs ss (drop 1 qs))

-- what is counted of task t beside its arrivals
pub state-at : (ss : List TaskState) (qs : List (List ℕ)) (t : ℕ) (s : TaskState) → 1 ≤ t → t ≤ length ss → s ≡ get_or ss (t - 1) s
    → get_or (jobs_with ss (drop 1 qs)) (t - 1) no_job ≡ job_with s (get_or (jobs_with ss (drop 1 qs)) (t - 1) no_job).to_come
state-at ss qs t s low high is =
    let at : get_or (jobs_with ss (drop 1 qs)) (t - 1) no_job ≡ job_with s (queue_at qs t) = job-at ss qs t s low high ∙ ap (λ x. job_with x (queue_at qs t)) (sym is) in
    let queue : (get_or (jobs_with ss (drop 1 qs)) (t - 1) no_job).to_come ≡ queue_at qs t = ap (λ (j : JobFacts). j.to_come) at in
    at ∙ ap (job_with s) (sym queue)

-- these counts in their place, beside the arrivals that are there
pub state-set : (ss : List TaskState) (qs : List (List ℕ)) (t : ℕ) (s : TaskState) → 1 ≤ t → t ≤ length ss → length qs ≡ length ss + 1
    → jobs_with (set ss (t - 1) s) (drop 1 qs) ≡ set (jobs_with ss (drop 1 qs)) (t - 1) (job_with s (get_or (jobs_with ss (drop 1 qs)) (t - 1) no_job).to_come)
state-set ss qs t s low high same =
    let queue : (get_or (jobs_with ss (drop 1 qs)) (t - 1) no_job).to_come ≡ queue_at qs t = ap (λ (j : JobFacts). j.to_come) (job-at ss qs t s low high) in
    let put : set (jobs_with ss (drop 1 qs)) (t - 1) (job_with s (queue_at qs t)) ≡ jobs_with (set ss (t - 1) s) (drop 1 (set qs t (queue_at qs t))) = job-set ss qs t s (queue_at qs t) low same in
    let stays : set qs t (queue_at qs t) ≡ qs = set-own qs t (omega (arith, same)) in
    sym (ap (λ q. set (jobs_with ss (drop 1 qs)) (t - 1) (job_with s q)) queue ∙ put ∙ ap (λ x. jobs_with (set ss (t - 1) s) (drop 1 x)) stays)
  where
    set-own : (xs : List (List ℕ)) (i : ℕ) → i < length xs → set xs i (get_or xs i []) ≡ xs
    set-own [] i h = refl
    set-own (x ∷ xs) zero h = refl
    set-own (x ∷ xs) (suc i) h = ap (λ ys. x ∷ ys) (set-own xs i (omega arith))

-- both in their place
pub both-set : (ss : List TaskState) (qs : List (List ℕ)) (t : ℕ) (s : TaskState) (change : List ℕ → List ℕ) → 1 ≤ t → t ≤ length ss → length qs ≡ length ss + 1
    → jobs_with (set ss (t - 1) s) (drop 1 (set qs t (change (queue_at qs t)))) ≡ set (jobs_with ss (drop 1 qs)) (t - 1) (job_with s (change (get_or (jobs_with ss (drop 1 qs)) (t - 1) no_job).to_come))
both-set ss qs t s change low high same =
    let queue : (get_or (jobs_with ss (drop 1 qs)) (t - 1) no_job).to_come ≡ queue_at qs t = ap (λ (j : JobFacts). j.to_come) (job-at ss qs t s low high) in
    sym (ap (λ q. set (jobs_with ss (drop 1 qs)) (t - 1) (job_with s (change q))) queue ∙ job-set ss qs t s (change (queue_at qs t)) low same)

-- ---- at the opening

abbrev pub new_state : TaskState
new_state = record { done = 0; used = 0; ops_done = 0; wakes = 0; non_preemptive = false; arrived = 0; newest = None }

abbrev pub idle_state : CpuState
idle_state = record { runs = None; worked = None }

pub jobs-new : (n : ℕ) → jobs_with (replicate n new_state) (drop 1 (replicate (n + 1) [])) ≡ replicate n no_job
jobs-new n = let one : n + 1 ≡ suc n = omega arith in rw one (go n)
  where
    go : (k : ℕ) → jobs_with (replicate k new_state) (replicate k []) ≡ replicate k no_job
    go zero = refl
    go (suc k) = ap (λ js. no_job ∷ js) (go k)

pub cpus-idle : (n : ℕ) → map cpu_seen (replicate n idle_state) ≡ replicate n idle_cpu
cpus-idle zero = refl
cpus-idle (suc n) = ap (λ cs. idle_cpu ∷ cs) (cpus-idle n)
