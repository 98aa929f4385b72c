-- Worked sets at the edges of the laws: two that reach the bounds, and sets that break one rule each, with a history in which a law fails.
use Rattle.std.specs.Prelude.{◌≡◌, ℕ, true, false, List, [], ◌∷◌, ◌++◌, Some, refl}
use Rattle.rt_task.specs.declared.Protocol.{Protocol}
use Rattle.rt_task.specs.declared.Protocol.TheVariants.{Fmlp, Omlp, Pcp, Srp}
use Rattle.rt_task.specs.declared.Resv.{Resv}
use Rattle.rt_task.specs.declared.ResvKind.TheVariants as resv_kinds
use Rattle.rt_task.specs.declared.Sem.{Sem}
use Rattle.rt_task.specs.declared.PluginKind.TheVariants as plugins
use Rattle.rt_task.specs.declared.Step.{Step}
use Rattle.rt_task.specs.declared.Task.{Task}
use Rattle.rt_task.specs.Bodies.{nests, after_op, goes_on}
use Rattle.rt_task.specs.Draft.{runs}
use Rattle.rt_task.specs.Lookups.{cpus as total_cpus, group_of as group_in, cluster_with as cluster_in, is_stacked_sem, is_fmlp_sem}
use Rattle.rt_task.specs.Lookups.{cluster_of_task}
use Rattle.rt_task.specs.Lookups.{cluster_of_resv}
use Rattle.rt_task.specs.NameRules.{sem_name, resv_name, task_name, step_name}
use Rattle.rt_task.specs.RangeRules.{whole_range, cluster_range, resv_range, task_range, step_range}
use Rattle.rt_task.specs.Refusals.{bad}
use Rattle.rt_task.specs.SharingRules.{clusters_sharing, has_fmlp_users, sem_sharing, resv_sharing, task_sharing, step_sharing}
use Rattle.rt_task.specs.SizeRules.{whole_size, task_size}
use Rattle.rt_task.specs.Validity.{IsValid, resv_shape, task_shape, refusal, refusal_of, whole_refusal}
use Rattle.rt_task.specs.declared.bad_set.Part.TheVariants as parts
use Rattle.rt_task.specs.declared.bad_set.SetKind.TheVariants as kinds
use Rattle.rt_model.specs.Blocking.{ends, ends_all, bound}
use Rattle.rt_model.specs.worked.Computed.{computed}
use Rattle.rt_model.specs.Group.{Group}
use Rattle.rt_model.specs.Histories.{past_by}
use Rattle.rt_model.specs.BaseKeys.{base_key}
use Rattle.rt_model.specs.Holders.{holder, awaits}
use Rattle.rt_model.specs.Jobs.{done}
use Rattle.rt_model.specs.Reservations.{left}
use Rattle.rt_model.specs.worked.Samples.{step_of, steps_of, group_of, cluster_with, sem_under, periodic, sporadic, in_cluster, using}
use Rattle.rt_model.specs.worked.Samples.{with_prio}
use Rattle.rt_model.specs.worked.Samples.{enforced, early, irq, arrive, lock, unlock, end, sleep, tick, reservation, table, slot, client_of}
use Rattle.rt_model.specs.worked.Omlp.{omlp_bound_reached_lines}
use Rattle.rt_laws.specs.BlockedOnce.{is_of_pcp, stays_ready, is_lower, is_inside, entered, reaches, is_linked, blocks, was_blocked}
use Rattle.rt_laws.specs.BlockedOnce.{asks_linked, is_prompt}
use Rattle.rt_laws.specs.BlockedOnce.{lower_waiting, waiting_at_first, is_blocked_anew, sections_seen}

-- a proof that computes with the rules of a set says `unfolding rules_computed`
unfoldable pub rules_computed : Unit {0}
unfolding refusal_of whole_refusal refusal resv_shape task_shape whole_range cluster_range resv_range task_range step_range sem_name resv_name
    task_name step_name sem_sharing resv_sharing task_sharing step_sharing clusters_sharing has_fmlp_users is_fmlp_sem whole_size task_size total_cpus group_in
    cluster_in is_stacked_sem cluster_of_task cluster_of_resv runs nests after_op goes_on
rules_computed = tt

-- a proof that computes with the critical sections that block a job says `unfolding blocks_computed`
unfoldable pub blocks_computed : Unit {0}
unfolding is_of_pcp stays_ready is_lower is_inside entered reaches is_linked blocks was_blocked asks_linked is_prompt lower_waiting
    waiting_at_first is_blocked_anew sections_seen
blocks_computed = tt

-- a task with a name of one letter
abbrev pub named : ℕ → Task → Task
named letter t = record t { name = letter ∷ [] }

abbrev pub shared : Protocol → Sem
shared p = record (sem_under p) { name = 115 ∷ [] }

-- two processors and four users of an OMLP semaphore: the third request sees 2 * 2 - 1 = 3 critical sections end while blocked
abbrev pub omlp_reached : Group
omlp_reached =
    group_of plugins.GsnEdf (cluster_with 2 0 ∷ []) (shared Omlp ∷ []) [] (
    named 97 (using (1 ∷ []) (periodic 1 1 1000 100)) ∷
    named 98 (using (1 ∷ []) (periodic 2 1 1000 100)) ∷
    named 99 (using (1 ∷ []) (sporadic 3 1 1000 50)) ∷
    named 100 (using (1 ∷ []) (sporadic 4 1 1000 20)) ∷
    [])

abbrev pub omlp_reached_steps : List Step
omlp_reached_steps = steps_of omlp_bound_reached_lines

pub omlp_reached-valid : IsValid omlp_reached.setup
unfolding rules_computed
omlp_reached-valid = refl

pub omlp_reached-ends : ends omlp_reached 6 3 1 (past_by omlp_reached [] omlp_reached_steps) ≡ 3
unfolding computed
omlp_reached-ends = refl

pub omlp_reached-bound : bound omlp_reached 3 1 ≡ Some 3
unfolding computed
omlp_reached-bound = refl

-- two users of an FMLP semaphore: the second request sees 2 - 1 = 1 critical section end
abbrev pub fmlp_reached : Group
fmlp_reached =
    group_of plugins.GsnEdf (cluster_with 2 0 ∷ []) (shared Fmlp ∷ []) [] (
    named 97 (using (1 ∷ []) (periodic 1 1 1000 100)) ∷
    named 98 (using (1 ∷ []) (periodic 2 1 1000 100)) ∷
    [])

abbrev pub fmlp_reached_steps : List Step
fmlp_reached_steps =
    step_of 0 0 irq ∷
    step_of 1 0 irq ∷
    step_of 0 0 (lock 1) ∷
    step_of 1 0 (lock 1) ∷
    step_of 0 1 (unlock 1) ∷
    []

pub fmlp_reached-valid : IsValid fmlp_reached.setup
unfolding rules_computed
fmlp_reached-valid = refl

pub fmlp_reached-ends : ends_all fmlp_reached 3 2 1 (past_by fmlp_reached [] fmlp_reached_steps) ≡ 1
unfolding computed
fmlp_reached-ends = refl

pub fmlp_reached-bound : bound fmlp_reached 2 1 ≡ Some 1
unfolding computed
fmlp_reached-bound = refl

-- a cost of 0: task 2 is queued, and that same act ends its job by force, so it waits with a job that has ended
abbrev pub no_cost : Group
no_cost =
    group_of plugins.GsnEdf (cluster_with 2 0 ∷ []) (shared Fmlp ∷ []) [] (
    named 97 (using (1 ∷ []) (periodic 1 1 1000 100)) ∷
    named 98 (using (1 ∷ []) (enforced (periodic 2 0 1000 100))) ∷
    [])

abbrev pub no_cost_steps : List Step
no_cost_steps =
    step_of 0 0 irq ∷
    step_of 1 0 irq ∷
    step_of 0 0 (lock 1) ∷
    step_of 1 0 (lock 1) ∷
    []

pub no_cost-refused : refusal_of no_cost.setup ≡ Some (bad kinds.Range parts.Task 1)
unfolding rules_computed
no_cost-refused = refl

pub no_cost-ended : done 2 (past_by no_cost [] no_cost_steps) ≡ 1
unfolding computed
no_cost-ended = refl

pub no_cost-waits : awaits no_cost 2 (past_by no_cost [] no_cost_steps) ≡ Some 1
unfolding computed
no_cost-waits = refl

-- users of an OMLP semaphore in two clusters: the request of task 1 sees two ends while blocked, and its bound is 1
abbrev pub two_clusters : Group
two_clusters =
    group_of plugins.CEdf (cluster_with 1 0 ∷ cluster_with 1 0 ∷ []) (shared Omlp ∷ []) [] (
    named 97 (using (1 ∷ []) (periodic 1 1 1000 100)) ∷
    named 98 (using (1 ∷ []) (in_cluster 1 (periodic 2 1 1000 100))) ∷
    named 99 (using (1 ∷ []) (in_cluster 1 (sporadic 3 1 1000 50))) ∷
    named 100 (using (1 ∷ []) (in_cluster 1 (sporadic 4 1 1000 20))) ∷
    [])

abbrev pub two_clusters_steps : List Step
two_clusters_steps =
    step_of 0 0 irq ∷
    step_of 1 0 irq ∷
    step_of 1 0 (lock 1) ∷
    step_of 0 0 (lock 1) ∷
    step_of 1 1 (arrive 3) ∷
    step_of 1 1 irq ∷
    step_of 1 1 (lock 1) ∷
    step_of 1 2 (arrive 4) ∷
    step_of 1 2 irq ∷
    step_of 1 2 (lock 1) ∷
    step_of 1 2 irq ∷
    step_of 1 2 (unlock 1) ∷
    step_of 1 2 irq ∷
    step_of 1 2 (unlock 1) ∷
    []

pub two_clusters-refused : refusal_of two_clusters.setup ≡ Some (bad kinds.Sharing parts.Sem 0)
unfolding rules_computed
two_clusters-refused = refl

pub two_clusters-past_bound : ends two_clusters 3 1 1 (past_by two_clusters [] two_clusters_steps) ≡ 2
unfolding computed
two_clusters-past_bound = refl

pub two_clusters-bound : bound two_clusters 1 1 ≡ Some 1
unfolding computed
two_clusters-bound = refl

-- a sporadic task that is released early: its second job is there before it arrives, and its base key changes while it holds a semaphore
abbrev pub early_sporadic : Group
early_sporadic =
    group_of plugins.GsnEdf (cluster_with 1 0 ∷ []) (shared Fmlp ∷ []) [] (
    named 97 (using (1 ∷ []) (early (sporadic 1 1 10 100))) ∷
    [])

abbrev pub early_sporadic_steps : List Step
early_sporadic_steps =
    step_of 0 0 (arrive 1) ∷
    step_of 0 0 irq ∷
    step_of 0 0 end ∷
    step_of 0 0 irq ∷
    step_of 0 0 (lock 1) ∷
    []

pub early_sporadic-refused : refusal_of early_sporadic.setup ≡ Some (bad kinds.Sharing parts.Task 0)
unfolding rules_computed
early_sporadic-refused = refl

pub early_sporadic-holds : holder early_sporadic 1 (past_by early_sporadic [] early_sporadic_steps) ≡ Some 1
unfolding computed
early_sporadic-holds = refl

pub early_sporadic-key :
    base_key early_sporadic 1 (past_by early_sporadic [] early_sporadic_steps) ≡ record { band = 2; major = 100; minor = 1 }
unfolding computed
early_sporadic-key = refl

pub early_sporadic-later_key :
    base_key early_sporadic 1 (past_by early_sporadic [] (early_sporadic_steps ++ step_of 0 10 (arrive 1) ∷ []))
    ≡ record { band = 2; major = 110; minor = 1 }
unfolding computed
early_sporadic-later_key = refl

-- two reservations of a cluster under P-RES, each with a client
abbrev pub reserved : Resv → Group
reserved r =
    group_of plugins.PRes (cluster_with 1 0 ∷ []) [] (
    record (table 10 1 (slot 0 3 ∷ [])) { name = 114 ∷ [] } ∷
    record r { name = 115 ∷ [] } ∷
    []) (
    named 97 (client_of 1 (periodic 1 5 100 100)) ∷
    named 98 (client_of 2 (periodic 2 1 100 100)) ∷
    [])

pub apart-valid : IsValid (reserved (table 10 1 (slot 5 6 ∷ []))).setup
unfolding rules_computed
apart-valid = refl

-- tables with a tick in common: at it both have something left
pub overlapping-refused : refusal_of (reserved (table 10 1 (slot 2 4 ∷ []))).setup ≡ Some (bad kinds.Sharing parts.Resv 1)
unfolding rules_computed
overlapping-refused = refl

pub overlapping-left-1 : left (reserved (table 10 1 (slot 2 4 ∷ []))) 1 (past_by (reserved (table 10 1 (slot 2 4 ∷ []))) [] (step_of 0 2 tick ∷ [])) ≡ 1
unfolding computed
overlapping-left-1 = refl

pub overlapping-left-2 : left (reserved (table 10 1 (slot 2 4 ∷ []))) 2 (past_by (reserved (table 10 1 (slot 2 4 ∷ []))) [] (step_of 0 2 tick ∷ [])) ≡ 2
unfolding computed
overlapping-left-2 = refl

-- tables of two cycles, and another kind beside a table
pub other_cycle-refused : refusal_of (reserved (table 20 1 (slot 5 6 ∷ []))).setup ≡ Some (bad kinds.Sharing parts.Resv 1)
unfolding rules_computed
other_cycle-refused = refl

pub polling_beside-refused : refusal_of (reserved (reservation resv_kinds.Polling 1 10 1)).setup ≡ Some (bad kinds.Sharing parts.Resv 1)
unfolding rules_computed
polling_beside-refused = refl

-- SRP stands under PSN-EDF alone, among tasks of one cluster, and beside no FMLP semaphore of a task there
abbrev pub srp_shared : Group
srp_shared = group_of plugins.PsnEdf (cluster_with 1 0 ∷ []) (shared Srp ∷ []) [] (named 97 (using (1 ∷ []) (periodic 1 1 1000 100)) ∷ [])

pub srp-valid : IsValid srp_shared.setup
unfolding rules_computed
srp-valid = refl

pub srp_under_fp-refused : refusal_of (record srp_shared.setup { plugin = plugins.PFp }) ≡ Some (bad kinds.Sharing parts.Sem 0)
unfolding rules_computed
srp_under_fp-refused = refl

abbrev pub srp_over_clusters : Group
srp_over_clusters =
    group_of plugins.PsnEdf (cluster_with 1 0 ∷ cluster_with 1 0 ∷ []) (shared Srp ∷ []) [] (
    named 97 (using (1 ∷ []) (periodic 1 1 1000 100)) ∷
    named 98 (in_cluster 1 (using (1 ∷ []) (periodic 2 1 1000 100))) ∷
    [])

pub srp_over_clusters-refused : refusal_of srp_over_clusters.setup ≡ Some (bad kinds.Sharing parts.Sem 0)
unfolding rules_computed
srp_over_clusters-refused = refl

abbrev pub srp_beside_fmlp : ℕ → Group
srp_beside_fmlp c =
    group_of plugins.PsnEdf (cluster_with 1 0 ∷ cluster_with 1 0 ∷ []) (shared Srp ∷ record (shared Fmlp) { name = 116 ∷ [] } ∷ []) [] (
    named 97 (using (1 ∷ []) (periodic 1 1 1000 100)) ∷
    named 98 (in_cluster c (using (2 ∷ []) (periodic 2 1 1000 100))) ∷
    [])

pub srp_beside_fmlp-refused : refusal_of (srp_beside_fmlp 0).setup ≡ Some (bad kinds.Sharing parts.Sem 0)
unfolding rules_computed
srp_beside_fmlp-refused = refl

pub fmlp_elsewhere-valid : IsValid (srp_beside_fmlp 1).setup
unfolding rules_computed
fmlp_elsewhere-valid = refl

-- slots out of order, a slot beyond the cycle, no slot, a budget that is not their sum, and slots of another kind
pub out_of_order-refused : refusal_of (reserved (table 10 1 (slot 6 8 ∷ slot 4 5 ∷ []))).setup ≡ Some (bad kinds.Range parts.Resv 1)
unfolding rules_computed
out_of_order-refused = refl

pub beyond-refused : refusal_of (reserved (table 10 1 (slot 8 11 ∷ []))).setup ≡ Some (bad kinds.Range parts.Resv 1)
unfolding rules_computed
beyond-refused = refl

pub no_slot-refused : refusal_of (reserved (record (table 10 1 []) { budget = 1 })).setup ≡ Some (bad kinds.Range parts.Resv 1)
unfolding rules_computed
no_slot-refused = refl

pub other_budget-refused : refusal_of (reserved (record (table 10 1 (slot 5 6 ∷ [])) { budget = 2 })).setup ≡ Some (bad kinds.Range parts.Resv 1)
unfolding rules_computed
other_budget-refused = refl

pub slots_of_polling-refused : refusal_of (reserved (record (reservation resv_kinds.Polling 1 10 1) { slots = slot 5 6 ∷ [] })).setup ≡ Some (bad kinds.Shape parts.Resv 1)
unfolding rules_computed
slots_of_polling-refused = refl

-- two tasks under PCP: the first is blocked by the one section of the second
abbrev pub pcp_pair : Group
pcp_pair =
    group_of plugins.PFp (cluster_with 1 0 ∷ []) (shared Pcp ∷ []) [] (
    named 97 (using (1 ∷ []) (with_prio 1 (sporadic 1 1 1000 1000))) ∷
    named 98 (using (1 ∷ []) (with_prio 2 (periodic 2 1 1000 1000))) ∷
    [])

abbrev pub pcp_pair_steps : List Step
pcp_pair_steps =
    step_of 0 0 irq ∷
    step_of 0 0 (lock 1) ∷
    step_of 0 1 (arrive 1) ∷
    step_of 0 1 irq ∷
    step_of 0 1 (lock 1) ∷
    step_of 0 1 irq ∷
    step_of 0 2 (unlock 1) ∷
    []

pub pcp_pair-valid : IsValid pcp_pair.setup
unfolding rules_computed
pcp_pair-valid = refl

pub pcp_pair-seen : sections_seen pcp_pair 1 (past_by pcp_pair [] pcp_pair_steps) ≡ 1
unfolding computed blocks_computed
pcp_pair-seen = refl

pub pcp_pair-section : was_blocked pcp_pair 1 2 1 (past_by pcp_pair [] pcp_pair_steps) ≡ true
unfolding computed blocks_computed
pcp_pair-section = refl

pub pcp_pair-prompt : is_prompt pcp_pair 1 (past_by pcp_pair [] pcp_pair_steps) ≡ true
unfolding computed blocks_computed
pcp_pair-prompt = refl

-- the interrupt is taken late: once task 1 is granted the semaphore, task 2 goes on where it should not, asks again and waits; so it is
-- granted the semaphore when task 1 gives it back, and blocks task 1 a second time
abbrev pub pcp_late_steps : List Step
pcp_late_steps =
    pcp_pair_steps ++
    step_of 0 2 (lock 1) ∷
    step_of 0 2 irq ∷
    step_of 0 3 (unlock 1) ∷
    step_of 0 3 (lock 1) ∷
    []

pub pcp_late-prompt : is_prompt pcp_pair 1 (past_by pcp_pair [] pcp_late_steps) ≡ false
unfolding computed blocks_computed
pcp_late-prompt = refl

pub pcp_late-waiting : waiting_at_first pcp_pair 1 (past_by pcp_pair [] pcp_late_steps) ≡ 0
unfolding computed blocks_computed
pcp_late-waiting = refl

pub pcp_late-seen : sections_seen pcp_pair 1 (past_by pcp_pair [] pcp_late_steps) ≡ 2
unfolding computed blocks_computed
pcp_late-seen = refl

-- the same job sleeps, and then begins anew to go on: it is blocked by another section of task 2
abbrev pub pcp_sleeper_steps : List Step
pcp_sleeper_steps =
    pcp_pair_steps ++
    step_of 0 2 irq ∷
    step_of 0 2 (unlock 1) ∷
    step_of 0 2 (sleep 2) ∷
    step_of 0 2 irq ∷
    step_of 0 2 (lock 1) ∷
    step_of 0 4 irq ∷
    step_of 0 4 (lock 1) ∷
    []

pub pcp_sleeper-job : done 1 (past_by pcp_pair [] pcp_sleeper_steps) ≡ 0
unfolding computed blocks_computed
pcp_sleeper-job = refl

pub pcp_sleeper-section : was_blocked pcp_pair 1 2 11 (past_by pcp_pair [] pcp_sleeper_steps) ≡ true
unfolding computed blocks_computed
pcp_sleeper-section = refl

pub pcp_sleeper-seen : sections_seen pcp_pair 1 (past_by pcp_pair [] pcp_sleeper_steps) ≡ 1
unfolding computed blocks_computed
pcp_sleeper-seen = refl

-- task 2 waits when task 1 begins, kept by a section of task 3: when task 1 gives its semaphore back task 2 is granted what it waits
-- for, though task 1 is ready and of higher base key, and its section blocks task 1 too
abbrev pub pcp_waiting : Group
pcp_waiting =
    group_of plugins.PFp (cluster_with 1 0 ∷ []) (shared Pcp ∷ record (shared Pcp) { name = 116 ∷ [] } ∷ []) [] (
    named 97 (using (1 ∷ 2 ∷ []) (with_prio 1 (sporadic 1 1 1000 1000))) ∷
    named 98 (using (2 ∷ []) (with_prio 2 (sporadic 2 1 1000 1000))) ∷
    named 99 (using (1 ∷ []) (with_prio 3 (periodic 3 1 1000 1000))) ∷
    [])

abbrev pub pcp_waiting_steps : List Step
pcp_waiting_steps =
    step_of 0 0 irq ∷
    step_of 0 0 (lock 1) ∷
    step_of 0 1 (arrive 2) ∷
    step_of 0 1 irq ∷
    step_of 0 1 (lock 2) ∷
    step_of 0 1 irq ∷
    step_of 0 2 (arrive 1) ∷
    step_of 0 2 irq ∷
    step_of 0 2 (lock 1) ∷
    step_of 0 2 irq ∷
    step_of 0 3 (unlock 1) ∷
    step_of 0 3 irq ∷
    step_of 0 3 (unlock 1) ∷
    step_of 0 3 (lock 2) ∷
    []

pub pcp_waiting-valid : IsValid pcp_waiting.setup
unfolding rules_computed
pcp_waiting-valid = refl

pub pcp_waiting-prompt : is_prompt pcp_waiting 1 (past_by pcp_waiting [] pcp_waiting_steps) ≡ true
unfolding computed blocks_computed
pcp_waiting-prompt = refl

pub pcp_waiting-first : waiting_at_first pcp_waiting 1 (past_by pcp_waiting [] pcp_waiting_steps) ≡ 1
unfolding computed blocks_computed
pcp_waiting-first = refl

pub pcp_waiting-seen : sections_seen pcp_waiting 1 (past_by pcp_waiting [] pcp_waiting_steps) ≡ 2
unfolding computed blocks_computed
pcp_waiting-seen = refl
