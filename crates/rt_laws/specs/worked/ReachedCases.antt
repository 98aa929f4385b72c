-- Worked sets that reach what the laws of MPCP, FMLP and OMLP allow.
use Rattle.std.specs.Prelude.{◌≡◌, true, false, List, [], ◌∷◌, ◌++◌, Some, refl}
use Rattle.rt_task.specs.declared.PluginKind.TheVariants as plugins
use Rattle.rt_task.specs.declared.Protocol.TheVariants.{Fmlp, Mpcp}
use Rattle.rt_task.specs.declared.Step.{Step}
use Rattle.rt_task.specs.Validity.{IsValid}
use Rattle.rt_model.specs.Blocking.{Asked, ends_all, is_open, requests}
use Rattle.rt_model.specs.Boosts.{mpcp_ceiling}
use Rattle.rt_model.specs.worked.Computed.{computed}
use Rattle.rt_model.specs.Group.{Group, home}
use Rattle.rt_model.specs.Histories.{past_by}
use Rattle.rt_model.specs.Holders.{holder}
use Rattle.rt_model.specs.worked.Samples.{step_of, steps_of, group_of, cluster_with, periodic, sporadic, in_cluster, with_prio, using}
use Rattle.rt_model.specs.worked.Samples.{irq, lock, unlock}
use Rattle.rt_model.specs.worked.Mpcp.{mpcp_by_key_lines}
use Rattle.rt_laws.specs.BoostedHolders.{is_linked}
use Rattle.rt_laws.specs.worked.EdgeCases.{named, omlp_reached, omlp_reached_steps, rules_computed, shared}
use Rattle.rt_laws.specs.InOrder.{waits}
use Rattle.rt_laws.specs.LowerSections.{ends_lower}
use Rattle.rt_laws.specs.OmlpParts.{ends_in_fifo, ends_in_queue}

-- three users of an MPCP semaphore: the request of the second sees the critical section of the first end, whose priority is lower,
-- and then that of the third, whose priority is higher
abbrev pub mpcp_reached : Group
mpcp_reached =
    group_of plugins.PFp (cluster_with 1 0 ∷ cluster_with 1 0 ∷ cluster_with 1 0 ∷ []) (shared Mpcp ∷ []) [] (
    named 97 (using (1 ∷ []) (with_prio 5 (periodic 1 1 1000 1000))) ∷
    named 98 (using (1 ∷ []) (with_prio 4 (in_cluster 1 (periodic 2 1 1000 1000)))) ∷
    named 99 (using (1 ∷ []) (with_prio 3 (in_cluster 2 (periodic 3 1 1000 1000)))) ∷
    [])

abbrev pub mpcp_reached_steps : List Step
mpcp_reached_steps = steps_of mpcp_by_key_lines

pub mpcp_reached-valid : IsValid mpcp_reached.setup
unfolding rules_computed
mpcp_reached-valid = refl

pub mpcp_reached-lower : ends_lower mpcp_reached 4 2 1 (past_by mpcp_reached [] mpcp_reached_steps) ≡ 1
unfolding computed ends_lower
mpcp_reached-lower = refl

pub mpcp_reached-all : ends_all mpcp_reached 4 2 1 (past_by mpcp_reached [] mpcp_reached_steps) ≡ 2
unfolding computed
mpcp_reached-all = refl

-- three users of an MPCP semaphore: while the request of the first waits, the other two, whose priorities are higher, pass the semaphore on
-- to each other, and three critical sections end
abbrev pub mpcp_exceeded : Group
mpcp_exceeded =
    group_of plugins.PFp (cluster_with 1 0 ∷ cluster_with 1 0 ∷ cluster_with 1 0 ∷ []) (shared Mpcp ∷ []) [] (
    named 97 (using (1 ∷ []) (with_prio 5 (periodic 1 1 1000 1000))) ∷
    named 98 (using (1 ∷ []) (with_prio 4 (in_cluster 1 (periodic 2 1 1000 1000)))) ∷
    named 99 (using (1 ∷ []) (with_prio 3 (in_cluster 2 (periodic 3 1 1000 1000)))) ∷
    [])

abbrev pub mpcp_exceeded_steps : List Step
mpcp_exceeded_steps =
    step_of 0 0 irq ∷
    step_of 1 0 irq ∷
    step_of 2 0 irq ∷
    step_of 2 0 (lock 1) ∷
    step_of 0 0 (lock 1) ∷
    step_of 1 0 (lock 1) ∷
    step_of 2 1 (unlock 1) ∷
    step_of 2 1 (lock 1) ∷
    step_of 1 1 irq ∷
    step_of 1 2 (unlock 1) ∷
    step_of 1 2 (lock 1) ∷
    step_of 2 2 irq ∷
    step_of 2 3 (unlock 1) ∷
    []

pub mpcp_exceeded-valid : IsValid mpcp_exceeded.setup
unfolding rules_computed
mpcp_exceeded-valid = refl

pub mpcp_exceeded-open : is_open mpcp_exceeded 4 1 1 (past_by mpcp_exceeded [] mpcp_exceeded_steps) ≡ true
unfolding computed
mpcp_exceeded-open = refl

pub mpcp_exceeded-all : ends_all mpcp_exceeded 4 1 1 (past_by mpcp_exceeded [] mpcp_exceeded_steps) ≡ 3
unfolding computed
mpcp_exceeded-all = refl

pub mpcp_exceeded-lower : ends_lower mpcp_exceeded 4 1 1 (past_by mpcp_exceeded [] mpcp_exceeded_steps) ≡ 0
unfolding computed ends_lower
mpcp_exceeded-lower = refl

-- the third request of the set that reaches the OMLP bound of 3 sees 2 of the critical sections end in the priority queue, and 1 in the
-- FIFO list
pub omlp_reached-in_queue : ends_in_queue omlp_reached 6 3 1 (past_by omlp_reached [] omlp_reached_steps) ≡ 2
unfolding computed ends_in_queue
omlp_reached-in_queue = refl

pub omlp_reached-in_fifo : ends_in_fifo omlp_reached 6 3 1 (past_by omlp_reached [] omlp_reached_steps) ≡ 1
unfolding computed ends_in_fifo
omlp_reached-in_fifo = refl

-- two MPCP holders of one cluster, tasks 2 and 3: the ceiling of semaphore 2 is the higher one, 3 and not 4, so task 3 is linked
abbrev pub mpcp_passed : Group
mpcp_passed =
    group_of plugins.PFp (cluster_with 1 0 ∷ cluster_with 1 0 ∷ []) (shared Mpcp ∷ record (shared Mpcp) { name = 116 ∷ [] } ∷ []) [] (
    named 97 (using (1 ∷ []) (with_prio 1 (sporadic 1 1 1000 1000))) ∷
    named 98 (using (1 ∷ []) (with_prio 6 (periodic 2 1 1000 1000))) ∷
    named 99 (using (2 ∷ []) (with_prio 5 (periodic 3 1 1000 1000))) ∷
    named 100 (using (1 ∷ []) (with_prio 4 (in_cluster 1 (sporadic 4 1 1000 1000)))) ∷
    named 101 (using (2 ∷ []) (with_prio 3 (in_cluster 1 (periodic 5 1 1000 1000)))) ∷
    [])

abbrev pub mpcp_passed_steps : List Step
mpcp_passed_steps =
    step_of 1 0 irq ∷
    step_of 1 0 (lock 2) ∷
    step_of 0 0 irq ∷
    step_of 0 0 (lock 2) ∷
    step_of 0 0 irq ∷
    step_of 0 0 (lock 1) ∷
    step_of 1 1 (unlock 2) ∷
    []

pub mpcp_passed-valid : IsValid mpcp_passed.setup
unfolding rules_computed
mpcp_passed-valid = refl

pub mpcp_passed-holds : holder mpcp_passed 1 (past_by mpcp_passed [] mpcp_passed_steps) ≡ Some 2
unfolding computed
mpcp_passed-holds = refl

pub mpcp_passed-not_linked : is_linked mpcp_passed (home mpcp_passed 2) 2 (past_by mpcp_passed [] mpcp_passed_steps) ≡ false
unfolding computed
mpcp_passed-not_linked = refl

pub mpcp_passed-other_holds : holder mpcp_passed 2 (past_by mpcp_passed [] mpcp_passed_steps) ≡ Some 3
unfolding computed
mpcp_passed-other_holds = refl

pub mpcp_passed-ceiling : mpcp_ceiling mpcp_passed 1 2 ≡ 4
unfolding computed
mpcp_passed-ceiling = refl

pub mpcp_passed-other_ceiling : mpcp_ceiling mpcp_passed 2 3 ≡ 3
unfolding computed
mpcp_passed-other_ceiling = refl

pub mpcp_passed-linked : is_linked mpcp_passed (home mpcp_passed 2) 3 (past_by mpcp_passed [] mpcp_passed_steps) ≡ true
unfolding computed
mpcp_passed-linked = refl

-- three users of an FMLP semaphore: the second and the third wait, until the first gives it to the second
abbrev pub fmlp_in_line : Group
fmlp_in_line =
    group_of plugins.GsnEdf (cluster_with 3 0 ∷ []) (shared Fmlp ∷ []) [] (
    named 97 (using (1 ∷ []) (periodic 1 1 1000 100)) ∷
    named 98 (using (1 ∷ []) (periodic 2 1 1000 100)) ∷
    named 99 (using (1 ∷ []) (periodic 3 1 1000 100)) ∷
    [])

abbrev pub fmlp_in_line_steps : List Step
fmlp_in_line_steps =
    step_of 0 0 irq ∷
    step_of 1 0 irq ∷
    step_of 2 0 irq ∷
    step_of 0 0 (lock 1) ∷
    step_of 2 0 (lock 1) ∷
    step_of 1 0 (lock 1) ∷
    []

abbrev pub fmlp_in_line_first : Asked
fmlp_in_line_first = record { no = 4; task = 3; sem = 1 }

abbrev pub fmlp_in_line_second : Asked
fmlp_in_line_second = record { no = 5; task = 2; sem = 1 }

abbrev pub fmlp_in_line_freed : List Step
fmlp_in_line_freed = fmlp_in_line_steps ++ step_of 0 1 (unlock 1) ∷ []

pub fmlp_in_line-valid : IsValid fmlp_in_line.setup
unfolding rules_computed
fmlp_in_line-valid = refl

pub fmlp_in_line-requests :
    requests (past_by fmlp_in_line [] fmlp_in_line_steps) ≡
    record { no = 3; task = 1; sem = 1 } ∷
    fmlp_in_line_first ∷
    fmlp_in_line_second ∷
    []
unfolding computed
fmlp_in_line-requests = refl

pub fmlp_in_line-first_waits : waits fmlp_in_line fmlp_in_line_first (past_by fmlp_in_line [] fmlp_in_line_steps) ≡ true
unfolding computed
fmlp_in_line-first_waits = refl

pub fmlp_in_line-second_waits : waits fmlp_in_line fmlp_in_line_second (past_by fmlp_in_line [] fmlp_in_line_steps) ≡ true
unfolding computed
fmlp_in_line-second_waits = refl

pub fmlp_in_line-first_granted : waits fmlp_in_line fmlp_in_line_first (past_by fmlp_in_line [] fmlp_in_line_freed) ≡ false
unfolding computed
fmlp_in_line-first_granted = refl

pub fmlp_in_line-second_waits_on : waits fmlp_in_line fmlp_in_line_second (past_by fmlp_in_line [] fmlp_in_line_freed) ≡ true
unfolding computed
fmlp_in_line-second_waits_on = refl
