-- A proof that computes with the definitions says `unfolding computed`.
use Rattle.rt_model.specs.Group.{task, cluster, sem, resv, cpus, home, in_group, clusters, first_cpu, processors, group_processors}
use Rattle.rt_model.specs.Group.{cluster_with, tasks, tasks_of, sems, protocol, declares, users, served_by, clients}
use Rattle.rt_model.specs.Jobs.{done, this_job, used, position_in_body}
use Rattle.rt_model.specs.Sleep.{wakes, sleeps}
use Rattle.rt_model.specs.NonPreemptive.{non_preemptive}
use Rattle.rt_model.specs.Releases.{arrivals, release_by, release, deadline, is_released, opens_early, exists, ready}
use Rattle.rt_model.specs.BaseKeys.{key_by, base_key, above}
use Rattle.rt_model.specs.Semaphores.{cluster_of, fmlp, omlp, mpcp}
use Rattle.rt_model.specs.Ceilings.{ceiling, above_ceiling, at_cluster, pcp}
use Rattle.rt_model.specs.Holders.{sem_state_by, sem_state, holder, holds, awaits, stack_by, last_granted}
use Rattle.rt_model.specs.StackPolicy.{srp_ceiling, srp_at, srp, passes_srp, has_srp}
use Rattle.rt_model.specs.UnderWay.{under_way}
use Rattle.rt_model.specs.Blockers.{has_higher_ceiling, blocker_among, blocker}
use Rattle.rt_model.specs.Boosts.{granted_at, mpcp_ceiling, boost_by, boost_of, boost}
use Rattle.rt_model.specs.EffectiveKeys.{next_by, next_at, waits_for, effective_key}
use Rattle.rt_model.specs.Reservations.{any_ready, earlier, front, begins_period, is_due, is_refill, first_refill, refilled, works_for}
use Rattle.rt_model.specs.Reservations.{spent, is_loss, is_lost, slot_now, left_by, left, last_by, last_of, last}
use Rattle.rt_model.specs.Runs.{runs}
use Rattle.rt_model.specs.Tops.{is_served, is_admitted, eligible, ranking, top}
use Rattle.rt_model.specs.Links.{runs_of, links, linked, pending}
use Rattle.rt_model.specs.Answers.{last_work, np_on, link_reply, irq_answer, may_arrive, arrival_answer, no_budget, work_answer, nests}
use Rattle.rt_model.specs.Answers.{is_granted, lock_answer, unlock_answer, unless_holding, op_answer, do_answer, answer}
use Rattle.rt_model.specs.Outcomes.{is_spent, ended_by, attempt, ended, past_act}
use Rattle.rt_model.specs.Situations.{ops_done_of, lacks_budget, situation, next_op, next_of, next_act}
use Rattle.rt_model.specs.Histories.{reply_to, after, past_from, past_of, past_by, changed, played, is_raise, raises_from, raises}
use Rattle.rt_model.specs.Blocking.{is_blocked, newest_request, is_open, ends_all, ends, bound_by, bound, requests}

unfoldable pub computed : Unit {0}
unfolding task cluster sem resv cpus home in_group clusters first_cpu processors group_processors cluster_with tasks tasks_of sems
    protocol declares users served_by clients done this_job used position_in_body wakes sleeps non_preemptive arrivals release_by
    release deadline is_released opens_early exists ready key_by base_key above cluster_of fmlp omlp mpcp ceiling above_ceiling
    at_cluster pcp sem_state_by sem_state holder holds awaits srp_ceiling srp_at srp passes_srp has_srp under_way stack_by
    last_granted has_higher_ceiling blocker_among blocker granted_at mpcp_ceiling boost_by boost_of boost next_by next_at
    waits_for effective_key any_ready earlier front begins_period is_due is_refill first_refill refilled works_for spent is_loss
    is_lost slot_now left_by left last_by last_of last runs is_served is_admitted eligible ranking top runs_of links linked pending
    last_work np_on link_reply irq_answer may_arrive arrival_answer no_budget work_answer nests is_granted lock_answer
    unlock_answer unless_holding op_answer do_answer answer is_spent ended_by attempt ended past_act ops_done_of lacks_budget
    situation next_op next_of next_act reply_to after past_from past_of past_by changed played is_raise raises_from raises
    is_blocked newest_request is_open ends_all ends bound_by bound requests
computed = tt
