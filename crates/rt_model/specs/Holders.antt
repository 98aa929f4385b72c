-- Who holds a semaphore and who waits for it, whatever its protocol.
use Rattle.std.specs.Prelude.{ℕ, List, Option, filter, find}
use Rattle.rt_task.specs.declared.PluginKind.{PluginKind}
use Rattle.rt_task.specs.declared.PluginKind.TheVariants as plugins
use Rattle.rt_task.specs.declared.Protocol.{Protocol}
use Rattle.rt_task.specs.declared.Protocol.TheVariants.{Pcp, Fmlp, Omlp, Mpcp, Srp}
use Rattle.rt_rules.specs.Numbers.{has, is}
use Rattle.rt_rules.specs.Omlp.{omlp_sem_state}
use Rattle.rt_rules.specs.Pcp.{TaskSem, pcp_sem_state}
use Rattle.rt_rules.specs.SemState.{SemState, in_line}
use Rattle.rt_rules.specs.Srp.{srp_sem_state, newest_held}
use Rattle.rt_model.specs.Ceilings.{pcp}
use Rattle.rt_model.specs.Group.{Group, home, sems, protocol}
use Rattle.rt_model.specs.Past.{Past}
use Rattle.rt_model.specs.Semaphores.{cluster_of, fmlp, omlp, mpcp}
use Rattle.rt_model.specs.StackPolicy.{srp}

module _ (g : Group) where
  unfoldable pub sem_state_by : Protocol → ℕ → Past → SemState
  sem_state_by Fmlp s past = in_line (fmlp g s past)
  sem_state_by Omlp s past = omlp_sem_state (omlp g s past)
  sem_state_by Mpcp s past = mpcp g s past
  sem_state_by Pcp s past = pcp_sem_state s (pcp g (cluster_of g s) past)
  sem_state_by Srp s past = srp_sem_state s (srp g (cluster_of g s) past)

  unfoldable pub sem_state : ℕ → Past → SemState
  sem_state s past = sem_state_by (protocol g s) s past

  unfoldable pub holder : ℕ → Past → Option ℕ
  holder s past = (sem_state s past).holder

  -- the semaphores that a task holds, and the one that it waits for
  unfoldable pub holds : ℕ → Past → List ℕ
  holds t past = filter (λ s. is t (holder s past)) (sems g)

  unfoldable pub awaits : ℕ → Past → Option ℕ
  awaits t past = find (λ s. has t (sem_state s past).waiting) (sems g)

  -- what the tasks of a cluster hold of the semaphores whose unlocks are last in, first out: under PSN-EDF those of SRP, else of PCP
  unfoldable pub stack_by : PluginKind → ℕ → Past → List TaskSem
  stack_by plugins.PsnEdf c past = srp g c past
  stack_by _ c past = (pcp g c past).held

  -- of these the one that a task was granted last among those that it holds
  unfoldable pub last_granted : ℕ → Past → Option ℕ
  last_granted t past = newest_held (stack_by g.setup.plugin (home g t) past) t
