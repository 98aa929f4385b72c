-- A worked example: an interrupt that finds nothing takes what was raised before it.
use Rattle.std.specs.Prelude.{◌≡◌, ℕ, List, [], ◌∷◌, Some, refl}
use Rattle.rt_task.specs.declared.PluginKind.TheVariants as plugins
use Rattle.rt_task.specs.declared.Protocol.TheVariants.{Fmlp}
use Rattle.rt_rules.specs.declared.history.Reply.TheVariants.{Done, Granted, Quiet}
use Rattle.rt_model.specs.worked.Computed.{computed}
use Rattle.rt_model.specs.Group.{Group}
use Rattle.rt_model.specs.worked.Samples.{Line, line, entries_of, IsTrace, group_of, cluster_with, sem_under, periodic, sporadic, using}
use Rattle.rt_model.specs.worked.Samples.{irq, arrive, lock, runs_task, to}
use Rattle.cpu_site.specs.Seats.{last_irq, word_taken}

-- task 1 of the earlier deadline arrives while task 2 runs, which then locks and is boosted: it has the link again
abbrev pub quiet_irq : Group
quiet_irq =
    group_of plugins.PsnEdf (cluster_with 1 0 ∷ []) (sem_under Fmlp ∷ []) [] (
    sporadic 1 1 1000 10 ∷
    using (1 ∷ []) (periodic 2 1 1000 100) ∷
    [])

abbrev pub quiet_irq_lines : List Line
quiet_irq_lines =
    line 0 0 irq (runs_task 2) [] ∷
    line 0 0 (arrive 1) Done (to 0 (Some 1) ∷ []) ∷
    line 0 0 (lock 1) Granted (to 0 (Some 2) ∷ []) ∷
    line 0 0 irq Quiet [] ∷
    []

pub quiet_irq_played : IsTrace quiet_irq (to 0 (Some 2) ∷ []) quiet_irq_lines
unfolding computed
quiet_irq_played = (refl, refl)

-- the arrival raised one, and the second interrupt took it, though it was quiet; at the first one the word was 0
pub quiet_irq_last : last_irq 0 (entries_of quiet_irq_lines) ≡ 4
quiet_irq_last = refl

pub quiet_irq_taken : word_taken quiet_irq 0 (entries_of quiet_irq_lines) ≡ 1
unfolding computed
quiet_irq_taken = refl
