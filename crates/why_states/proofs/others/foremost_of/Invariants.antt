use Rattle.std.proofs.Common.{◌≡◌, ◌||◌, drop}
use Rattle.std.specs.Prelude.{◌==◌, find}
use Rattle.std.specs.List.{list_all}
use Rattle.rt_task.specs.declared.PluginKind.TheVariants as plugins
use Rattle.rt_model.specs.Blockers.{has_higher_ceiling}
use Rattle.why_lines.specs.GroupSets.{group_in}
use Rattle.why_lines.specs.SemNos.{sem_numbers}
use Rattle.why_states.proofs.others.foremost_of.Given as goal

-- the rest answers as the whole
abbrev pub invariant-loop-sem : goal.invariant-loop-sem
invariant-loop-sem l = (group_in l.set).setup.plugin ≡ plugins.PFp
    → find (λ s. list_all (λ r. s == r || has_higher_ceiling (group_in l.set) s r) (sem_numbers l.held)) (sem_numbers (drop l.sem-index l.held)) ≡ find (λ s. list_all (λ r. s == r || has_higher_ceiling (group_in l.set) s r) (sem_numbers l.held)) (sem_numbers l.held)
