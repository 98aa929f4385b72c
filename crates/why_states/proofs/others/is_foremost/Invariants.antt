use Rattle.std.proofs.Common.{◌≡◌, ◌||◌, drop}
use Rattle.std.specs.Prelude.{◌==◌}
use Rattle.std.specs.List.{list_all}
use Rattle.rt_task.specs.declared.PluginKind.TheVariants as plugins
use Rattle.rt_model.specs.Blockers.{has_higher_ceiling}
use Rattle.why_lines.specs.GroupSets.{group_in}
use Rattle.why_lines.specs.SemNos.{sem_numbers}
use Rattle.why_states.proofs.others.is_foremost.Given as goal

-- the rest answers as the whole
abbrev pub invariant-loop-other : goal.invariant-loop-other
invariant-loop-other l = (group_in l.set).setup.plugin ≡ plugins.PFp → list_all (λ s. l.sem.0 == s || has_higher_ceiling (group_in l.set) l.sem.0 s) (sem_numbers (drop l.other-index l.held)) ≡ list_all (λ s. l.sem.0 == s || has_higher_ceiling (group_in l.set) l.sem.0 s) (sem_numbers l.held)
