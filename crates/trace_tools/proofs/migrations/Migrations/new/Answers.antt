use Rattle.std.proofs.Common.{◌≡◌, ◌∙◌, ℕ, ◌+◌, List, ◌∷◌, ap, rules}
use Rattle.rt_base.specs.declared.TheConstants.{MOST_TASKS}
use Rattle.trace_tools.specs.Rules.{migration_rules, nowhere}
use Rattle.trace_tools.proofs.MigrationLaws.{moves-counted, nowhere-is}
use Rattle.trace_tools.proofs.migrations.Migrations.new.Goals as goal

pub returns-clause-tool : goal.returns-clause-tool
returns-clause-tool c =
    let items : c.in_ok-last_cpus.last_cpus.items ≡ nowhere (MOST_TASKS + 1) = c.in_ok-last_cpus.ensures.items_if_clones_equal (search rules) ∙ nowhere-is (MOST_TASKS + 1) in
    ap (λ (last_cpus : List ℕ). record { rules = migration_rules; state = 0 ∷ last_cpus }) items

pub returns-clause-counts : goal.returns-clause-counts
returns-clause-counts c = moves-counted

pub returns-in_err-last_cpus-clause-counts : goal.returns-in_err-last_cpus-clause-counts
returns-in_err-last_cpus-clause-counts c = moves-counted
