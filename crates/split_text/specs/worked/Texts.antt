-- Worked texts: those of two partitions and a semaphore of both, behind the line of the set.
use Rattle.std.specs.Prelude.{◌≡◌, ℕ, [], ◌∷◌, ◌++◌, codes, refl}
use Rattle.std.specs.Fmt.{digits}
use Rattle.rt_task.specs.declared.Task.{Task}
use Rattle.rt_task.specs.declared.PluginKind.TheVariants as plugins
use Rattle.rt_task.specs.declared.Protocol.TheVariants.{Fmlp}
use Rattle.rt_rules.specs.declared.history.Reply.TheVariants as replies
use Rattle.rt_model.specs.Group.{Group}
use Rattle.rt_model.specs.worked.Samples.{group_of, cluster_with, sem_under, periodic, in_cluster, using, irq, lock, runs_task}
use Rattle.split_rules.specs.worked.Computed.{computed_splits}
use Rattle.split_rules.specs.worked.Samples.{plain}
use Rattle.split_rules.specs.worked.Splits.{first_part, freed, passed_on, second_part}
use Rattle.split_text.specs.SplitText.{body_text, part_lines, parts_from}

abbrev pub named : ℕ → Task → Task
named n t = record t { name = n ∷ [] }

abbrev pub two_named : Group
two_named =
    group_of plugins.PFp (cluster_with 1 0 ∷ cluster_with 1 0 ∷ []) (sem_under Fmlp ∷ []) [] (
    using (1 ∷ []) (named 65 (periodic 1 1 1000 1000)) ∷
    using (1 ∷ []) (named 66 (in_cluster 1 (periodic 2 1 1000 1000))) ∷
    [])

-- the second asks while the first holds
pub passed_on_text : body_text two_named.setup (passed_on ∷ []) (first_part ∷ second_part ∷ []) ≡
    codes "sem 1\n0 0 @A ask granted\n1 1 @B ask queued\n2 0 @A release @B\n"
    ++ (codes "part 0 @A\n0 0 irq runs @A\n1 0 lock 1 granted\n2 0 unlock 1 done\n"
    ++ codes "part 1 @B\n0 0 irq runs @B\n1 0 lock 1 queued -\n2 0 take 1 2 done @B\nend\n")
unfolding digits computed_splits body_text parts_from part_lines
passed_on_text = refl

-- the second asks once the first has freed it
pub freed_text : body_text two_named.setup (freed ∷ [])
    (first_part ∷ (plain 0 irq (runs_task 2) ∷ plain 0 (lock 1) replies.Granted ∷ []) ∷ []) ≡
    codes "sem 1\n0 0 @A ask granted\n1 0 @A release -\n2 1 @B ask granted\n"
    ++ (codes "part 0 @A\n0 0 irq runs @A\n1 0 lock 1 granted\n2 0 unlock 1 done\n"
    ++ codes "part 1 @B\n0 0 irq runs @B\n1 0 lock 1 granted\nend\n")
unfolding digits computed_splits body_text parts_from part_lines
freed_text = refl
