-- Worked examples: two partitions and a semaphore of both.
use Rattle.std.specs.Prelude.{List, [], ◌∷◌, None, Some, refl}
use Rattle.rt_base.specs.declared.Ask.TheVariants.{Granted, Queued}
use Rattle.rt_task.specs.declared.PluginKind.TheVariants as plugins
use Rattle.rt_task.specs.declared.Protocol.TheVariants.{Fmlp}
use Rattle.rt_rules.specs.declared.history.Reply.TheVariants as replies
use Rattle.rt_model.specs.Group.{Group}
use Rattle.rt_model.specs.worked.Samples.{group_of, cluster_with, sem_under, periodic, in_cluster, using, irq, lock, unlock, runs_task}
use Rattle.split_rules.specs.worked.Computed.{computed_splits}
use Rattle.split_rules.specs.SemHistories.{IsLegalSem}
use Rattle.split_rules.specs.worked.Samples.{asks, frees, plain, take, books_of, IsPartPlay}
use Rattle.split_rules.specs.declared.SemEntry.{SemEntry}
use Rattle.split_rules.specs.declared.SplitEntry.{SplitEntry}

-- a task in each of two partitions, and an FMLP semaphore
abbrev pub two_parts : Group
two_parts =
    group_of plugins.PFp (cluster_with 1 0 ∷ cluster_with 1 0 ∷ []) (sem_under Fmlp ∷ []) [] (
    using (1 ∷ []) (periodic 1 1 1000 1000) ∷
    using (1 ∷ []) (in_cluster 1 (periodic 2 1 1000 1000)) ∷
    [])

-- the second asks while the first holds
abbrev pub passed_on : List SemEntry
passed_on = asks 0 1 Granted ∷ asks 1 2 Queued ∷ frees 0 1 (Some 2) ∷ []

pub passed_on_is_legal : IsLegalSem two_parts 1 passed_on
unfolding computed_splits
passed_on_is_legal = (
  record { at_home = refl; act = record { free_hands = refl; outside = refl; answer = refl } },
  (
    record { at_home = refl; act = record { free_hands = refl; outside = refl; answer = refl } },
    (
      record { at_home = refl; act = record { holds = refl; next = refl } },
      tt,
    ),
  ),
)

abbrev pub first_part : List SplitEntry
first_part = plain 0 irq (runs_task 1) ∷ plain 0 (lock 1) replies.Granted ∷ plain 0 (unlock 1) replies.Done ∷ []

pub first_part_is_play : IsPartPlay two_parts 0 (books_of (passed_on ∷ [])) first_part (Some 1) (Some 1 ∷ Some 1 ∷ Some 1 ∷ [])
unfolding computed_splits
first_part_is_play = record {
  legal = ((Granted, refl), ((Granted, refl), ((Granted, refl), tt)));
  did = refl;
  took = refl;
  rising = refl;
  opening = refl;
  links = refl;
}

abbrev pub second_part : List SplitEntry
second_part = plain 0 irq (runs_task 2) ∷ plain 0 (lock 1) replies.Queued ∷ take 0 1 2 2 ∷ []

pub second_part_is_play : IsPartPlay two_parts 1 (books_of (passed_on ∷ [])) second_part (Some 2) (Some 2 ∷ None ∷ Some 2 ∷ [])
unfolding computed_splits
second_part_is_play = record {
  legal = ((Granted, refl), ((Queued, refl), ((refl, refl, refl), tt)));
  did = refl;
  took = refl;
  rising = refl;
  opening = refl;
  links = refl;
}

-- the second asks once the first has freed it
abbrev pub freed : List SemEntry
freed = asks 0 1 Granted ∷ frees 0 1 None ∷ asks 1 2 Granted ∷ []

pub freed_is_legal : IsLegalSem two_parts 1 freed
unfolding computed_splits
freed_is_legal = (
  record { at_home = refl; act = record { free_hands = refl; outside = refl; answer = refl } },
  (
    record { at_home = refl; act = record { holds = refl; next = refl } },
    (
      record { at_home = refl; act = record { free_hands = refl; outside = refl; answer = refl } },
      tt,
    ),
  ),
)

pub first_part_again : IsPartPlay two_parts 0 (books_of (freed ∷ [])) first_part (Some 1) (Some 1 ∷ Some 1 ∷ Some 1 ∷ [])
unfolding computed_splits
first_part_again = record {
  legal = ((Granted, refl), ((Granted, refl), ((Granted, refl), tt)));
  did = refl;
  took = refl;
  rising = refl;
  opening = refl;
  links = refl;
}

pub second_part_takes_none : IsPartPlay two_parts 1 (books_of (freed ∷ [])) (plain 0 irq (runs_task 2) ∷
    plain 0 (lock 1) replies.Granted ∷ [])
    (Some 2) (Some 2 ∷ Some 2 ∷ [])
unfolding computed_splits
second_part_takes_none = record {
  legal = ((Granted, refl), ((Granted, refl), tt));
  did = refl;
  took = refl;
  rising = refl;
  opening = refl;
  links = refl;
}
