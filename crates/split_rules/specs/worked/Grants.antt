-- Worked examples: boosts, ceilings and the order of grants.
use Rattle.std.specs.Prelude.{false, List, [], ◌∷◌, None, Some, refl}
use Rattle.rt_base.specs.declared.Ask.TheVariants.{Granted, Queued}
use Rattle.rt_task.specs.declared.Kind.TheVariants.{Periodic}
use Rattle.rt_task.specs.declared.PluginKind.TheVariants as plugins
use Rattle.rt_task.specs.declared.Protocol.TheVariants.{Fmlp, Mpcp}
use Rattle.rt_rules.specs.declared.history.Reply.TheVariants as replies
use Rattle.rt_model.specs.Group.{Group}
use Rattle.rt_model.specs.worked.Samples.{group_of, cluster_with, sem_under, task_with, in_group, tick, irq, work, lock, unlock, end}
use Rattle.rt_model.specs.worked.Samples.{runs_task}
use Rattle.split_rules.specs.worked.Computed.{computed_splits}
use Rattle.split_rules.specs.SemHistories.{IsLegalSem}
use Rattle.split_rules.specs.worked.Samples.{asks, frees, plain, take, books_of, IsPartPlay}
use Rattle.split_rules.specs.declared.SemEntry.{SemEntry}
use Rattle.split_rules.specs.declared.SplitEntry.{SplitEntry}

-- a boost is of the clock at which the partition takes the grant, and not of that at which it was given: the task that holds since 3
-- stays linked
abbrev pub late_take : Group
late_take =
    group_of plugins.PFp (cluster_with 1 0 ∷ cluster_with 1 0 ∷ []) (sem_under Fmlp ∷ sem_under Fmlp ∷ []) [] (
    task_with 1 0 1 1000 1000 0 Periodic 1 false (1 ∷ []) None ∷
    task_with 2 0 1 1000 1000 0 Periodic 2 false (2 ∷ []) None ∷
    task_with 3 1 1 1000 1000 0 Periodic 3 false (1 ∷ []) None ∷
    [])

abbrev pub late_take_of_1 : List SemEntry
late_take_of_1 = asks 1 3 Granted ∷ asks 0 1 Queued ∷ frees 1 3 (Some 1) ∷ []

pub late_take_of_1_is_legal : IsLegalSem late_take 1 late_take_of_1
unfolding computed_splits
late_take_of_1_is_legal = (
  record { at_home = refl; act = record { free_hands = refl; outside = refl; answer = refl } },
  (
    record { at_home = refl; act = record { free_hands = refl; outside = refl; answer = refl } },
    (
      record { at_home = refl; act = record { holds = refl; next = refl } },
      tt,
    ),
  ),
)

abbrev pub late_take_of_2 : List SemEntry
late_take_of_2 = asks 0 2 Granted ∷ frees 0 2 None ∷ []

pub late_take_of_2_is_legal : IsLegalSem late_take 2 late_take_of_2
unfolding computed_splits
late_take_of_2_is_legal = (
  record { at_home = refl; act = record { free_hands = refl; outside = refl; answer = refl } },
  (
    record { at_home = refl; act = record { holds = refl; next = refl } },
    tt,
  ),
)

abbrev pub late_take_at_0_entries : List SplitEntry
late_take_at_0_entries =
    plain 0 irq (runs_task 1) ∷
    plain 0 (lock 1) replies.Queued ∷
    plain 0 irq (runs_task 2) ∷
    plain 3 (lock 2) replies.Granted ∷
    plain 5 tick replies.Done ∷
    take 5 1 2 1 ∷
    plain 5 irq replies.Quiet ∷
    plain 5 (unlock 2) replies.Done ∷
    plain 5 irq (runs_task 1) ∷
    []

pub late_take_at_0 : IsPartPlay (in_group 0 late_take) 0 (books_of (late_take_of_1 ∷ late_take_of_2 ∷ [])) late_take_at_0_entries (Some 1)
    (Some 1 ∷ Some 2 ∷ Some 2 ∷ Some 2 ∷ Some 2 ∷ Some 2 ∷ Some 2 ∷ Some 1 ∷ Some 1 ∷ [])
unfolding computed_splits
late_take_at_0 = record {
  legal = (
    (Granted, refl),
    (
      (Queued, refl),
      (
        (Granted, refl),
        (
          (Granted, refl),
          (
            (Granted, refl),
            (
              (refl, refl, refl),
              ((Granted, refl), ((Granted, refl), ((Granted, refl), tt))),
            ),
          ),
        ),
      ),
    ),
  );
  did = refl;
  took = refl;
  rising = refl;
  opening = refl;
  links = refl;
}

abbrev pub late_take_at_1_entries : List SplitEntry
late_take_at_1_entries =
    plain 0 irq (runs_task 3) ∷
    plain 0 (lock 1) replies.Granted ∷
    plain 1 (unlock 1) replies.Done ∷
    []

pub late_take_at_1 : IsPartPlay (in_group 0 late_take) 1 (books_of (late_take_of_1 ∷ late_take_of_2 ∷ [])) late_take_at_1_entries (Some 3)
    (Some 3 ∷ Some 3 ∷ Some 3 ∷ [])
unfolding computed_splits
late_take_at_1 = record {
  legal = ((Granted, refl), ((Granted, refl), ((Granted, refl), tt)));
  did = refl;
  took = refl;
  rising = refl;
  opening = refl;
  links = refl;
}

-- MPCP: the waiting task of the highest base key is next, whichever partition is its own
abbrev pub by_key : Group
by_key =
    group_of plugins.PFp (cluster_with 1 0 ∷ cluster_with 1 0 ∷ cluster_with 1 0 ∷ []) (sem_under Mpcp ∷ []) [] (
    task_with 1 0 1 1000 1000 0 Periodic 5 false (1 ∷ []) None ∷
    task_with 2 1 1 1000 1000 0 Periodic 4 false (1 ∷ []) None ∷
    task_with 3 2 1 1000 1000 0 Periodic 3 false (1 ∷ []) None ∷
    [])

abbrev pub by_key_of_1 : List SemEntry
by_key_of_1 = asks 0 1 Granted ∷ asks 1 2 Queued ∷ asks 2 3 Queued ∷ frees 0 1 (Some 3) ∷ frees 2 3 (Some 2) ∷ frees 1 2 None ∷ []

pub by_key_of_1_is_legal : IsLegalSem by_key 1 by_key_of_1
unfolding computed_splits
by_key_of_1_is_legal = (
  record { at_home = refl; act = record { free_hands = refl; outside = refl; answer = refl } },
  (
    record { at_home = refl; act = record { free_hands = refl; outside = refl; answer = refl } },
    (
      record { at_home = refl; act = record { free_hands = refl; outside = refl; answer = refl } },
      (
        record { at_home = refl; act = record { holds = refl; next = refl } },
        (
          record { at_home = refl; act = record { holds = refl; next = refl } },
          (
            record { at_home = refl; act = record { holds = refl; next = refl } },
            tt,
          ),
        ),
      ),
    ),
  ),
)

abbrev pub by_key_at_0_entries : List SplitEntry
by_key_at_0_entries =
    plain 0 irq (runs_task 1) ∷
    plain 0 (lock 1) replies.Granted ∷
    plain 1 (unlock 1) replies.Done ∷
    []

pub by_key_at_0 : IsPartPlay (in_group 0 by_key) 0 (books_of (by_key_of_1 ∷ [])) by_key_at_0_entries (Some 1)
    (Some 1 ∷ Some 1 ∷ Some 1 ∷ [])
unfolding computed_splits
by_key_at_0 = record {
  legal = ((Granted, refl), ((Granted, refl), ((Granted, refl), tt)));
  did = refl;
  took = refl;
  rising = refl;
  opening = refl;
  links = refl;
}

abbrev pub by_key_at_1_entries : List SplitEntry
by_key_at_1_entries =
    plain 0 irq (runs_task 2) ∷
    plain 0 (lock 1) replies.Queued ∷
    take 0 1 4 2 ∷
    plain 2 irq (runs_task 2) ∷
    plain 2 (unlock 1) replies.Done ∷
    []

pub by_key_at_1 : IsPartPlay (in_group 0 by_key) 1 (books_of (by_key_of_1 ∷ [])) by_key_at_1_entries (Some 2)
    (Some 2 ∷ None ∷ Some 2 ∷ Some 2 ∷ Some 2 ∷ [])
unfolding computed_splits
by_key_at_1 = record {
  legal = ((Granted, refl), ((Queued, refl), ((refl, refl, refl), ((Granted, refl), ((Granted, refl), tt)))));
  did = refl;
  took = refl;
  rising = refl;
  opening = refl;
  links = refl;
}

abbrev pub by_key_at_2_entries : List SplitEntry
by_key_at_2_entries =
    plain 0 irq (runs_task 3) ∷
    plain 0 (lock 1) replies.Queued ∷
    take 0 1 3 3 ∷
    plain 1 irq (runs_task 3) ∷
    plain 1 (unlock 1) replies.Done ∷
    []

pub by_key_at_2 : IsPartPlay (in_group 0 by_key) 2 (books_of (by_key_of_1 ∷ [])) by_key_at_2_entries (Some 3)
    (Some 3 ∷ None ∷ Some 3 ∷ Some 3 ∷ Some 3 ∷ [])
unfolding computed_splits
by_key_at_2 = record {
  legal = ((Granted, refl), ((Queued, refl), ((refl, refl, refl), ((Granted, refl), ((Granted, refl), tt)))));
  did = refl;
  took = refl;
  rising = refl;
  opening = refl;
  links = refl;
}

-- a task asks for a semaphore that was granted to another of its partition, which has not taken the grant yet
abbrev pub before_the_take : Group
before_the_take =
    group_of plugins.PFp (cluster_with 1 0 ∷ cluster_with 1 0 ∷ []) (sem_under Mpcp ∷ []) [] (
    task_with 1 0 1 1000 1000 0 Periodic 4 false (1 ∷ []) None ∷
    task_with 2 0 1 1000 1000 2 Periodic 2 false (1 ∷ []) None ∷
    task_with 3 1 1 1000 1000 0 Periodic 3 false (1 ∷ []) None ∷
    [])

abbrev pub before_the_take_of_1 : List SemEntry
before_the_take_of_1 =
    asks 1 3 Granted ∷
    asks 0 1 Queued ∷
    frees 1 3 (Some 1) ∷
    asks 0 2 Queued ∷
    frees 0 1 (Some 2) ∷
    frees 0 2 None ∷
    []

pub before_the_take_of_1_is_legal : IsLegalSem before_the_take 1 before_the_take_of_1
unfolding computed_splits
before_the_take_of_1_is_legal = (
  record { at_home = refl; act = record { free_hands = refl; outside = refl; answer = refl } },
  (
    record { at_home = refl; act = record { free_hands = refl; outside = refl; answer = refl } },
    (
      record { at_home = refl; act = record { holds = refl; next = refl } },
      (
        record { at_home = refl; act = record { free_hands = refl; outside = refl; answer = refl } },
        (
          record { at_home = refl; act = record { holds = refl; next = refl } },
          (
            record { at_home = refl; act = record { holds = refl; next = refl } },
            tt,
          ),
        ),
      ),
    ),
  ),
)

abbrev pub before_the_take_at_0_entries : List SplitEntry
before_the_take_at_0_entries =
    plain 0 irq (runs_task 1) ∷
    plain 0 (lock 1) replies.Queued ∷
    plain 2 irq (runs_task 2) ∷
    plain 2 (lock 1) replies.Queued ∷
    take 2 1 2 1 ∷
    plain 2 irq (runs_task 1) ∷
    plain 3 (unlock 1) replies.Done ∷
    take 3 1 4 2 ∷
    plain 3 irq (runs_task 2) ∷
    plain 3 (unlock 1) replies.Done ∷
    []

pub before_the_take_at_0 : IsPartPlay (in_group 0 before_the_take) 0 (books_of (before_the_take_of_1 ∷
    [])) before_the_take_at_0_entries (Some 1)
    (Some 1 ∷ None ∷ Some 2 ∷ None ∷ Some 1 ∷ Some 1 ∷ Some 1 ∷ Some 2 ∷ Some 2 ∷ Some 2 ∷ [])
unfolding computed_splits
before_the_take_at_0 = record {
  legal = (
    (Granted, refl),
    (
      (Queued, refl),
      (
        (Granted, refl),
        (
          (Queued, refl),
          (
            (refl, refl, refl),
            (
              (Granted, refl),
              ((Granted, refl), ((refl, refl, refl), ((Granted, refl), ((Granted, refl), tt)))),
            ),
          ),
        ),
      ),
    ),
  );
  did = refl;
  took = refl;
  rising = refl;
  opening = refl;
  links = refl;
}

abbrev pub before_the_take_at_1_entries : List SplitEntry
before_the_take_at_1_entries =
    plain 0 irq (runs_task 3) ∷
    plain 0 (lock 1) replies.Granted ∷
    plain 0 (unlock 1) replies.Done ∷
    []

pub before_the_take_at_1 : IsPartPlay (in_group 0 before_the_take) 1 (books_of (before_the_take_of_1 ∷
    [])) before_the_take_at_1_entries (Some 3)
    (Some 3 ∷ Some 3 ∷ Some 3 ∷ [])
unfolding computed_splits
before_the_take_at_1 = record {
  legal = ((Granted, refl), ((Granted, refl), ((Granted, refl), tt)));
  did = refl;
  took = refl;
  rising = refl;
  opening = refl;
  links = refl;
}

-- each reply but those to a Lock comes of the partition alone; a boosted holder stays linked
abbrev pub replies_of_one : Group
replies_of_one =
    group_of plugins.PsnEdf (cluster_with 1 0 ∷ cluster_with 1 0 ∷ []) (sem_under Fmlp ∷ sem_under Fmlp ∷ sem_under Fmlp ∷ []) [] (
    task_with 1 0 1 10 10 0 Periodic 1 false (1 ∷ 2 ∷ []) None ∷
    task_with 2 0 1 100 20 0 Periodic 1 false (2 ∷ []) None ∷
    task_with 3 1 1 1000 1000 0 Periodic 1 false (3 ∷ []) None ∷
    [])

abbrev pub replies_of_one_of_1 : List SemEntry
replies_of_one_of_1 = asks 0 1 Granted ∷ frees 0 1 None ∷ []

pub replies_of_one_of_1_is_legal : IsLegalSem replies_of_one 1 replies_of_one_of_1
unfolding computed_splits
replies_of_one_of_1_is_legal = (
  record { at_home = refl; act = record { free_hands = refl; outside = refl; answer = refl } },
  (
    record { at_home = refl; act = record { holds = refl; next = refl } },
    tt,
  ),
)

abbrev pub replies_of_one_of_2 : List SemEntry
replies_of_one_of_2 = asks 0 2 Granted ∷ frees 0 2 None ∷ []

pub replies_of_one_of_2_is_legal : IsLegalSem replies_of_one 2 replies_of_one_of_2
unfolding computed_splits
replies_of_one_of_2_is_legal = (
  record { at_home = refl; act = record { free_hands = refl; outside = refl; answer = refl } },
  (
    record { at_home = refl; act = record { holds = refl; next = refl } },
    tt,
  ),
)

abbrev pub replies_of_one_of_3 : List SemEntry
replies_of_one_of_3 = []

pub replies_of_one_of_3_is_legal : IsLegalSem replies_of_one 3 replies_of_one_of_3
unfolding computed_splits
replies_of_one_of_3_is_legal = tt

abbrev pub replies_of_one_at_0_entries : List SplitEntry
replies_of_one_at_0_entries =
    plain 0 work replies.Idle ∷
    plain 0 irq (runs_task 1) ∷
    plain 0 irq replies.Quiet ∷
    plain 0 work replies.Done ∷
    plain 0 work replies.Spent ∷
    plain 0 (lock 3) replies.NotDeclared ∷
    plain 0 (lock 1) replies.Granted ∷
    plain 0 (lock 2) replies.Nested ∷
    plain 0 (unlock 2) replies.NotHeld ∷
    plain 0 end replies.Holding ∷
    plain 1 work replies.Done ∷
    plain 1 (unlock 1) replies.Done ∷
    plain 1 end replies.Done ∷
    plain 2 irq (runs_task 2) ∷
    plain 12 tick replies.Done ∷
    plain 11 (lock 2) replies.Granted ∷
    plain 12 irq replies.Quiet ∷
    plain 12 (unlock 2) replies.Done ∷
    plain 12 irq (runs_task 1) ∷
    plain 12 end replies.Done ∷
    plain 12 irq (runs_task 2) ∷
    plain 12 end replies.Done ∷
    plain 12 irq replies.Quiet ∷
    []

pub replies_of_one_at_0 : IsPartPlay (in_group 0 replies_of_one) 0 (books_of (replies_of_one_of_1 ∷ replies_of_one_of_2 ∷
    replies_of_one_of_3 ∷ [])) replies_of_one_at_0_entries (Some 1)
    (Some 1 ∷ Some 1 ∷ Some 1 ∷ Some 1 ∷ Some 1 ∷ Some 1 ∷ Some 1 ∷ Some 1 ∷ Some 1 ∷ Some 1 ∷ Some 1 ∷ Some 1 ∷ Some 2 ∷ Some 2 ∷
    Some 1 ∷ Some 2 ∷ Some 2 ∷ Some 1 ∷ Some 1 ∷ Some 2 ∷ Some 2 ∷ None ∷ None ∷ [])
unfolding computed_splits
replies_of_one_at_0 = record {
  legal = (
    (Granted, refl),
    (
      (Granted, refl),
      (
        (Granted, refl),
        (
          (Granted, refl),
          (
            (Granted, refl),
            (
              (Granted, refl),
              (
                (Granted, refl),
                (
                  (Granted, refl),
                  (
                    (Granted, refl),
                    (
                      (Granted, refl),
                      (
                        (Granted, refl),
                        (
                          (Granted, refl),
                          (
                            (Granted, refl),
                            (
                              (Granted, refl),
                              (
                                (Granted, refl),
                                (
                                  (Granted, refl),
                                  (
                                    (Granted, refl),
                                    (
                                      (Granted, refl),
                                      (
                                        (Granted, refl),
                                        (
                                          (Granted, refl),
                                          (
                                            (Granted, refl),
                                            ((Granted, refl), ((Granted, refl), tt)),
                                          ),
                                        ),
                                      ),
                                    ),
                                  ),
                                ),
                              ),
                            ),
                          ),
                        ),
                      ),
                    ),
                  ),
                ),
              ),
            ),
          ),
        ),
      ),
    ),
  );
  did = refl;
  took = refl;
  rising = refl;
  opening = refl;
  links = refl;
}

pub replies_of_one_at_1 : IsPartPlay (in_group 0 replies_of_one) 1 (books_of (replies_of_one_of_1 ∷ replies_of_one_of_2 ∷
    replies_of_one_of_3 ∷ [])) [] (Some 3) []
unfolding computed_splits
replies_of_one_at_1 = record {
  legal = tt;
  did = refl;
  took = refl;
  rising = refl;
  opening = refl;
  links = refl;
}

-- MPCP holders go by the priority numbers of the tasks of other clusters: a holder of semaphore 2, by 3, comes before one of
-- semaphore 1, by 4
abbrev pub by_ceiling : Group
by_ceiling =
    group_of plugins.PFp (cluster_with 1 0 ∷ cluster_with 1 0 ∷ []) (sem_under Mpcp ∷ sem_under Mpcp ∷ []) [] (
    task_with 1 0 1 1000 1000 0 Periodic 1 false (1 ∷ []) None ∷
    task_with 2 0 1 1000 1000 0 Periodic 6 false (2 ∷ []) None ∷
    task_with 3 1 1 1000 1000 0 Periodic 4 false (1 ∷ []) None ∷
    task_with 4 1 1 1000 1000 0 Periodic 3 false (2 ∷ []) None ∷
    [])

abbrev pub by_ceiling_of_1 : List SemEntry
by_ceiling_of_1 = asks 1 3 Granted ∷ asks 0 1 Queued ∷ frees 1 3 (Some 1) ∷ []

pub by_ceiling_of_1_is_legal : IsLegalSem by_ceiling 1 by_ceiling_of_1
unfolding computed_splits
by_ceiling_of_1_is_legal = (
  record { at_home = refl; act = record { free_hands = refl; outside = refl; answer = refl } },
  (
    record { at_home = refl; act = record { free_hands = refl; outside = refl; answer = refl } },
    (
      record { at_home = refl; act = record { holds = refl; next = refl } },
      tt,
    ),
  ),
)

abbrev pub by_ceiling_of_2 : List SemEntry
by_ceiling_of_2 = asks 1 4 Granted ∷ frees 1 4 None ∷ asks 0 2 Granted ∷ frees 0 2 None ∷ []

pub by_ceiling_of_2_is_legal : IsLegalSem by_ceiling 2 by_ceiling_of_2
unfolding computed_splits
by_ceiling_of_2_is_legal = (
  record { at_home = refl; act = record { free_hands = refl; outside = refl; answer = refl } },
  (
    record { at_home = refl; act = record { holds = refl; next = refl } },
    (
      record { at_home = refl; act = record { free_hands = refl; outside = refl; answer = refl } },
      (
        record { at_home = refl; act = record { holds = refl; next = refl } },
        tt,
      ),
    ),
  ),
)

abbrev pub by_ceiling_at_0_entries : List SplitEntry
by_ceiling_at_0_entries =
    plain 0 irq (runs_task 1) ∷
    plain 0 (lock 1) replies.Queued ∷
    plain 0 irq (runs_task 2) ∷
    plain 0 (lock 2) replies.Granted ∷
    take 0 1 2 1 ∷
    plain 2 irq replies.Quiet ∷
    plain 2 (unlock 2) replies.Done ∷
    plain 2 irq (runs_task 1) ∷
    []

pub by_ceiling_at_0 : IsPartPlay (in_group 0 by_ceiling) 0 (books_of (by_ceiling_of_1 ∷ by_ceiling_of_2 ∷
    [])) by_ceiling_at_0_entries (Some 1)
    (Some 1 ∷ Some 2 ∷ Some 2 ∷ Some 2 ∷ Some 2 ∷ Some 2 ∷ Some 1 ∷ Some 1 ∷ [])
unfolding computed_splits
by_ceiling_at_0 = record {
  legal = (
    (Granted, refl),
    (
      (Queued, refl),
      (
        (Granted, refl),
        (
          (Granted, refl),
          (
            (refl, refl, refl),
            (
              (Granted, refl),
              ((Granted, refl), ((Granted, refl), tt)),
            ),
          ),
        ),
      ),
    ),
  );
  did = refl;
  took = refl;
  rising = refl;
  opening = refl;
  links = refl;
}

abbrev pub by_ceiling_at_1_entries : List SplitEntry
by_ceiling_at_1_entries =
    plain 0 irq (runs_task 4) ∷
    plain 0 (lock 2) replies.Granted ∷
    plain 0 (unlock 2) replies.Done ∷
    plain 0 end replies.Done ∷
    plain 0 irq (runs_task 3) ∷
    plain 0 (lock 1) replies.Granted ∷
    plain 2 (unlock 1) replies.Done ∷
    []

pub by_ceiling_at_1 : IsPartPlay (in_group 0 by_ceiling) 1 (books_of (by_ceiling_of_1 ∷ by_ceiling_of_2 ∷
    [])) by_ceiling_at_1_entries (Some 4)
    (Some 4 ∷ Some 4 ∷ Some 4 ∷ Some 3 ∷ Some 3 ∷ Some 3 ∷ Some 3 ∷ [])
unfolding computed_splits
by_ceiling_at_1 = record {
  legal = (
    (Granted, refl),
    (
      (Granted, refl),
      (
        (Granted, refl),
        (
          (Granted, refl),
          (
            (Granted, refl),
            (
              (Granted, refl),
              (
                (Granted, refl),
                tt,
              ),
            ),
          ),
        ),
      ),
    ),
  );
  did = refl;
  took = refl;
  rising = refl;
  opening = refl;
  links = refl;
}
