-- Worked examples: FMLP, inheritance, and what a lock is answered.
use Rattle.std.specs.Prelude.{◌≡◌, List, [], ◌∷◌, None, Some, refl}
use Rattle.rt_task.specs.declared.PluginKind.TheVariants as plugins
use Rattle.rt_task.specs.declared.Protocol.{Protocol}
use Rattle.rt_task.specs.declared.Protocol.TheVariants.{Fmlp, Omlp}
use Rattle.rt_rules.specs.declared.history.Reply.TheVariants.{Done, Granted, Queued, Quiet, Idle, NotDeclared, Nested, NotHeld, Holding}
use Rattle.rt_rules.specs.declared.history.Reply.TheVariants.{InNp}
use Rattle.rt_model.specs.worked.Computed.{computed}
use Rattle.rt_model.specs.Group.{Group}
use Rattle.rt_model.specs.Histories.{past_by}
use Rattle.rt_model.specs.worked.Samples.{Line, line, steps_of, IsTrace, group_of, cluster_with, sem_under, periodic, sporadic, using}
use Rattle.rt_model.specs.worked.Samples.{enforced}
use Rattle.rt_model.specs.worked.Samples.{irq, arrive, work, lock, unlock, sleep, np_on, np_off, end, runs_task, to, block, blocks}

-- a semaphore that the task does not declare, whether the job holds another or not
abbrev pub undeclared : Group
undeclared =
    group_of plugins.GsnEdf (cluster_with 1 0 ∷ []) (sem_under Fmlp ∷ sem_under Fmlp ∷ []) [] (
    using (2 ∷ []) (periodic 1 1 1000 10) ∷
    [])

abbrev pub undeclared_lines : List Line
undeclared_lines =
    line 0 0 irq (runs_task 1) [] ∷
    line 0 0 (lock 1) NotDeclared [] ∷
    line 0 0 (unlock 1) NotHeld [] ∷
    line 0 0 (lock 2) Granted [] ∷
    line 0 0 (lock 1) NotDeclared [] ∷
    line 0 0 (unlock 2) Done [] ∷
    []

pub undeclared_played : IsTrace undeclared (to 0 (Some 1) ∷ []) undeclared_lines
unfolding computed
undeclared_played = (refl, refl)

pub undeclared_blocks : blocks undeclared (past_by undeclared [] (steps_of undeclared_lines)) ≡
    block 3 1 2 0 0 (Some 0) ∷
    []
unfolding computed
undeclared_blocks = refl

-- a non-preemptive job works and unlocks, and does nothing else but end its section
abbrev pub while_non_preemptive : Group
while_non_preemptive =
    group_of plugins.GsnEdf (cluster_with 1 0 ∷ []) (sem_under Fmlp ∷ sem_under Fmlp ∷ []) [] (
    using (1 ∷ 2 ∷ []) (periodic 1 9 1000 30) ∷
    [])

abbrev pub while_non_preemptive_lines : List Line
while_non_preemptive_lines =
    line 0 0 irq (runs_task 1) [] ∷
    line 0 0 (lock 1) Granted [] ∷
    line 0 0 np_on Done [] ∷
    line 0 0 (lock 2) InNp [] ∷
    line 0 0 (sleep 5) InNp [] ∷
    line 0 0 np_on InNp [] ∷
    line 0 0 end InNp [] ∷
    line 0 0 work Done [] ∷
    line 0 0 (unlock 1) Done [] ∷
    line 0 0 np_off Done [] ∷
    line 0 0 (lock 2) Granted [] ∷
    []

pub while_non_preemptive_played : IsTrace while_non_preemptive (to 0 (Some 1) ∷ []) while_non_preemptive_lines
unfolding computed
while_non_preemptive_played = (refl, refl)

pub while_non_preemptive_blocks : blocks while_non_preemptive (past_by while_non_preemptive [] (steps_of while_non_preemptive_lines)) ≡
    block 1 1 1 0 0 (Some 0) ∷
    block 10 1 2 0 0 (Some 0) ∷
    []
unfolding computed
while_non_preemptive_blocks = refl

-- a forced end is put off to the unlock
abbrev pub fmlp_end_put_off : Group
fmlp_end_put_off =
    group_of plugins.GsnEdf (cluster_with 1 0 ∷ []) (sem_under Fmlp ∷ []) [] (
    using (1 ∷ []) (enforced (periodic 1 1 100 100)) ∷
    [])

abbrev pub fmlp_end_put_off_lines : List Line
fmlp_end_put_off_lines =
    line 0 0 irq (runs_task 1) [] ∷
    line 0 0 (lock 1) Granted [] ∷
    line 0 0 work Done [] ∷
    line 0 0 end Holding [] ∷
    line 0 0 (sleep 5) Holding [] ∷
    line 0 0 (unlock 1) Done (to 0 None ∷ []) ∷
    line 0 0 work Idle [] ∷
    []

pub fmlp_end_put_off_played : IsTrace fmlp_end_put_off (to 0 (Some 1) ∷ []) fmlp_end_put_off_lines
unfolding computed
fmlp_end_put_off_played = (refl, refl)

pub fmlp_end_put_off_blocks : blocks fmlp_end_put_off (past_by fmlp_end_put_off [] (steps_of fmlp_end_put_off_lines)) ≡
    block 1 1 1 0 0 (Some 0) ∷
    []
unfolding computed
fmlp_end_put_off_blocks = refl

-- FMLP: requests wait first in, first out, and do not nest
abbrev pub fmlp_in_order : Group
fmlp_in_order =
    group_of plugins.GsnEdf (cluster_with 4 0 ∷ []) (sem_under Fmlp ∷ sem_under Fmlp ∷ []) [] (
    using (1 ∷ 2 ∷ []) (periodic 1 1 1000 10) ∷
    using (1 ∷ 2 ∷ []) (periodic 2 1 1000 20) ∷
    using (1 ∷ 2 ∷ []) (periodic 3 1 1000 30) ∷
    using (1 ∷ 2 ∷ []) (periodic 4 1 1000 40) ∷
    [])

abbrev pub fmlp_in_order_lines : List Line
fmlp_in_order_lines =
    line 0 0 irq (runs_task 1) [] ∷
    line 1 0 irq (runs_task 2) [] ∷
    line 2 0 irq (runs_task 3) [] ∷
    line 3 0 irq (runs_task 4) [] ∷
    line 0 0 (lock 1) Granted [] ∷
    line 0 0 (lock 2) Nested [] ∷
    line 1 0 (lock 1) Queued (to 1 None ∷ []) ∷
    line 2 0 (lock 1) Queued (to 2 None ∷ []) ∷
    line 3 0 (lock 1) Queued (to 3 None ∷ []) ∷
    line 0 0 (unlock 1) Done (to 1 (Some 2) ∷ []) ∷
    line 1 0 irq (runs_task 2) [] ∷
    line 1 0 (unlock 1) Done (to 2 (Some 3) ∷ []) ∷
    line 2 0 irq (runs_task 3) [] ∷
    line 2 0 (unlock 1) Done (to 3 (Some 4) ∷ []) ∷
    []

pub fmlp_in_order_played : IsTrace fmlp_in_order (to 0 (Some 1) ∷ to 1 (Some 2) ∷ to 2 (Some 3) ∷ to 3 (Some 4) ∷ []) fmlp_in_order_lines
unfolding computed
fmlp_in_order_played = (refl, refl)

pub fmlp_in_order_blocks : blocks fmlp_in_order (past_by fmlp_in_order [] (steps_of fmlp_in_order_lines)) ≡
    block 4 1 1 0 0 (Some 3) ∷
    block 6 2 1 1 1 (Some 3) ∷
    block 7 3 1 2 2 (Some 3) ∷
    block 8 4 1 3 3 (Some 3) ∷
    []
unfolding computed
fmlp_in_order_blocks = refl

-- a second request of the same task is counted by itself
abbrev pub asked_again : Group
asked_again =
    group_of plugins.GsnEdf (cluster_with 2 0 ∷ []) (sem_under Fmlp ∷ []) [] (
    using (1 ∷ []) (periodic 1 1 1000 10) ∷
    using (1 ∷ []) (periodic 2 1 1000 20) ∷
    [])

abbrev pub asked_again_lines : List Line
asked_again_lines =
    line 0 0 irq (runs_task 1) [] ∷
    line 1 0 irq (runs_task 2) [] ∷
    line 0 0 (lock 1) Granted [] ∷
    line 1 0 (lock 1) Queued (to 1 None ∷ []) ∷
    line 0 1 (unlock 1) Done (to 1 (Some 2) ∷ []) ∷
    line 1 1 irq (runs_task 2) [] ∷
    line 1 1 (unlock 1) Done [] ∷
    line 0 2 (lock 1) Granted [] ∷
    line 1 2 (lock 1) Queued (to 1 None ∷ []) ∷
    line 0 3 (unlock 1) Done (to 1 (Some 2) ∷ []) ∷
    []

pub asked_again_played : IsTrace asked_again (to 0 (Some 1) ∷ to 1 (Some 2) ∷ []) asked_again_lines
unfolding computed
asked_again_played = (refl, refl)

pub asked_again_blocks : blocks asked_again (past_by asked_again [] (steps_of asked_again_lines)) ≡
    block 2 1 1 0 0 (Some 1) ∷
    block 3 2 1 1 1 (Some 1) ∷
    block 7 1 1 0 0 (Some 1) ∷
    block 8 2 1 1 1 (Some 1) ∷
    []
unfolding computed
asked_again_blocks = refl

-- a holder inherits: task 1 holds, task 3 waits for it, and task 2, whose deadline is between theirs, is not linked in its
-- stead
abbrev pub holder_inherits : Protocol → Group
holder_inherits p =
    group_of plugins.GsnEdf (cluster_with 1 0 ∷ []) (sem_under p ∷ []) [] (
    using (1 ∷ []) (periodic 1 1 1000 100) ∷
    sporadic 2 1 1000 50 ∷
    using (1 ∷ []) (sporadic 3 1 1000 20) ∷
    [])

abbrev pub holder_inherits_lines : List Line
holder_inherits_lines =
    line 0 0 irq (runs_task 1) [] ∷
    line 0 0 (lock 1) Granted [] ∷
    line 0 1 (arrive 3) Done (to 0 (Some 3) ∷ []) ∷
    line 0 1 irq (runs_task 3) [] ∷
    line 0 1 (lock 1) Queued (to 0 (Some 1) ∷ []) ∷
    line 0 2 (arrive 2) Done [] ∷
    line 0 2 irq (runs_task 1) [] ∷
    line 0 2 (unlock 1) Done (to 0 (Some 3) ∷ []) ∷
    []

pub fmlp_holder_inherits_played : IsTrace (holder_inherits Fmlp) (to 0 (Some 1) ∷ []) holder_inherits_lines
unfolding computed
fmlp_holder_inherits_played = (refl, refl)

pub omlp_holder_inherits_played : IsTrace (holder_inherits Omlp) (to 0 (Some 1) ∷ []) holder_inherits_lines
unfolding computed
omlp_holder_inherits_played = (refl, refl)

-- a Lock in a non-preemptive section is refused for that, before it is asked whether the task declares the semaphore
abbrev pub undeclared_while_non_preemptive : Group
undeclared_while_non_preemptive =
    group_of plugins.GsnEdf (cluster_with 1 0 ∷ []) (sem_under Fmlp ∷ []) [] (
    periodic 1 9 1000 30 ∷
    [])

abbrev pub undeclared_while_non_preemptive_lines : List Line
undeclared_while_non_preemptive_lines =
    line 0 0 irq (runs_task 1) [] ∷
    line 0 0 np_on Done [] ∷
    line 0 0 (lock 1) InNp [] ∷
    line 0 0 irq Quiet [] ∷
    line 0 0 np_off Done [] ∷
    []

pub undeclared_while_non_preemptive_played : IsTrace undeclared_while_non_preemptive (to 0 (Some 1) ∷ []) undeclared_while_non_preemptive_lines
unfolding computed
undeclared_while_non_preemptive_played = (refl, refl)
