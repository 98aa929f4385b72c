-- Worked examples: PCP.
use Rattle.std.specs.Prelude.{◌≡◌, List, [], ◌∷◌, None, Some, refl}
use Rattle.rt_task.specs.declared.PluginKind.TheVariants as plugins
use Rattle.rt_task.specs.declared.Protocol.TheVariants.{Pcp}
use Rattle.rt_rules.specs.declared.history.Reply.TheVariants.{Done, Granted, Queued, Nested, NotLast}
use Rattle.rt_model.specs.worked.Computed.{computed}
use Rattle.rt_model.specs.Group.{Group}
use Rattle.rt_model.specs.Histories.{past_by}
use Rattle.rt_model.specs.Blockers.{blocker_among}
use Rattle.rt_model.specs.worked.Samples.{Line, line, steps_of, IsTrace, group_of, cluster_with, sem_under, periodic, sporadic, with_prio}
use Rattle.rt_model.specs.worked.Samples.{using}
use Rattle.rt_model.specs.worked.Samples.{irq, arrive, lock, unlock, end, runs_task, to, block, blocks, held_by}

-- PCP: task 1 is refused a free semaphore by the ceiling of another; unlocks are last in, first out
abbrev pub pcp_ceiling : Group
pcp_ceiling =
    group_of plugins.PFp (cluster_with 1 0 ∷ []) (sem_under Pcp ∷ sem_under Pcp ∷ []) [] (
    using (1 ∷ 2 ∷ []) (with_prio 1 (sporadic 1 1 1000 1000)) ∷
    using (1 ∷ 2 ∷ []) (with_prio 5 (periodic 2 1 1000 1000)) ∷
    [])

abbrev pub pcp_ceiling_lines : List Line
pcp_ceiling_lines =
    line 0 0 irq (runs_task 2) [] ∷
    line 0 0 (lock 1) Granted [] ∷
    line 0 1 (arrive 1) Done (to 0 (Some 1) ∷ []) ∷
    line 0 1 irq (runs_task 1) [] ∷
    line 0 1 (lock 2) Queued (to 0 (Some 2) ∷ []) ∷
    line 0 1 irq (runs_task 2) [] ∷
    line 0 1 (lock 2) Granted [] ∷
    line 0 1 (unlock 1) NotLast [] ∷
    line 0 1 (unlock 2) Done [] ∷
    line 0 1 (unlock 1) Done (to 0 (Some 1) ∷ []) ∷
    line 0 1 irq (runs_task 1) [] ∷
    line 0 1 (unlock 2) Done [] ∷
    []

pub pcp_ceiling_played : IsTrace pcp_ceiling (to 0 (Some 2) ∷ []) pcp_ceiling_lines
unfolding computed
pcp_ceiling_played = (refl, refl)

pub pcp_ceiling_blocks : blocks pcp_ceiling (past_by pcp_ceiling [] (steps_of pcp_ceiling_lines)) ≡
    block 1 2 1 0 0 None ∷
    block 4 1 2 1 1 None ∷
    block 6 2 2 0 0 None ∷
    []
unfolding computed
pcp_ceiling_blocks = refl

-- PCP: at most eight semaphores, none twice
abbrev pub nesting : Group
nesting =
    group_of plugins.PFp (cluster_with 1 0 ∷ [])
    (sem_under Pcp ∷ sem_under Pcp ∷ sem_under Pcp ∷ sem_under Pcp ∷ sem_under Pcp ∷
    sem_under Pcp ∷ sem_under Pcp ∷ sem_under Pcp ∷ sem_under Pcp ∷ [])
    []
    (
    using (1 ∷ 2 ∷ 3 ∷ 4 ∷ 5 ∷ 6 ∷ 7 ∷ 8 ∷ 9 ∷ []) (periodic 1 1 1000 1000) ∷
    [])

abbrev pub nesting_lines : List Line
nesting_lines =
    line 0 0 irq (runs_task 1) [] ∷
    line 0 0 (lock 1) Granted [] ∷
    line 0 0 (lock 2) Granted [] ∷
    line 0 0 (lock 3) Granted [] ∷
    line 0 0 (lock 4) Granted [] ∷
    line 0 0 (lock 5) Granted [] ∷
    line 0 0 (lock 6) Granted [] ∷
    line 0 0 (lock 7) Granted [] ∷
    line 0 0 (lock 8) Granted [] ∷
    line 0 0 (lock 9) Nested [] ∷
    line 0 0 (lock 8) Nested [] ∷
    line 0 0 (unlock 7) NotLast [] ∷
    line 0 0 (unlock 8) Done [] ∷
    line 0 0 (lock 9) Granted [] ∷
    []

pub nesting_played : IsTrace nesting (to 0 (Some 1) ∷ []) nesting_lines
unfolding computed
nesting_played = (refl, refl)

pub nesting_blocks : blocks nesting (past_by nesting [] (steps_of nesting_lines)) ≡
    block 1 1 1 0 0 None ∷
    block 2 1 2 0 0 None ∷
    block 3 1 3 0 0 None ∷
    block 4 1 4 0 0 None ∷
    block 5 1 5 0 0 None ∷
    block 6 1 6 0 0 None ∷
    block 7 1 7 0 0 None ∷
    block 8 1 8 0 0 None ∷
    block 13 1 9 0 0 None ∷
    []
unfolding computed
nesting_blocks = refl

-- PCP: task 3 holds semaphore 1, whose ceiling is that of task 1; so task 4 waits for the free semaphore 2, and task 3
-- inherits its key
abbrev pub pcp_inherits : Group
pcp_inherits =
    group_of plugins.PFp (cluster_with 1 0 ∷ []) (sem_under Pcp ∷ sem_under Pcp ∷ []) [] (
    using (1 ∷ []) (with_prio 1 (sporadic 1 1 1000 1000)) ∷
    with_prio 3 (sporadic 2 1 1000 1000) ∷
    using (1 ∷ 2 ∷ []) (with_prio 5 (periodic 3 1 1000 1000)) ∷
    using (2 ∷ []) (with_prio 2 (sporadic 4 1 1000 1000)) ∷
    [])

abbrev pub pcp_inherits_lines : List Line
pcp_inherits_lines =
    line 0 0 irq (runs_task 3) [] ∷
    line 0 0 (lock 1) Granted [] ∷
    line 0 1 (arrive 4) Done (to 0 (Some 4) ∷ []) ∷
    line 0 1 irq (runs_task 4) [] ∷
    line 0 1 (lock 2) Queued (to 0 (Some 3) ∷ []) ∷
    line 0 2 (arrive 2) Done [] ∷
    line 0 2 irq (runs_task 3) [] ∷
    line 0 2 (unlock 1) Done (to 0 (Some 4) ∷ []) ∷
    line 0 2 irq (runs_task 4) [] ∷
    line 0 2 (unlock 2) Done [] ∷
    []

pub pcp_inherits_played : IsTrace pcp_inherits (to 0 (Some 3) ∷ []) pcp_inherits_lines
unfolding computed
pcp_inherits_played = (refl, refl)

pub pcp_inherits_blocks : blocks pcp_inherits (past_by pcp_inherits [] (steps_of pcp_inherits_lines)) ≡
    block 1 3 1 0 0 None ∷
    block 4 4 2 0 0 None ∷
    []
unfolding computed
pcp_inherits_blocks = refl

-- PCP: of two holders the one of the highest ceiling blocks, task 2, and inherits
abbrev pub pcp_newest_blocks : Group
pcp_newest_blocks =
    group_of plugins.PFp (cluster_with 1 0 ∷ []) (sem_under Pcp ∷ sem_under Pcp ∷ []) [] (
    using (2 ∷ []) (with_prio 1 (sporadic 1 1 1000 1000)) ∷
    using (2 ∷ []) (with_prio 3 (sporadic 2 1 1000 1000)) ∷
    using (1 ∷ []) (with_prio 5 (periodic 3 1 1000 1000)) ∷
    using (1 ∷ []) (with_prio 4 (sporadic 4 1 1000 1000)) ∷
    with_prio 2 (sporadic 5 1 1000 1000) ∷
    [])

abbrev pub pcp_newest_blocks_lines : List Line
pcp_newest_blocks_lines =
    line 0 0 irq (runs_task 3) [] ∷
    line 0 0 (lock 1) Granted [] ∷
    line 0 1 (arrive 2) Done (to 0 (Some 2) ∷ []) ∷
    line 0 1 irq (runs_task 2) [] ∷
    line 0 1 (lock 2) Granted [] ∷
    line 0 2 (arrive 1) Done (to 0 (Some 1) ∷ []) ∷
    line 0 2 irq (runs_task 1) [] ∷
    line 0 2 (lock 2) Queued (to 0 (Some 2) ∷ []) ∷
    line 0 3 (arrive 5) Done [] ∷
    line 0 3 irq (runs_task 2) [] ∷
    line 0 3 (unlock 2) Done (to 0 (Some 1) ∷ []) ∷
    line 0 3 irq (runs_task 1) [] ∷
    line 0 3 (unlock 2) Done [] ∷
    []

pub pcp_newest_blocks_played : IsTrace pcp_newest_blocks (to 0 (Some 3) ∷ []) pcp_newest_blocks_lines
unfolding computed
pcp_newest_blocks_played = (refl, refl)

pub pcp_newest_blocks_blocks : blocks pcp_newest_blocks (past_by pcp_newest_blocks [] (steps_of pcp_newest_blocks_lines)) ≡
    block 1 3 1 0 0 None ∷
    block 4 2 2 0 0 None ∷
    block 7 1 2 1 1 None ∷
    []
unfolding computed
pcp_newest_blocks_blocks = refl

-- PCP: of two waiting tasks the one of the higher base key is tested first, and granted
abbrev pub pcp_by_key : Group
pcp_by_key =
    group_of plugins.PFp (cluster_with 1 0 ∷ []) (sem_under Pcp ∷ []) [] (
    using (1 ∷ []) (with_prio 1 (sporadic 1 1 1000 1000)) ∷
    using (1 ∷ []) (with_prio 3 (sporadic 2 1 1000 1000)) ∷
    using (1 ∷ []) (with_prio 5 (periodic 3 1 1000 1000)) ∷
    [])

abbrev pub pcp_by_key_lines : List Line
pcp_by_key_lines =
    line 0 0 irq (runs_task 3) [] ∷
    line 0 0 (lock 1) Granted [] ∷
    line 0 1 (arrive 2) Done (to 0 (Some 2) ∷ []) ∷
    line 0 1 irq (runs_task 2) [] ∷
    line 0 1 (lock 1) Queued (to 0 (Some 3) ∷ []) ∷
    line 0 2 (arrive 1) Done (to 0 (Some 1) ∷ []) ∷
    line 0 2 irq (runs_task 1) [] ∷
    line 0 2 (lock 1) Queued (to 0 (Some 3) ∷ []) ∷
    line 0 2 irq (runs_task 3) [] ∷
    line 0 3 (unlock 1) Done (to 0 (Some 1) ∷ []) ∷
    line 0 3 irq (runs_task 1) [] ∷
    line 0 3 (unlock 1) Done [] ∷
    line 0 3 end Done (to 0 (Some 2) ∷ []) ∷
    line 0 3 irq (runs_task 2) [] ∷
    line 0 3 (unlock 1) Done [] ∷
    []

pub pcp_by_key_played : IsTrace pcp_by_key (to 0 (Some 3) ∷ []) pcp_by_key_lines
unfolding computed
pcp_by_key_played = (refl, refl)

pub pcp_by_key_blocks : blocks pcp_by_key (past_by pcp_by_key [] (steps_of pcp_by_key_lines)) ≡
    block 1 3 1 0 0 None ∷
    block 4 2 1 0 2 None ∷
    block 7 1 1 1 1 None ∷
    []
unfolding computed
pcp_by_key_blocks = refl

-- of two semaphores with one ceiling the holder of the lower number blocks
pub ties_block : blocker_among pcp_ceiling (held_by 5 2 ∷ held_by 4 1 ∷ []) ≡ Some 4
unfolding computed
ties_block = refl
