-- Worked examples, computed from the definitions: links and interrupts.
use Rattle.std.specs.Prelude.{◌≡◌, List, [], ◌∷◌, None, Some, refl}
use Rattle.rt_task.specs.declared.PluginKind.TheVariants as plugins
use Rattle.rt_task.specs.declared.Step.{Step}
use Rattle.rt_rules.specs.declared.history.Reply.TheVariants.{Done, Quiet, Deferred, Spent, InNp, NotInNp}
use Rattle.rt_model.specs.worked.Computed.{computed}
use Rattle.rt_model.specs.Group.{Group}
use Rattle.rt_model.specs.Histories.{raises}
use Rattle.rt_model.specs.worked.Samples.{Line, line, steps_of, entries_of, IsTrace, group_of, in_group, cluster_with, periodic, sporadic}
use Rattle.rt_model.specs.worked.Samples.{in_cluster, tick, irq, arrive, work, sleep, np_on, np_off, end, runs_task, to}

-- three jobs on two processors
abbrev pub first_path : Group
first_path =
    group_of plugins.GsnEdf (cluster_with 2 0 ∷ []) [] [] (
    periodic 1 1 10 5 ∷
    periodic 2 1 10 7 ∷
    periodic 3 1 10 9 ∷
    [])

abbrev pub first_path_lines : List Line
first_path_lines =
    line 0 0 tick Done [] ∷
    line 0 0 irq (runs_task 1) [] ∷
    line 0 0 irq Quiet [] ∷
    line 0 0 work Done [] ∷
    line 0 0 work Spent [] ∷
    line 0 1 work Done [] ∷
    []

pub first_path_played : IsTrace first_path (to 0 (Some 1) ∷ to 1 (Some 2) ∷ []) first_path_lines
unfolding computed
first_path_played = (refl, refl)

abbrev pub first_path_steps : List Step
first_path_steps = steps_of first_path_lines

-- a link that is lost and regained before the interrupt is taken leaves none pending
abbrev pub link_regained : Group
link_regained =
    group_of plugins.GsnEdf (cluster_with 2 0 ∷ []) [] [] (
    periodic 1 1 1000 30 ∷
    periodic 2 1 1000 20 ∷
    sporadic 3 1 1000 5 ∷
    [])

abbrev pub link_regained_lines : List Line
link_regained_lines =
    line 0 0 irq (runs_task 2) [] ∷
    line 1 0 irq (runs_task 1) [] ∷
    line 0 1 (arrive 3) Done (to 1 (Some 3) ∷ []) ∷
    line 0 1 (sleep 10) Done (to 0 (Some 3) ∷ to 1 (Some 1) ∷ []) ∷
    line 1 1 irq Quiet [] ∷
    line 0 1 irq (runs_task 3) [] ∷
    []

pub link_regained_played : IsTrace link_regained (to 0 (Some 2) ∷ to 1 (Some 1) ∷ []) link_regained_lines
unfolding computed
link_regained_played = (refl, refl)

-- an interrupt is deferred while the job is non-preemptive, and stays pending
abbrev pub non_preemptive_section : Group
non_preemptive_section =
    group_of plugins.GsnEdf (cluster_with 1 0 ∷ []) [] [] (
    periodic 1 1 1000 30 ∷
    sporadic 2 1 1000 5 ∷
    [])

abbrev pub non_preemptive_section_lines : List Line
non_preemptive_section_lines =
    line 0 0 irq (runs_task 1) [] ∷
    line 0 0 np_on Done [] ∷
    line 0 1 (arrive 2) Done (to 0 (Some 2) ∷ []) ∷
    line 0 1 irq Deferred [] ∷
    line 0 1 end InNp [] ∷
    line 0 1 np_off Done [] ∷
    line 0 1 irq (runs_task 2) [] ∷
    line 0 1 np_off NotInNp [] ∷
    []

pub non_preemptive_section_played : IsTrace non_preemptive_section (to 0 (Some 1) ∷ []) non_preemptive_section_lines
unfolding computed
non_preemptive_section_played = (refl, refl)

-- the interrupts that its entries raise: one, at the arrival
pub non_preemptive_section_raises : raises non_preemptive_section 0 (entries_of non_preemptive_section_lines) ≡ 1
unfolding computed
non_preemptive_section_raises = refl

-- a link that changes while an interrupt is pending
abbrev pub link_changes : Group
link_changes =
    group_of plugins.GsnEdf (cluster_with 1 0 ∷ []) [] [] (
    periodic 1 1 1000 30 ∷
    sporadic 2 1 1000 20 ∷
    sporadic 3 1 1000 10 ∷
    [])

abbrev pub link_changes_lines : List Line
link_changes_lines =
    line 0 0 irq (runs_task 1) [] ∷
    line 0 1 (arrive 2) Done (to 0 (Some 2) ∷ []) ∷
    line 0 1 tick Done [] ∷
    line 0 1 (arrive 3) Done (to 0 (Some 3) ∷ []) ∷
    line 0 1 irq (runs_task 3) [] ∷
    line 0 2 end Done (to 0 (Some 2) ∷ []) ∷
    line 0 2 irq (runs_task 2) [] ∷
    []

pub link_changes_played : IsTrace link_changes (to 0 (Some 1) ∷ []) link_changes_lines
unfolding computed
link_changes_played = (refl, refl)

-- it is raised anew where the link changes, and at the end of the job
pub link_changes_raises : raises link_changes 0 (entries_of link_changes_lines) ≡ 3
unfolding computed
link_changes_raises = refl

-- a processor works once at a clock, whatever the others do
abbrev pub each_processor_works : Group
each_processor_works =
    group_of plugins.GsnEdf (cluster_with 2 0 ∷ []) [] [] (
    periodic 1 9 1000 30 ∷
    periodic 2 9 1000 20 ∷
    sporadic 3 9 1000 10 ∷
    [])

abbrev pub each_processor_works_lines : List Line
each_processor_works_lines =
    line 0 0 irq (runs_task 2) [] ∷
    line 1 0 irq (runs_task 1) [] ∷
    line 0 0 work Done [] ∷
    line 1 0 work Done [] ∷
    line 1 0 work Spent [] ∷
    line 0 0 (sleep 5) Done (to 0 None ∷ []) ∷
    line 0 0 irq Quiet [] ∷
    line 1 1 work Done [] ∷
    line 0 1 (arrive 3) Done (to 0 (Some 3) ∷ []) ∷
    line 0 1 irq (runs_task 3) [] ∷
    []

pub each_processor_works_played : IsTrace each_processor_works (to 0 (Some 2) ∷ to 1 (Some 1) ∷ []) each_processor_works_lines
unfolding computed
each_processor_works_played = (refl, refl)

-- two groups: each has its own clusters and tasks
abbrev pub two_groups0 : Group
two_groups0 =
    group_of plugins.CEdf (cluster_with 1 0 ∷ cluster_with 1 1 ∷ []) [] [] (
    periodic 1 1 1000 10 ∷
    in_cluster 1 (periodic 2 1 1000 20) ∷
    in_cluster 1 (periodic 3 1 1000 10) ∷
    [])

abbrev pub two_groups0_lines : List Line
two_groups0_lines =
    line 0 0 irq (runs_task 1) [] ∷
    []

pub two_groups0_played : IsTrace two_groups0 (to 0 (Some 1) ∷ []) two_groups0_lines
unfolding computed
two_groups0_played = (refl, refl)

abbrev pub two_groups1 : Group
two_groups1 =
    in_group 1 (group_of plugins.CEdf (cluster_with 1 0 ∷ cluster_with 1 1 ∷ []) [] [] (
    periodic 1 1 1000 10 ∷
    in_cluster 1 (periodic 2 1 1000 20) ∷
    in_cluster 1 (periodic 3 1 1000 10) ∷
    []))

abbrev pub two_groups1_lines : List Line
two_groups1_lines =
    line 1 0 irq (runs_task 3) [] ∷
    line 1 0 end Done (to 1 (Some 2) ∷ []) ∷
    []

pub two_groups1_played : IsTrace two_groups1 (to 1 (Some 3) ∷ []) two_groups1_lines
unfolding computed
two_groups1_played = (refl, refl)
