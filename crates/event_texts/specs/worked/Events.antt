-- A worked text: the trace events of a small history.
use Rattle.std.specs.Prelude.{◌≡◌, List, [], ◌∷◌, Some, codes, refl}
use Rattle.std.specs.Fmt.{digits}
use Rattle.rt_task.specs.declared.PluginKind.TheVariants as plugins
use Rattle.rt_rules.specs.declared.history.Reply.TheVariants.{Done, Quiet}
use Rattle.rt_model.specs.worked.Computed.{computed}
use Rattle.rt_model.specs.Group.{Group}
use Rattle.rt_model.specs.worked.Samples.{Line, line, entries_of, IsTrace, group_of, cluster_with, periodic, with_phase}
use Rattle.rt_model.specs.worked.Samples.{end, irq, runs_task, to, work}
use Rattle.trace_views.specs.worked.Computed.{shown}
use Rattle.chart_texts.specs.Charts.{pasts_from}
use Rattle.chart_texts.specs.worked.Computed.{charted}
use Rattle.chart_texts.specs.Named.{named, then}
use Rattle.event_texts.specs.worked.Computed.{told}
use Rattle.event_texts.specs.EventText.{event_text}

-- a processor loses its link and has it back before it takes the interrupt
abbrev pub regained : Group
regained =
    group_of plugins.GsnEdf (cluster_with 2 0 ∷ []) [] [] (
    named (codes "first") (periodic 1 3 50 6) ∷
    named (codes "newcomer") (with_phase 2 (periodic 2 2 50 7)) ∷
    named (codes "steady") (periodic 3 6 50 20) ∷
    [])

abbrev pub regained_lines : List Line
regained_lines =
    line 0 0 irq (runs_task 1) [] ∷
    line 1 0 irq (runs_task 3) [] ∷
    line 0 0 work Done [] ∷
    line 1 1 work Done [] ∷
    line 0 2 work Done (to 1 (Some 2) ∷ []) ∷
    line 0 3 end Done (to 0 (Some 2) ∷ to 1 (Some 3) ∷ []) ∷
    line 1 3 irq Quiet [] ∷
    line 1 3 work Done [] ∷
    line 0 3 irq (runs_task 2) [] ∷
    line 0 3 work Done [] ∷
    line 0 4 work Done [] ∷
    line 1 4 work Done [] ∷
    []

pub regained_played : IsTrace regained (to 0 (Some 1) ∷ to 1 (Some 3) ∷ []) regained_lines
unfolding computed
regained_played = (refl, refl)

pub regained_events : event_text (pasts_from regained.setup 0 (entries_of regained_lines ∷ [])) ≡
    then (codes "{\"displayTimeUnit\":\"ms\",\"traceEvents\":[") (
    then (codes "{\"ph\":\"M\",\"pid\":1,\"name\":\"process_name\",\"args\":{\"name\":\"group 0 tasks\"}},") (
    then (codes "{\"ph\":\"M\",\"pid\":1,\"tid\":1,\"name\":\"thread_name\",\"args\":{\"name\":\"first\"}},") (
    then (codes "{\"ph\":\"M\",\"pid\":1,\"tid\":2,\"name\":\"thread_name\",\"args\":{\"name\":\"newcomer\"}},") (
    then (codes "{\"ph\":\"M\",\"pid\":1,\"tid\":3,\"name\":\"thread_name\",\"args\":{\"name\":\"steady\"}},") (
    then (codes "{\"ph\":\"M\",\"pid\":2,\"name\":\"process_name\",\"args\":{\"name\":\"group 0 processors\"}},") (
    then (codes "{\"ph\":\"M\",\"pid\":2,\"tid\":1,\"name\":\"thread_name\",\"args\":{\"name\":\"processor 0\"}},") (
    then (codes "{\"ph\":\"M\",\"pid\":2,\"tid\":2,\"name\":\"thread_name\",\"args\":{\"name\":\"processor 1\"}},") (
    then (codes "{\"ph\":\"X\",\"pid\":1,\"tid\":1,\"ts\":0,\"dur\":1000,\"cat\":\"work\",\"name\":\"works on 0\",\"args\":{\"job\":1,\"holds\":[],\"nonpreemptive\":false,\"raised\":false}},") (
    then (codes "{\"ph\":\"X\",\"pid\":1,\"tid\":1,\"ts\":1000,\"dur\":1000,\"cat\":\"runs\",\"name\":\"runs on 0\",\"args\":{\"job\":1,\"holds\":[],\"nonpreemptive\":false,\"raised\":false}},") (
    then (codes "{\"ph\":\"X\",\"pid\":1,\"tid\":1,\"ts\":2000,\"dur\":1000,\"cat\":\"work\",\"name\":\"works on 0\",\"args\":{\"job\":1,\"holds\":[],\"nonpreemptive\":false,\"raised\":false}},") (
    then (codes "{\"ph\":\"X\",\"pid\":1,\"tid\":1,\"ts\":3000,\"dur\":1000,\"cat\":\"ready\",\"name\":\"ready\",\"args\":{\"job\":1,\"holds\":[],\"nonpreemptive\":false,\"raised\":false}},") (
    then (codes "{\"ph\":\"i\",\"pid\":1,\"tid\":1,\"ts\":0,\"s\":\"t\",\"name\":\"release\",\"args\":{\"job\":1}},") (
    then (codes "{\"ph\":\"i\",\"pid\":1,\"tid\":1,\"ts\":4000,\"s\":\"t\",\"name\":\"end\",\"args\":{\"job\":1}},") (
    then (codes "{\"ph\":\"X\",\"pid\":1,\"tid\":2,\"ts\":2000,\"dur\":1000,\"cat\":\"ready\",\"name\":\"ready\",\"args\":{\"job\":1,\"holds\":[],\"nonpreemptive\":false,\"raised\":false}},") (
    then (codes "{\"ph\":\"X\",\"pid\":1,\"tid\":2,\"ts\":3000,\"dur\":2000,\"cat\":\"work\",\"name\":\"works on 0\",\"args\":{\"job\":1,\"holds\":[],\"nonpreemptive\":false,\"raised\":false}},") (
    then (codes "{\"ph\":\"i\",\"pid\":1,\"tid\":2,\"ts\":2000,\"s\":\"t\",\"name\":\"release\",\"args\":{\"job\":1}},") (
    then (codes "{\"ph\":\"X\",\"pid\":1,\"tid\":3,\"ts\":0,\"dur\":1000,\"cat\":\"runs\",\"name\":\"runs on 1\",\"args\":{\"job\":1,\"holds\":[],\"nonpreemptive\":false,\"raised\":false}},") (
    then (codes "{\"ph\":\"X\",\"pid\":1,\"tid\":3,\"ts\":1000,\"dur\":1000,\"cat\":\"work\",\"name\":\"works on 1\",\"args\":{\"job\":1,\"holds\":[],\"nonpreemptive\":false,\"raised\":false}},") (
    then (codes "{\"ph\":\"X\",\"pid\":1,\"tid\":3,\"ts\":2000,\"dur\":1000,\"cat\":\"runs\",\"name\":\"runs on 1\",\"args\":{\"job\":1,\"holds\":[],\"nonpreemptive\":false,\"raised\":false}},") (
    then (codes "{\"ph\":\"X\",\"pid\":1,\"tid\":3,\"ts\":3000,\"dur\":2000,\"cat\":\"work\",\"name\":\"works on 1\",\"args\":{\"job\":1,\"holds\":[],\"nonpreemptive\":false,\"raised\":false}},") (
    then (codes "{\"ph\":\"i\",\"pid\":1,\"tid\":3,\"ts\":0,\"s\":\"t\",\"name\":\"release\",\"args\":{\"job\":1}},") (
    then (codes "{\"ph\":\"X\",\"pid\":2,\"tid\":1,\"ts\":0,\"dur\":1000,\"cat\":\"work\",\"name\":\"first\",\"args\":{\"link\":\"first\"}},") (
    then (codes "{\"ph\":\"X\",\"pid\":2,\"tid\":1,\"ts\":1000,\"dur\":1000,\"cat\":\"runs\",\"name\":\"first\",\"args\":{\"link\":\"first\"}},") (
    then (codes "{\"ph\":\"X\",\"pid\":2,\"tid\":1,\"ts\":2000,\"dur\":1000,\"cat\":\"work\",\"name\":\"first\",\"args\":{\"link\":\"first\"}},") (
    then (codes "{\"ph\":\"X\",\"pid\":2,\"tid\":1,\"ts\":3000,\"dur\":2000,\"cat\":\"work\",\"name\":\"newcomer\",\"args\":{\"link\":\"newcomer\"}},") (
    then (codes "{\"ph\":\"X\",\"pid\":2,\"tid\":2,\"ts\":0,\"dur\":1000,\"cat\":\"runs\",\"name\":\"steady\",\"args\":{\"link\":\"steady\"}},") (
    then (codes "{\"ph\":\"X\",\"pid\":2,\"tid\":2,\"ts\":1000,\"dur\":1000,\"cat\":\"work\",\"name\":\"steady\",\"args\":{\"link\":\"steady\"}},") (
    then (codes "{\"ph\":\"X\",\"pid\":2,\"tid\":2,\"ts\":2000,\"dur\":1000,\"cat\":\"runs\",\"name\":\"steady\",\"args\":{\"link\":\"newcomer\"}},") (
    then (codes "{\"ph\":\"X\",\"pid\":2,\"tid\":2,\"ts\":3000,\"dur\":2000,\"cat\":\"work\",\"name\":\"steady\",\"args\":{\"link\":\"steady\"}}") (
    then (codes "]}") (
    [])))))))))))))))))))))))))))))))
unfolding computed shown charted digits told
regained_events = refl
