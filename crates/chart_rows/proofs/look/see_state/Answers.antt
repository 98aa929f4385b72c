use Rattle.std.proofs.Common.{◌∙◌, sym}
use Rattle.std.proofs.lemmas.Option.{IfSome_then}
use Rattle.rank_afresh.specs.Standing.{IsAt, group_of}
use Rattle.rt_model.specs.Past.{Past}
use Rattle.chart_cells.specs.Cells.{cell_shown, doing_shown}
use Rattle.chart_rows.specs.ReadyJobs.{IsReadyWith}
use Rattle.chart_rows.specs.declared.ready_jobs.ReadyJob.{ReadyJob}
use Rattle.chart_rows.proofs.Looks.{later-kept, later-shown}
use Rattle.chart_rows.proofs.ReadyStates.{ready-known}
use Rattle.chart_rows.proofs.look.see_state.Goals as goal

pub returns-then-gives_way_to-clause-seen : goal.returns-then-gives_way_to-clause-seen
returns-then-gives_way_to-clause-seen c = λ past at.
    c.in_ok-set_cell.ensures past at
    ∙ later-shown (group_of c.args.afresh.now) c.args.task.0 past (cell_shown c.args.kept.now) (doing_shown c.doing_in-doing.result) (c.doing_in-doing.ensures past at) (sym c.gives_way_to.ensures ∙ c.if-gives_way_to.true)

pub returns-then-gives_way_to-clause-ready : goal.returns-then-gives_way_to-clause-ready
returns-then-gives_way_to-clause-ready c =
    let known : ReadyJob → Type 0 = λ j. (past : Past) → IsAt c.args.afresh.now past → IsReadyWith (group_of c.args.afresh.now) past c.args.task.0 j in
    IfSome_then _ {Q = known} c.ready_job.ensures (λ j shown past at.
    ready-known (group_of c.args.afresh.now) c.args.task.0 past j (doing_shown c.doing_in-doing.result) (c.doing_in-doing.ensures past at) (sym (c.in_ok-set_cell.ensures past at) ∙ shown))

pub returns-clause-seen : goal.returns-clause-seen
returns-clause-seen c = λ past at.
    later-kept (group_of c.args.afresh.now) c.args.task.0 past (cell_shown c.args.kept.now) (doing_shown c.doing_in-doing.result) (c.doing_in-doing.ensures past at) (sym c.gives_way_to.ensures ∙ c.if-gives_way_to.false)
