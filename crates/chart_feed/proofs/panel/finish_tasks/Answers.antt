use Rattle.std.proofs.Common.{◌≡◌, length, arith, map}
use Rattle.chart_cells.specs.Charts.{task_row_shown}
use Rattle.chart_texts.specs.Charts.{task_row_in}
use Rattle.chart_rows.specs.Rows.{TaskKept}
use Rattle.chart_feed.specs.inside.Marked.{edges_shown}
use Rattle.chart_feed.specs.inside.Panels.{IsTaskRow}
use Rattle.chart_feed.proofs.Paneled.{made-all-of, made-more, made-next, made-none}
use Rattle.chart_feed.proofs.panel.finish_tasks.Goals as goal

pub loop-row-init : goal.loop-row-init
loop-row-init c = λ g past cs.
    made-none (IsTaskRow g past cs c.args.tasks.now c.args.clocks.now c.args.now (map edges_shown c.args.edges.now)) task_row_shown (λ (k : TaskKept). task_row_in g past cs k.task)
    c.args.rows.items c.into_iter-row-iterator.result.rest.items c.new-made.result.items c.into_iter-row-iterator.ensures.into_iter_gives.0 c.new-made.ensures.items

pub row_of-requires-clause-row : goal.row_of-requires-clause-row
row_of-requires-clause-row c =
    let g = c.requires.rows.0 in
    let past = c.requires.rows.1 in
    let cs = c.requires.rows.2 in (
      g,
      past,
      cs,
      made-next (IsTaskRow g past cs c.args.tasks.now c.args.clocks.now c.args.now (map edges_shown c.args.edges.now)) task_row_shown (λ (k : TaskKept). task_row_in g past cs k.task)
          c.args.rows.items c.loop-row.row-iterator.rest.items c.loop-row.made.items c.in-Some.row c.next.new.self.rest.items c.in-Some.ensures.steps.0 (c.loop-row.invariant g past cs c.requires.rows.3),
    )

pub loop-row-preserved : goal.loop-row-preserved
loop-row-preserved c = λ g past cs h.
    made-more (IsTaskRow g past cs c.args.tasks.now c.args.clocks.now c.args.now (map edges_shown c.args.edges.now)) task_row_shown (λ (k : TaskKept). task_row_in g past cs k.task)
    c.args.rows.items c.loop-row.row-iterator.rest.items c.loop-row.made.items c.in-Some.row c.next.new.self.rest.items c.row_of.result c.push.new.self.items
    c.in-Some.ensures.steps.0 (c.row_of.ensures g past cs) c.in_ok-push.ensures.items (c.loop-row.invariant g past cs h)

pub returns : goal.returns
returns c = λ g past cs h.
    let none : length c.loop-row.row-iterator.rest.items ≡ 0 = omega (arith, c.in-None.ensures.steps.0, c.loop-row.row-iterator.rest.ok.0) in
    made-all-of (IsTaskRow g past cs c.args.tasks.now c.args.clocks.now c.args.now (map edges_shown c.args.edges.now)) task_row_shown (λ (k : TaskKept). task_row_in g past cs k.task)
    c.args.rows.items c.loop-row.row-iterator.rest.items c.loop-row.made.items none (c.loop-row.invariant g past cs h)
