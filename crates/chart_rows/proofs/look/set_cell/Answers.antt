use Rattle.std.proofs.Common.{◌+◌, ◌∙◌}
use Rattle.std.specs.Prelude.{not}
use Rattle.trace_views.specs.Cells.{cell_at, same_key}
use Rattle.chart_cells.specs.Cells.{doing_shown}
use Rattle.chart_rows.proofs.look.set_cell.Goals as goal

pub returns : goal.returns
unfolding cell_at
returns c = λ past at i. record {
  doing = doing_shown c.args.doing;
  job = c.done-job.ensures.shown past at i + 1;
  held = c.in_ok-held.ensures past at i;
  non_preemptive = c.non_preemptive-cell.ensures past at i;
  raised = (c.is_raised-cell.ensures ∙ (λ j. not (same_key (c.effective_key.ensures past at j) (c.base_key.ensures past at j)))) i;
}
