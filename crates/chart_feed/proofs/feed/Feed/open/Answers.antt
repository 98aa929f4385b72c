use Rattle.std.proofs.Common.{◌≡◌, ◌∙◌, ap, arith, length, refl, sym}
use Rattle.rt_task.specs.declared.Parts.{Parts}
use Rattle.rt_plays.proofs.SetLimits.{sets_are_in_limits}
use Rattle.chart_feed.specs.EntryClocks.{clocks_in}
use Rattle.chart_feed.proofs.Feeding.{none-noted}
use Rattle.chart_feed.proofs.feed.Feed.open.Goals as goal

pub overflow_cast-as_slice : goal.overflow_cast-as_slice
overflow_cast-as_slice c = let few = (sets_are_in_limits c.args.parts.now c.requires.valid).few_tasks in omega (arith, few, ap length c.as_slice.ensures)

pub overflow_add-as_slice : goal.overflow_add-as_slice
overflow_add-as_slice c = let few = (sets_are_in_limits c.args.parts.now c.requires.valid).few_tasks in omega (arith, few, ap length c.as_slice.ensures)

pub returns : goal.returns
returns c = record {
  axis_is = refl;
  window_is = refl;
  rows_are = c.in_ok-begin.ensures;
  tasks_there =
      let many : length c.in_ok-tasks.tasks.items ≡ c.in_ok-tasks.tasks.len = sym c.in_ok-tasks.tasks.ok.0 in
      omega (arith, many, c.in_ok-tasks.ensures.count, ap length c.as_slice.ensures, ap (λ (p : Parts). length p.tasks) c.requires.parts);
  clocks_are = c.in_ok-tasks.ensures.opened;
  entries_are = c.new-entries.ensures c.args.window ∙ ap (clocks_in c.args.window) (sym none-noted);
  whole = tt;
}
