use Rattle.std.proofs.Common.{◌≡◌, ◌-◌, ◌<◌, ◌≤◌, length, sym, ap, arith, ltb-true}
use Rattle.std.proofs.lemmas.Bool.{ltb-false}
use Rattle.std.specs.Prelude.{slice_index_or}
use Rattle.rt_task.specs.declared.Task.{Task}
use Rattle.split_turns.proofs.TaskRows.{row-none, row-there}
use Rattle.split_turns.proofs.tasks.prio_of.Goals as goal

pub returns-in-None : goal.returns-in-None
returns-in-None c =
    let at = c.saturating_sub.ensures in
    let high : length c.as_slice.result.now ≤ c.args.task - 1 = let h = ltb-false _ _ (sym c.in-None.ensures.lookup.0) in omega (arith, h, at) in
    ap (λ (t : Task). t.prio) (row-none c.args.parts.now c.args.task c.as_slice.result.now c.as_slice.ensures high)

pub returns-in-Some : goal.returns-in-Some
returns-in-Some c =
    let at = c.saturating_sub.ensures in
    let low : c.args.task - 1 < length c.as_slice.result.now = let h = ltb-true _ _ (sym c.in-Some.ensures.lookup.0) in omega (arith, h, at) in
    let is : c.in-Some.row.now ≡ slice_index_or c.as_slice.result.now (c.args.task - 1) c.in-Some.row.now = rw (← at) c.in-Some.ensures.lookup.1 in
    ap (λ (t : Task). t.prio) (row-there c.args.parts.now c.args.task c.as_slice.result.now c.in-Some.row.now c.as_slice.ensures low is)
