use Rattle.std.proofs.Common.{◌≡◌, ◌-◌, ◌<◌, ◌≤◌, List, length, sym, ap, ◌∙◌, arith, ltb-true}
use Rattle.std.proofs.lemmas.Bool.{ltb-false}
use Rattle.std.specs.Prelude.{slice_index_or}
use Rattle.rt_task.specs.declared.Cluster.{Cluster}
use Rattle.rt_model.specs.Group.{first_in, no_task}
use Rattle.split_turns.proofs.TaskRows.{row-none, row-there, seat-by}
use Rattle.split_turns.proofs.tasks.home_of.Goals as goal

pub returns-in-None : goal.returns-in-None
returns-in-None c =
    let at = c.saturating_sub.ensures in
    let high : length c.as_slice.result.now ≤ c.args.task - 1 = let h = ltb-false _ _ (sym c.in-None.ensures.lookup.0) in omega (arith, h, at) in
    let none = row-none c.args.parts.now c.args.task c.as_slice.result.now c.as_slice.ensures high in
    c.first_cpu.ensures ∙ ap (λ (ks : List Cluster). first_in ks 0) c.as_slice-rows.ensures ∙ seat-by c.args.parts.now c.args.task no_task none

pub returns-in-Some : goal.returns-in-Some
returns-in-Some c =
    let at = c.saturating_sub.ensures in
    let low : c.args.task - 1 < length c.as_slice.result.now = let h = ltb-true _ _ (sym c.in-Some.ensures.lookup.0) in omega (arith, h, at) in
    let is : c.in-Some.row.now ≡ slice_index_or c.as_slice.result.now (c.args.task - 1) c.in-Some.row.now = rw (← at) c.in-Some.ensures.lookup.1 in
    let row = row-there c.args.parts.now c.args.task c.as_slice.result.now c.in-Some.row.now c.as_slice.ensures low is in
    c.first_cpu-in-Some.ensures ∙ ap (λ (ks : List Cluster). first_in ks c.in-Some.row.now.cluster.0) c.as_slice-rows.ensures ∙ seat-by c.args.parts.now c.args.task c.in-Some.row.now row
