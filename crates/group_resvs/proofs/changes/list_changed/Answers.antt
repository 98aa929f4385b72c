use Rattle.std.proofs.Common.{◌≡◌, ℕ, ◌<◌, List, length, ◌∙◌, sym, arith, get_or, refl, take}
use Rattle.std.specs.Prelude.{Option, None}
use Rattle.std.proofs.lemmas.List.{get_or-map, length-map}
use Rattle.rt_base.specs.TaskNos.{number_of_task, numbers, numbers_of_tasks}
use Rattle.group_resvs.specs.GroupResvs.{all_changed}
use Rattle.group_resvs.proofs.ChangedLists.{all_changed-more}
use Rattle.group_resvs.proofs.changes.list_changed.Goals as goal

pub loop-i-preserved : goal.loop-i-preserved
loop-i-preserved c =
    let os : List (Option ℕ) = numbers_of_tasks c.args.before.now in
    let ns : List (Option ℕ) = numbers_of_tasks c.args.now.now in
    let i : ℕ = c.loop-i.i in
    let low : i < length c.args.now.now = c.loop-i-test.true in
    let low' : i < length c.args.before.now = omega (arith, low, c.requires.same) in
    let o : number_of_task (get_or c.args.before.now i None) ≡ get_or os i None = sym (get_or-map number_of_task c.args.before.now i None None low') in
    let n : number_of_task (get_or c.args.now.now i None) ≡ get_or ns i None = sym (get_or-map number_of_task c.args.now.now i None None low) in
    let more = all_changed-more os ns i (omega (arith, low', length-map c.args.before.now number_of_task)) (omega (arith, low, length-map c.args.now.now number_of_task)) in
    let so_far : numbers c.loop-i.into.items ≡ all_changed (take i os) (take i ns) = c.loop-i.invariant.0 in (
      c.put_changed.ensures.items ∙ rw (so_far, o, n, more) refl,
      omega (arith, c.loop-i.invariant.1, c.put_changed.ensures.len),
      omega (arith, c.loop-i.invariant.2, c.put_changed.ensures.capacity),
    )
