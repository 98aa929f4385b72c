use Rattle.std.proofs.Common.{◌≡◌, None, Some, sym, ap, ◌∙◌}
use Rattle.std.specs.Prelude.{slice_set}
use Rattle.std.proofs.lemmas.List.{set-get_or}
use Rattle.rt_base.specs.TaskNos.{numbers_of_tasks}
use Rattle.prio_inherit.proofs.Inherit.base.Goals as goal

-- the key that is known, told again, changes nothing
pub returns-then-is_known : goal.returns-then-is_known
returns-then-is_known c =
    let bases = c.self.inside.bases.items in
    let known = rw c.as_slice.ensures.value at (c.is_known.ensures c.if-is_known.true) in
    let same : bases ≡ slice_set bases c.args.task.0 (Some c.args.key) =
    sym (set-get_or bases c.args.task.0 None) ∙ ap (slice_set bases c.args.task.0) known in
    rw (← c.self.view_is) (ap (λ xs. record { bases = xs; nexts = numbers_of_tasks c.self.inside.nexts.items; boosts = c.self.inside.boosts.items }) same)
