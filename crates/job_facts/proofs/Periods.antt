-- The periods of a valid set are positive.
use Rattle.std.proofs.Common.{ℕ, ◌<◌, length, arith}
use Rattle.std.specs.Prelude.{slice_index_or}
use Rattle.rt_task.specs.Draft.{draft_of}
use Rattle.rt_task.specs.RangeRules.{task_range}
use Rattle.rt_task.specs.RuleWords.{is_span}
use Rattle.rt_task.specs.Validity.{IsValid}
use Rattle.rt_task.specs.declared.Parts.{Parts}
use Rattle.rt_task.specs.declared.Task.{Task}
use Rattle.rt_rules.proofs.BoolLaws.{both}
use Rattle.rt_laws.proofs.ValidSets.{keeps_rows, task-keeps, within-bounds}
use Rattle.rt_model.specs.Group.{no_task}

pub period-positive : (p : Parts) → IsValid p → (i : ℕ) → i < length p.tasks → 0 < (slice_index_or p.tasks i no_task).period
unfolding task_range
period-positive p valid i low =
    let t : Task = slice_index_or p.tasks i no_task in
    let kept = task-keeps p (task_range (draft_of p)) (keeps_rows p valid).range i low in
    let by_period = both (is_span t.period) _ (both (is_span t.cost) _ kept.keeps).1 in
    omega (arith, within-bounds 1 _ t.period by_period.0)
