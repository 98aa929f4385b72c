-- Names, and what they stand for.
use Rattle.std.specs.List.{list_any, list_all}
use Rattle.std.specs.Prelude.{◌+◌, Bool, true, not, ◌&&◌, ◌==◌, List, length, Option, None, Some, bytes_eq}
use Rattle.rt_base.specs.declared.ResvNo.{ResvNo}
use Rattle.rt_task.specs.declared.Act.{Act}
use Rattle.rt_task.specs.declared.Op.{Op}
use Rattle.rt_task.specs.declared.Sem.{Sem}
use Rattle.rt_task.specs.declared.draft.Draft.{Draft}
use Rattle.rt_task.specs.declared.draft.DraftResv.{DraftResv}
use Rattle.rt_task.specs.declared.draft.DraftStep.{DraftStep}
use Rattle.rt_task.specs.declared.draft.DraftTask.{DraftTask}
use Rattle.rt_task.specs.declared.draft.Piece.{Piece}
use Rattle.rt_task.specs.declared.draft.Piece.TheVariants.{Works, Once}
use Rattle.rt_task.specs.RuleWords.{is_known, no_repeat, is_name, sem_numbers}
use Rattle.rt_task.specs.declared.Op.TheVariants as ops
use Rattle.rt_task.specs.declared.Act.TheVariants as acts

module _ (d : Draft) where
  unfoldable pub sem_name : List Sem → Sem → Bool
  sem_name earlier s = is_name s.name && not (list_any (λ (x : Sem). bytes_eq x.name s.name) earlier)

  unfoldable pub resv_name : List DraftResv → DraftResv → Bool
  resv_name earlier r = is_name r.name && not (list_any (λ (x : DraftResv). bytes_eq x.name r.name) earlier)

  abbrev pub op_is_known : Op → Bool
  op_is_known (ops.Lock s) = is_known d.sems s.0
  op_is_known (ops.Unlock s) = is_known d.sems s.0
  op_is_known _ = true

  abbrev pub piece_is_known : Piece → Bool
  piece_is_known (Works n) = true
  piece_is_known (Once op) = op_is_known op

  abbrev pub resv_is_known : Option ResvNo → Bool
  resv_is_known None = true
  resv_is_known (Some r) = is_known d.resvs r.0

  unfoldable pub task_name : List DraftTask → DraftTask → Bool
  task_name earlier p =
      (p.number.0 == length earlier + 1) && (is_name p.name
      && (not (list_any (λ (x : DraftTask). bytes_eq x.name p.name) earlier)
      && (list_all (is_known d.sems) (sem_numbers p) && (no_repeat (sem_numbers p)
      && (resv_is_known p.resv && list_all piece_is_known p.pieces)))))

  abbrev pub act_is_known : Act → Bool
  act_is_known (acts.Arrive t) = is_known d.tasks t.0
  act_is_known (acts.Do op) = op_is_known op
  act_is_known _ = true

  unfoldable pub step_name : List DraftStep → DraftStep → Bool
  step_name earlier s = act_is_known s.act
