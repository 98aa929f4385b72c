use Rattle.std.proofs.Common.{◌≡◌, ◌+◌, ◌++◌, ◌∷◌, ℕ, List, [], true, false, sym, ap, ◌∙◌, append-nil}
use Rattle.std.proofs.lemmas.List.{get_or_default, map_push}
use Rattle.std.specs.Prelude.{◌==◌, slice_index_or}
use Rattle.rt_base.specs.TaskNos.{numbers}
use Rattle.rt_base.specs.declared.TaskNo.{TaskNo}
use Rattle.rt_task.specs.declared.Task.{Task}
use Rattle.rt_model.specs.Group.{no_task}
use Rattle.part_player.proofs.TaskLists.{among-more, tasks_among}
use Rattle.part_player.proofs.opening.tasks_of.Goals as goal
use Rattle.part_player.proofs.opening.tasks_of.Goals.{then-eq+in_ok-push, else-eq}

pub loop-i-preserved : goal.loop-i-preserved
loop-i-preserved c =
    let tasks : List Task = c.args.tasks.now in
    let i : ℕ = c.loop-i.i in
    let row : c.index-tasks-i.result ≡ slice_index_or tasks i no_task = c.index-tasks-i.is ∙ get_or_default tasks i c.index-tasks-i.result no_task c.loop-i-test.true in
    let test : ((slice_index_or tasks i no_task).cluster.0 == c.args.cluster.0) ≡ c.eq.result = ap (λ (t : Task). t.cluster.0 == c.args.cluster.0) (sym row) ∙ sym c.eq.ensures in
    elim c.if-eq.branch [
      | then-eq+in_ok-push w ↦
          ap (λ v. numbers v.items) w.own-is ∙ ap numbers w.in_ok-push.ensures.items ∙ map_push (λ (t : TaskNo). t.0) c.loop-i.own.items _
          ∙ ap (λ (l : List ℕ). l ++ (i + 1) ∷ []) c.loop-i.invariant ∙ sym (among-more tasks c.args.cluster.0 i true (test ∙ w.if-eq.true))
      | else-eq w ↦
          ap (λ v. numbers v.items) w.own-is ∙ c.loop-i.invariant ∙ sym (append-nil (tasks_among tasks c.args.cluster.0 i)) ∙ sym (among-more tasks c.args.cluster.0 i false (test ∙ w.if-eq.false))
    ]
