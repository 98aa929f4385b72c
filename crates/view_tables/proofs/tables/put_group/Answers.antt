use Rattle.std.proofs.Common.{◌≡◌, ◌∙◌, ◌<◌, ◌++◌, true, false, length, get_or, append-nil, sym, ap, subst, arith}
use Rattle.rt_task.specs.Validity.{IsValid}
use Rattle.rt_task.specs.declared.Parts.{Parts}
use Rattle.rt_model.specs.Group.{Group}
use Rattle.view_tables.specs.inside.Playing.{group_of}
use Rattle.view_tables.specs.Texts.{is_of, task_text}
use Rattle.view_tables.proofs.GroupTexts.{group-next, has-task, is_of-this, limits, so_far, so_far-all}
use Rattle.view_tables.proofs.tables.put_group.Goals as goal
use Rattle.view_tables.proofs.tables.put_group.Goals.{then-is_in_group+in_ok-put_lines, else-is_in_group}

pub is_in_group-requires : goal.is_in_group-requires
is_in_group-requires c =
    let g = group_of c.args.played.now in
    let x = c.task-item.result in
    let i = c.loop-task.task-index in
    let same : c.as_slice-task-items.result.now ≡ g.setup.tasks = c.as_slice-task-items.ensures ∙ ap (λ (q : Parts). q.tasks) c.parts-parts.ensures.parts ∙ sym (ap (λ (y : Group). y.setup.tasks) c.requires.group) in
    let valid = subst IsValid (sym (ap (λ (y : Group). y.setup) c.requires.group)) c.parts-parts.ensures.valid in
    let low : i < length g.setup.tasks = omega (arith, c.loop-task-test.true, ap length same) in
    let here : x ≡ get_or g.setup.tasks i x = c.task-item.is ∙ ap (λ ts. get_or ts i x) same in
    omega (arith, (limits g valid i x low here).cluster_there, ap (λ (q : Parts). length q.clusters) c.parts-parts.ensures.parts, ap (λ (y : Group). length y.setup.clusters) c.requires.group)

pub put_lines-requires : goal.put_lines-requires
put_lines-requires c =
    let g = group_of c.args.played.now in
    let x = c.task-item.result in
    let i = c.loop-task.task-index in
    let same : c.as_slice-task-items.result.now ≡ g.setup.tasks = c.as_slice-task-items.ensures ∙ ap (λ (q : Parts). q.tasks) c.parts-parts.ensures.parts ∙ sym (ap (λ (y : Group). y.setup.tasks) c.requires.group) in
    let valid = subst IsValid (sym (ap (λ (y : Group). y.setup) c.requires.group)) c.parts-parts.ensures.valid in
    let low : i < length g.setup.tasks = omega (arith, c.loop-task-test.true, ap length same) in
    let here : x ≡ get_or g.setup.tasks i x = c.task-item.is ∙ ap (λ ts. get_or ts i x) same in
    (c.requires.played.0, c.requires.played.1, has-task c.args.played.now i x valid low here)

pub loop-task-preserved : goal.loop-task-preserved
loop-task-preserved c = λ past is.
    let g = group_of c.args.played.now in
    let x = c.task-item.result in
    let i = c.loop-task.task-index in
    let same : c.as_slice-task-items.result.now ≡ g.setup.tasks = c.as_slice-task-items.ensures ∙ ap (λ (q : Parts). q.tasks) c.parts-parts.ensures.parts ∙ sym (ap (λ (y : Group). y.setup.tasks) c.requires.group) in
    let valid = subst IsValid (sym (ap (λ (y : Group). y.setup) c.requires.group)) c.parts-parts.ensures.valid in
    let low : i < length g.setup.tasks = omega (arith, c.loop-task-test.true, ap length same) in
    let here : x ≡ get_or g.setup.tasks i x = c.task-item.is ∙ ap (λ ts. get_or ts i x) same in
    let told = c.is_in_group.ensures ∙ ap (λ (q : Parts). is_of c.args.group.0 q x) c.parts-parts.ensures.parts ∙ sym (ap (λ (y : Group). is_of y.number y.setup x) c.requires.group) ∙ is_of-this g valid i x low here in
    let number = (limits g valid i x low here).number_is in
    let before = c.loop-task.invariant past is in
    elim c.if-is_in_group.branch [
      | then-is_in_group+in_ok-put_lines w ↦ group-next c.args.table g past i true c.args.text.now.items c.loop-task.text.items c.if-is_in_group.text.items (sym told ∙ w.if-is_in_group.true) before (ap (λ v. v.items) w.text-is ∙ w.in_ok-put_lines.ensures past is (has-task c.args.played.now i x valid low here) ∙ ap (λ n. c.loop-task.text.items ++ task_text c.args.table g past n) number)
      | else-is_in_group w ↦ group-next c.args.table g past i false c.args.text.now.items c.loop-task.text.items c.if-is_in_group.text.items (sym told ∙ w.if-is_in_group.false) before (ap (λ v. v.items) w.text-is ∙ sym (append-nil c.loop-task.text.items))
    ]

pub returns : goal.returns
returns c = λ past is.
    let g = group_of c.args.played.now in
    let same : c.as_slice-task-items.result.now ≡ g.setup.tasks = c.as_slice-task-items.ensures ∙ ap (λ (q : Parts). q.tasks) c.parts-parts.ensures.parts ∙ sym (ap (λ (y : Group). y.setup.tasks) c.requires.group) in
    let all : c.loop-task.task-index ≡ length g.setup.tasks = omega (arith, c.loop-task-test.false, c.loop-task.auto.task-index-end, ap length same) in
    c.loop-task.invariant past is ∙ ap (λ n. c.args.text.now.items ++ so_far c.args.table g past n) all ∙ ap (λ xs. c.args.text.now.items ++ xs) (so_far-all c.args.table g past)
