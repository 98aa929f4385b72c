use Rattle.std.proofs.Common.{◌++◌, ap, append_assoc, ◌∙◌}
use Rattle.std.specs.Prelude.{codes}
use Rattle.set_explain.specs.Texts.{counted, where_numbered}
use Rattle.set_explain.proofs.TestLaws.{on_ok}
use Rattle.set_explain.proofs.text.put_task.Goals as goal

pub returns : goal.returns
returns c =
    on_ok c.put_where_numbered.result
    (λ e. e ∙ ap (λ xs. xs ++ where_numbered) c.in_ok-put_counted.ensures
    ∙ append_assoc c.args.out.now.items (counted (codes "where: tasks[") c.args.index (codes "], task ")) where_numbered)
    c.put_where_numbered.ensures
