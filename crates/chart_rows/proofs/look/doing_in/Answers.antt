use Rattle.std.proofs.Common.{◌∙◌, ap}
use Rattle.rank_afresh.specs.Standing.{group_of}
use Rattle.chart_rows.specs.Looks.{doing_by, there_by, waiting_by}
use Rattle.chart_rows.proofs.look.doing_in.Goals as goal

pub returns-in-Some : goal.returns-in-Some
returns-in-Some c = λ past at.
    let g = group_of c.args.afresh.now in
    c.waiting_by.ensures ∙ ap (λ b. waiting_by b c.in-Some.sem.0) (c.blocked.ensures past at) ∙ ap (doing_by g c.args.task.0 past) (c.in-Some.ensures past at)

pub returns-in-None : goal.returns-in-None
returns-in-None c = λ past at.
    let g = group_of c.args.afresh.now in
    c.there_by.ensures ∙ (λ i. there_by (c.sleeps.ensures past at i) (c.exists.ensures past at i)) ∙ ap (doing_by g c.args.task.0 past) (c.in-None.ensures past at)
