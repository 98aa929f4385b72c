use Rattle.std.proofs.Common.{◌≡◌, ◌∙◌, ap, sym}
use Rattle.rt_rules.specs.Numbers.{is}
use Rattle.rt_rules.proofs.MemberLaws.{is-some}
use Rattle.rt_model.specs.Group.{clients}
use Rattle.rt_model.specs.Links.{linked}
use Rattle.rank_afresh.specs.Standing.{group_of}
use Rattle.trace_views.specs.Cells.{is_client}
use Rattle.chart_rows.specs.Foretold.{server}
use Rattle.chart_rows.specs.Units.{number_of_resv}
use Rattle.chart_rows.proofs.Foretelling.{serves}
use Rattle.chart_rows.proofs.foreseen.unit_of.Goals as goal

pub returns : goal.returns
returns c = λ m at cpu task unit.
    let g = group_of c.args.afresh.now in
    let resv : number_of_resv c.server_in-resv.result ≡ server g c.args.task.0 = c.server_in-resv.ensures g (sym c.requires.parts) c.requires.rows in
    record {
      is_done = unit;
      task_is = task;
      cell_is = c.in_ok-cell.ensures m.before at;
      link_is = c.linked.ensures m.before at ∙ ap (λ q. linked g q m.before) (sym cpu);
      client_is = λ r listed. ap (is_client g (clients g r)) task ∙ serves g c.args.task.0 r c.requires.task listed ∙ ap (is r) (sym resv);
      left_is = λ r listed h. c.left_of.ensures m.before r at (is-some r (number_of_resv c.server_in-resv.result) h);
    }
