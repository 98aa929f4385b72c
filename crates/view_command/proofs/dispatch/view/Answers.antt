use Rattle.std.proofs.Common.{◌≡◌, Some, map, subst, ◌∙◌}
use Rattle.set_input.specs.Ends.{reading, writing}
use Rattle.view_command.specs.ViewAnswers.{ViewAnswers}
use Rattle.view_command.specs.declared.views.View.{View}
use Rattle.view_command.proofs.dispatch.view.Goals as goal

pub returns-in-Some-clause-view : goal.returns-in-Some-clause-view
returns-in-Some-clause-view g c other is =
    let source = reading g.S.Source.left g.S.Source.faults c.args.src.now c.write_view.new.src in
    let sink = writing g.K.Sink.held g.K.Sink.faults c.args.out.now c.write_view.new.out in
    let both : Some c.in-Some.view ≡ Some other = c.in-Some.ensures.said ∙ is in
    let same : c.in-Some.view ≡ other = cc in
    subst (λ (v : View). ViewAnswers (map g.T.TraceTool.tool c.args.tools.items) v source sink c.write_view.result) same c.write_view.ensures.answers
