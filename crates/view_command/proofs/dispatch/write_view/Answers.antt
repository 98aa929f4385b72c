use Rattle.std.proofs.Common.{◌≡◌, ℕ, List, true, false, map, refl, sym, ◌∙◌, subst}
use Rattle.std.specs.Prelude.{Vec, is_err}
use Rattle.std.specs.declared.alloc.Global.{Global}
use Rattle.rt_fault.specs.Held.{Extends, ExtendsByPrefix}
use Rattle.event_lines.specs.WholeText.{whole_text}
use Rattle.trace_tools.specs.Tools.{Tool}
use Rattle.sim_commands.proofs.CheckAnswerLaws.{on_err-holds, on_ok-holds}
use Rattle.view_command.proofs.ViewLaws.{view-cut, view-none, view-unread, view-whole}
use Rattle.view_command.proofs.dispatch.write_view.Goals as goal

pub returns-in-Err-clause-answers : goal.returns-in-Err-clause-answers
returns-in-Err-clause-answers g c = view-unread (map g.T.TraceTool.tool c.args.tools.items) c.args.view _ _ c.in-Err.status c.in-Err.ensures.ends refl

-- what came of the bytes that were read
pub returns-in-Err-text_in-clause-answers : goal.returns-in-Err-text_in-clause-answers
returns-in-Err-text_in-clause-answers g c =
    let tools : List Tool = map g.T.TraceTool.tool c.args.tools.items in
    let t = c.in-Ok.input.1 in
    view-none tools c.args.view _ _ c.in-Ok.input.0.items t.version t.setup c.in-Ok.ensures.ok (c.in-Ok.ensures.ends.not_too_long (λ is. cc)) c.in-Err-text_in.end
    c.in-Err-text_in.ensures refl

pub returns-then-is_err-clause-answers : goal.returns-then-is_err-clause-answers
returns-then-is_err-clause-answers g c =
    let tools : List Tool = map g.T.TraceTool.tool c.args.tools.items in
    let t = c.in-Ok.input.1 in
    let text = whole_text c.in-Ok-text_in.text.items in
    let failed : is_err c.put_pieces.result ≡ true = sym c.is_err.ensures.value ∙ c.if-is_err.true in
    let part = subst (λ (xs : List (Vec ℕ Global)). ExtendsByPrefix (g.K.Sink.held c.args.out.now) (g.K.Sink.held c.put_pieces.new.out) (whole_text xs)) c.as_slice.ensures.value (on_err-holds c.put_pieces.result c.put_pieces.ensures.failed failed) in
    view-cut tools c.args.view _ _ c.in-Ok.input.0.items t.version t.setup c.in-Ok.ensures.ok (c.in-Ok.ensures.ends.not_too_long (λ is. cc)) text c.in-Ok-text_in.ensures
    part (on_err-holds c.put_pieces.result c.put_pieces.ensures.fault failed)

pub returns-clause-answers : goal.returns-clause-answers
returns-clause-answers g c =
    let tools : List Tool = map g.T.TraceTool.tool c.args.tools.items in
    let t = c.in-Ok.input.1 in
    let text = whole_text c.in-Ok-text_in.text.items in
    let written : is_err c.put_pieces.result ≡ false = sym c.is_err.ensures.value ∙ c.if-is_err.false in
    let came = subst (λ (xs : List (Vec ℕ Global)). Extends (g.K.Sink.held c.args.out.now) (g.K.Sink.held c.put_pieces.new.out) (whole_text xs)) c.as_slice.ensures.value (on_ok-holds c.put_pieces.result c.put_pieces.ensures.ok written) in
    view-whole tools c.args.view _ _ c.in-Ok.input.0.items t.version t.setup c.in-Ok.ensures.ok (c.in-Ok.ensures.ends.not_too_long (λ is. cc)) text c.in-Ok-text_in.ensures came
