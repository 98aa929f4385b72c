use Rattle.std.proofs.Common.{◌≡◌, ℕ, List, true, map, sym, ◌∙◌, subst}
use Rattle.std.specs.Prelude.{is_err}
use Rattle.rt_fault.specs.Held.{ExtendsByPrefix}
use Rattle.trace_tools.specs.Tools.{Tool}
use Rattle.sim_commands.proofs.CheckAnswerLaws.{on_err-holds}
use Rattle.explain_command.specs.Explaining.{IsExplained}
use Rattle.explain_command.proofs.AnswerLaws.{explain-cut}
use Rattle.explain_command.proofs.answer.explain.Goals as goal

-- a first part of the text was written
pub returns-then-is_err-clause-answers : goal.returns-then-is_err-clause-answers
returns-then-is_err-clause-answers g c =
    let tools : List Tool = map g.T.TraceTool.tool c.args.tools.items in
    let it = c.in-Ok-explained.it in
    let explained = subst (λ (bytes : List ℕ). IsExplained tools bytes it.outcome it.text.items) c.as_slice.ensures.value c.in-Ok-explained.ensures in
    let failed : is_err c.put_all.result ≡ true = sym c.is_err.ensures.value ∙ c.if-is_err.true in
    let part = subst (λ (xs : List ℕ). ExtendsByPrefix (g.K.Sink.held c.args.out.now) (g.K.Sink.held c.put_all.new.out) xs) c.as_slice-2.ensures.value (on_err-holds c.put_all.result c.put_all.ensures.failed failed) in
    explain-cut tools _ _ c.in-Ok.bytes.items c.in-Ok.ensures.ok (c.in-Ok.ensures.ends.not_too_long (λ is. cc)) it.text.items it.outcome explained
    part (on_err-holds c.put_all.result c.put_all.ensures.fault failed)
