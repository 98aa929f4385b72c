use Rattle.std.proofs.Common.{◌≡◌, rules, ℕ, true, false, List, ◌++◌, map, refl, sym, ap, ◌∙◌, subst, arith}
use Rattle.std.specs.Prelude.{is_err}
use Rattle.std.proofs.lemmas.Grind.{common_steps}
use Rattle.std.proofs.lemmas.Simd.{map-map}
use Rattle.rt_fault.specs.Held.{Extends, ExtendsByPrefix}
use Rattle.trace_tools.specs.BusCounters.{counters}
use Rattle.trace_tools.specs.Counters.{counter_of}
use Rattle.trace_tools.specs.Tools.{Tool}
use Rattle.trace_check.specs.Verdicts.{IsVerdict}
use Rattle.sim_commands.proofs.CheckLaws.{can_check-valid}
use Rattle.sim_commands.specs.Check.{verdict_text}
use Rattle.sim_commands.proofs.CheckAnswerLaws.{check-cut, check-unread, check-valid, on_err-holds, on_ok-holds}
use Rattle.sim_commands.proofs.check.check.Goals as goal

pub returns-in-Err-clause-answers : goal.returns-in-Err-clause-answers
returns-in-Err-clause-answers g c = check-unread (map g.T.TraceTool.tool c.args.tools.items) _ _ c.in-Err.status c.in-Err.ensures.ends refl

pub returns-clause-answers : goal.returns-clause-answers
returns-clause-answers g c =
    let tools : List Tool = map g.T.TraceTool.tool c.args.tools.items in
    let opened : counters g.T.TraceTool.tool c.in-Ok-open.bus ≡ map counter_of tools = c.in-Ok-open.ensures ∙ sym (map-map counter_of g.T.TraceTool.tool c.args.tools.items) in
    let right = subst (λ (bytes : List ℕ). IsVerdict tools c.in-Ok.input.1.version c.in-Ok.input.1.setup bytes c.in-Ok-check_trace.verdict) c.as_slice.ensures.value (c.in-Ok-check_trace.ensures.verdict tools opened) in
    let wrong = subst (IsVerdict tools c.in-Ok.input.1.version c.in-Ok.input.1.setup c.in-Ok.input.0.items) c.in-Invalid.is right in
    record {
      ok = λ is. cc;
      invalid = first_of (search rules, grind (arith, common_steps));
      bad_input = λ b is. cc;
      too_long = λ is. cc;
      not_too_long = λ _. c.in-Ok.ensures.ends.not_too_long (λ is. cc);
      cut_by_fault = λ is. cc;
      no_memory = λ is. cc;
      complete = λ can _. absurd (can_check-valid tools _ _ _ _ c.in-Invalid.line can c.in-Ok.ensures.ok wrong);
    }

pub returns-then-is_err-2-clause-answers : goal.returns-then-is_err-2-clause-answers
returns-then-is_err-2-clause-answers g c =
    let tools : List Tool = map g.T.TraceTool.tool c.args.tools.items in
    let opened : counters g.T.TraceTool.tool c.in-Ok-open.bus ≡ map counter_of tools = c.in-Ok-open.ensures ∙ sym (map-map counter_of g.T.TraceTool.tool c.args.tools.items) in
    let right = subst (λ (bytes : List ℕ). IsVerdict tools c.in-Ok.input.1.version c.in-Ok.input.1.setup bytes c.in-Ok-check_trace.verdict) c.as_slice.ensures.value (c.in-Ok-check_trace.ensures.verdict tools opened) in
    let put = on_ok-holds c.put_verdict.result c.put_verdict.ensures (sym c.is_err.ensures.value ∙ c.if-is_err.false) in
    let text : c.as_slice-2.result.now ≡ verdict_text c.in-Ok-check_trace.verdict = c.as_slice-2.ensures.value ∙ put ∙ ap (λ (xs : List ℕ). xs ++ verdict_text c.in-Ok-check_trace.verdict) c.new-line.ensures.items in
    let failed : is_err c.put_all.result ≡ true = sym c.is_err-2.ensures.value ∙ c.if-is_err-2.true in
    let part = subst (λ (xs : List ℕ). ExtendsByPrefix (g.K.Sink.held c.args.out.now) (g.K.Sink.held c.put_all.new.out) xs) text (on_err-holds c.put_all.result c.put_all.ensures.failed failed) in
    check-cut tools _ _ c.in-Ok.input.0.items c.in-Ok.input.1.version c.in-Ok.input.1.setup c.in-Ok-check_trace.verdict c.in-Ok.ensures.ok (c.in-Ok.ensures.ends.not_too_long (λ is. cc)) right
    part (on_err-holds c.put_all.result c.put_all.ensures.fault failed)

pub returns-in-Valid-clause-answers : goal.returns-in-Valid-clause-answers
returns-in-Valid-clause-answers g c =
    let tools : List Tool = map g.T.TraceTool.tool c.args.tools.items in
    let opened : counters g.T.TraceTool.tool c.in-Ok-open.bus ≡ map counter_of tools = c.in-Ok-open.ensures ∙ sym (map-map counter_of g.T.TraceTool.tool c.args.tools.items) in
    let right = subst (λ (bytes : List ℕ). IsVerdict tools c.in-Ok.input.1.version c.in-Ok.input.1.setup bytes c.in-Ok-check_trace.verdict) c.as_slice.ensures.value (c.in-Ok-check_trace.ensures.verdict tools opened) in
    let put = on_ok-holds c.put_verdict.result c.put_verdict.ensures (sym c.is_err.ensures.value ∙ c.if-is_err.false) in
    let text : c.as_slice-2.result.now ≡ verdict_text c.in-Ok-check_trace.verdict = c.as_slice-2.ensures.value ∙ put ∙ ap (λ (xs : List ℕ). xs ++ verdict_text c.in-Ok-check_trace.verdict) c.new-line.ensures.items in
    let written : is_err c.put_all.result ≡ false = sym c.is_err-2.ensures.value ∙ c.if-is_err-2.false in
    let came = subst (λ (xs : List ℕ). Extends (g.K.Sink.held c.args.out.now) (g.K.Sink.held c.put_all.new.out) xs) text (on_ok-holds c.put_all.result c.put_all.ensures.ok written) in
    check-valid tools _ _ c.in-Ok.input.0.items c.in-Ok.input.1.version c.in-Ok.input.1.setup c.in-Ok-check_trace.verdict c.in-Ok.ensures.ok (c.in-Ok.ensures.ends.not_too_long (λ is. cc)) right
    c.in-Valid.field-0 c.in-Valid.is came
