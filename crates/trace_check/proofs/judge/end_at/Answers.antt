use Rattle.std.proofs.Common.{◌≡◌, ℕ, false, ◌+◌, List, ◌++◌, map, ap, sym, ◌∙◌, subst, refl}
use Rattle.std.specs.Prelude.{not}
use Rattle.std.proofs.lemmas.Result.{IfOk-weaker}
use Rattle.rt_task.specs.declared.Parts.{Parts}
use Rattle.trace_lines.specs.declared.format.Version.{Version}
use Rattle.trace_lines.specs.Known.{known_of}
use Rattle.trace_tools.specs.BusCounters.{counters}
use Rattle.trace_tools.specs.Counters.{counter_of}
use Rattle.trace_tools.specs.Tools.{Tool}
use Rattle.trace_check.specs.declared.verdict.Checked.{Checked}
use Rattle.trace_check.specs.declared.verdict.Verdict.TheVariants.{Invalid}
use Rattle.trace_check.specs.Counts.{IsCountedText}
use Rattle.trace_check.specs.inside.Judging.{IsJudgedText, IsShownText, IsTextOfPlays}
use Rattle.trace_check.specs.inside.Progress.{AreAllRight}
use Rattle.trace_check.proofs.Judging.{end-behind, end-counted, end-judged, end-said, end-shown, end-text, end-wrong}
use Rattle.trace_check.proofs.TextPositions.{rest-of}
use Rattle.trace_check.proofs.judge.end_at.Goals as goal

pub returns-then-not-begins_with-clause-judged : goal.returns-then-not-begins_with-clause-judged
returns-then-not-begins_with-clause-judged g c =
    let text = c.args.text.now in
    let kept = counters g.T.TraceTool.tool c.args.bus.now in
    IfOk-weaker c.wrong.result (λ (x : Checked). x ≡ record { verdict = Invalid (c.args.right.lines + 3); counted = false })
    (λ (x : Checked). (version : Version) (p : Parts) (tools : List Tool) → AreAllRight version p text c.args.right (map counter_of tools) kept → IsJudgedText tools version p text x.verdict)
    (λ x is version p tools all. subst (λ (y : Checked). IsJudgedText tools version p text y.verdict) (sym is)
    (end-wrong version p text c.args.right (map counter_of tools) kept all
    (λ more here. c.begins_with.ensures.no c.if-not-begins_with.true more (rest-of c.args.right.length text ∙ here ∙ ap (λ (xs : List ℕ). xs ++ more) (end-text (known_of version p)))) tools))
    c.wrong.ensures

pub returns-then-not-begins_with-clause-counted : goal.returns-then-not-begins_with-clause-counted
returns-then-not-begins_with-clause-counted g c =
    let text = c.args.text.now in
    let kept = counters g.T.TraceTool.tool c.args.bus.now in
    IfOk-weaker c.wrong.result (λ (x : Checked). x ≡ record { verdict = Invalid (c.args.right.lines + 3); counted = false })
    (λ (x : Checked). (version : Version) (p : Parts) (tools : List Tool) → AreAllRight version p text c.args.right (map counter_of tools) kept → IsCountedText tools version p text x.verdict x.counted)
    (λ x is version p tools all. subst (λ (y : Checked). IsCountedText tools version p text y.verdict y.counted) (sym is) (λ bytes head. tt))
    c.wrong.ensures

pub returns-then-not-begins_with-clause-shown : goal.returns-then-not-begins_with-clause-shown
returns-then-not-begins_with-clause-shown g c =
    let text = c.args.text.now in
    let kept = counters g.T.TraceTool.tool c.args.bus.now in
    IfOk-weaker c.wrong.result (λ (x : Checked). x ≡ record { verdict = Invalid (c.args.right.lines + 3); counted = false })
    (λ (x : Checked). (version : Version) (p : Parts) (tools : List Tool) → AreAllRight version p text c.args.right (map counter_of tools) kept → IsShownText tools version p text kept x.verdict)
    (λ x is version p tools all. subst (λ (y : Checked). IsShownText tools version p text kept y.verdict) (sym is) (λ bytes head. tt))
    c.wrong.ensures

pub returns-clause-judged : goal.returns-clause-judged
returns-clause-judged g c =
    let text = c.args.text.now in
    let kept = counters g.T.TraceTool.tool c.args.bus.now in
    λ version p tools all. subst (IsJudgedText tools version p text) (sym c.in_ok-verdict.ensures)
    (end-judged version p text c.args.right (map counter_of tools) kept all _
    (end-behind (known_of version p) c.args.right.length text _ refl (c.begins_with.ensures.yes c.if-not-begins_with.false)) tools c.as_slice.result.now refl (λ k. c.as_slice.ensures.value ∙ c.in_ok-counts.ensures k))

pub returns-clause-counted : goal.returns-clause-counted
returns-clause-counted g c =
    let text = c.args.text.now in
    let kept = counters g.T.TraceTool.tool c.args.bus.now in
    λ version p tools all. end-counted version p text c.args.right (map counter_of tools) kept all _
    (end-behind (known_of version p) c.args.right.length text _ refl (c.begins_with.ensures.yes c.if-not-begins_with.false)) tools c.as_slice.result.now _ _ refl
    (λ k. c.as_slice.ensures.value ∙ c.in_ok-counts.ensures k) c.in_ok-verdict.ensures (ap not c.is_empty.ensures)

pub returns-clause-shown : goal.returns-clause-shown
returns-clause-shown g c =
    let text = c.args.text.now in
    let kept = counters g.T.TraceTool.tool c.args.bus.now in
    λ version p tools all. end-shown version p text c.args.right (map counter_of tools) kept all _
    (end-behind (known_of version p) c.args.right.length text _ refl (c.begins_with.ensures.yes c.if-not-begins_with.false)) tools c.in_ok-verdict.verdict refl

pub returns-then-not-begins_with-clause-said : goal.returns-then-not-begins_with-clause-said
returns-then-not-begins_with-clause-said g c =
    let text = c.args.text.now in
    let kept = counters g.T.TraceTool.tool c.args.bus.now in
    IfOk-weaker c.wrong.result (λ (x : Checked). x ≡ record { verdict = Invalid (c.args.right.lines + 3); counted = false })
    (λ (x : Checked). (version : Version) (p : Parts) (tools : List Tool) (all : AreAllRight version p text c.args.right (map counter_of tools) kept) → IsTextOfPlays tools version p text all.right.histories x.verdict)
    (λ x is version p tools all. subst (λ (y : Checked). IsTextOfPlays tools version p text all.right.histories y.verdict) (sym is) (λ bytes head. tt))
    c.wrong.ensures

pub returns-clause-said : goal.returns-clause-said
returns-clause-said g c =
    let text = c.args.text.now in
    let kept = counters g.T.TraceTool.tool c.args.bus.now in
    λ version p tools all. end-said version p text c.args.right (map counter_of tools) kept all _
    (end-behind (known_of version p) c.args.right.length text _ refl (c.begins_with.ensures.yes c.if-not-begins_with.false)) tools c.in_ok-verdict.verdict
