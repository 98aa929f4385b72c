use Rattle.std.proofs.Common.{◌≡◌, List, ◌++◌, drop, map, ap, ◌∙◌, sym}
use Rattle.std.proofs.lemmas.Result.{IfOk-weaker}
use Rattle.rt_task.specs.declared.Parts.{Parts}
use Rattle.trace_tools.specs.BusCounters.{counters}
use Rattle.trace_tools.specs.Counters.{counter_of}
use Rattle.trace_tools.specs.Tools.{Tool}
use Rattle.rt_rules.proofs.BoolLaws.{clash}
use Rattle.trace_text.specs.TraceText.{head_text}
use Rattle.trace_check.specs.declared.verdict.Checked.{Checked}
use Rattle.trace_check.specs.Verdicts.{HasShown, IsVerdict}
use Rattle.trace_check.specs.Counts.{HasCounts, IsCountedText}
use Rattle.trace_check.specs.inside.Judging.{IsJudgedText, IsShownText}
use Rattle.trace_check.specs.Keeping.{Between, HasKept, IsKeptText}
use Rattle.trace_check.proofs.HeadText.{canonical-begins, canonical-head}
use Rattle.trace_check.proofs.Judged.{not-canonical}
use Rattle.trace_check.proofs.check_with.Goals as goal

pub has_head-requires : goal.has_head-requires
has_head-requires g c = λ yes.
    let h = c.args.head.now in
    let r = c.requires.read in
    let rest = drop h.length c.args.bytes.now in (
      rest,
      canonical-begins h.version h.setup c.args.bytes.now r.set_text rest r.head (r.canonical yes)
          ∙ ap (λ (p : Parts). head_text h.version p ++ rest) (sym c.parts-parts.ensures.parts),
    )

pub returns-then-not-branch-clause-verdict : goal.returns-then-not-branch-clause-verdict
returns-then-not-branch-clause-verdict g c = λ tools opened.
    let h = c.args.head.now in
    let r = c.requires.read in
    let rest = drop h.length c.args.bytes.now in
    not-canonical tools h.version h.setup c.parts-parts.ensures.valid c.args.bytes.now r.set_text rest r.head
    (λ same.
    let begins = canonical-begins h.version h.setup c.args.bytes.now r.set_text rest r.head same in
    clash _ ((c.in_ok-has_head.ensures).1 (rest, begins ∙ ap (λ (p : Parts). head_text h.version p ++ rest) (sym c.parts-parts.ensures.parts))) c.if-not-branch.true)

pub returns-clause-verdict : goal.returns-clause-verdict
returns-clause-verdict g c =
    let h = c.args.head.now in
    let first = counters g.T.TraceTool.tool c.args.bus.now in
    let head = canonical-head c.args.bytes.now h _ c.requires.read c.parts-parts.ensures.valid c.parts-parts.ensures.parts ((c.in_ok-has_head.ensures).0 c.if-not-branch.false) in
    IfOk-weaker c.judge_text.result
    (λ (x : Checked). (tools : List Tool) → first ≡ map counter_of tools → IsJudgedText tools h.version h.setup _ x.verdict)
    (λ (x : Checked). (tools : List Tool) → first ≡ map counter_of tools → IsVerdict tools h.version h.setup c.args.bytes.now x.verdict)
    (λ v judged tools opened. judged tools opened c.args.bytes.now head) c.judge_text.ensures.judged

pub returns-clause-counted : goal.returns-clause-counted
returns-clause-counted g c =
    let h = c.args.head.now in
    let first = counters g.T.TraceTool.tool c.args.bus.now in
    let head = canonical-head c.args.bytes.now h _ c.requires.read c.parts-parts.ensures.valid c.parts-parts.ensures.parts ((c.in_ok-has_head.ensures).0 c.if-not-branch.false) in
    IfOk-weaker c.judge_text.result
    (λ (x : Checked). (tools : List Tool) → first ≡ map counter_of tools → IsCountedText tools h.version h.setup _ x.verdict x.counted)
    (λ (x : Checked). (tools : List Tool) → first ≡ map counter_of tools → HasCounts tools h.version h.setup c.args.bytes.now x.verdict x.counted)
    (λ v counted tools opened. counted tools opened c.args.bytes.now head) c.judge_text.ensures.counted

pub returns-clause-shown : goal.returns-clause-shown
returns-clause-shown g c =
    let h = c.args.head.now in
    let first = counters g.T.TraceTool.tool c.args.bus.now in
    let last = counters g.T.TraceTool.tool c.judge_text.new.bus in
    let head = canonical-head c.args.bytes.now h _ c.requires.read c.parts-parts.ensures.valid c.parts-parts.ensures.parts ((c.in_ok-has_head.ensures).0 c.if-not-branch.false) in
    IfOk-weaker c.judge_text.result
    (λ (x : Checked). (tools : List Tool) → first ≡ map counter_of tools → IsShownText tools h.version h.setup _ last x.verdict)
    (λ (x : Checked). (tools : List Tool) → first ≡ map counter_of tools → HasShown tools h.version h.setup c.args.bytes.now last x.verdict)
    (λ v shown tools opened. shown tools opened c.args.bytes.now head) c.judge_text.ensures.shown

pub returns-clause-kept : goal.returns-clause-kept
returns-clause-kept g c =
    let h = c.args.head.now in
    let first = counters g.T.TraceTool.tool c.args.bus.now in
    let holds = Between (g.K.Keeper.holds c.judge_text.new.keeper h.setup) in
    let head = canonical-head c.args.bytes.now h _ c.requires.read c.parts-parts.ensures.valid c.parts-parts.ensures.parts ((c.in_ok-has_head.ensures).0 c.if-not-branch.false) in
    IfOk-weaker c.judge_text.result
    (λ (x : Checked). (tools : List Tool) → first ≡ map counter_of tools → IsKeptText tools h.version h.setup _ holds x.verdict)
    (λ (x : Checked). (tools : List Tool) → first ≡ map counter_of tools → HasKept tools h.version h.setup c.args.bytes.now holds x.verdict)
    (λ v kept tools opened. kept tools opened c.args.bytes.now head) c.judge_text.ensures.kept
