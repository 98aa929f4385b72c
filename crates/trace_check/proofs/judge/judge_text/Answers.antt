use Rattle.std.proofs.Common.{false, ◌≡◌, ◌+◌, ℕ, List, map, sym, subst, arith}
use Rattle.std.proofs.lemmas.Result.{IfOk-weaker}
use Rattle.rt_task.specs.declared.Parts.{Parts}
use Rattle.rt_plays.specs.Plays.{group_count}
use Rattle.rt_plays.proofs.GroupCount.{groups_are_counted}
use Rattle.trace_lines.specs.declared.format.Version.{Version}
use Rattle.trace_tools.specs.BusCounters.{counters}
use Rattle.trace_tools.specs.Counters.{Counter, counter_of}
use Rattle.trace_tools.specs.Tools.{Tool}
use Rattle.trace_check.specs.declared.verdict.Checked.{Checked}
use Rattle.trace_check.specs.declared.verdict.Verdict.TheVariants.{Invalid}
use Rattle.trace_check.specs.Counts.{IsCountedText}
use Rattle.trace_check.specs.inside.Judging.{IsJudgedText, IsShownText, IsTextOfPlays}
use Rattle.trace_check.specs.Keeping.{Between, IsKeptText}
use Rattle.trace_check.specs.inside.Progress.{AreAllRight, AreKept, AreRight, IsFollowedTo}
use Rattle.trace_check.proofs.Judging.{right-first, right-short}
use Rattle.trace_check.proofs.Keeping.{kept-text}
use Rattle.trace_check.proofs.judge.judge_text.Goals as goal

pub loop-n-init : goal.loop-n-init
loop-n-init g c =
    right-first c.args.version c.args.setup.now c.args.text.now (counters g.T.TraceTool.tool c.args.bus.now)
    (g.K.Keeper.holds c.args.keeper.now c.args.setup.now) c.requires

pub follow_group-requires : goal.follow_group-requires
follow_group-requires g c = record {
  group = (groups_are_counted c.args.setup.now c.loop-n.n c.parts-parts.ensures.valid).1 (omega (arith, c.loop-n-test.true, c.count_groups-n-end.ensures));
  before = (counters g.T.TraceTool.tool c.args.bus.now, c.loop-n.invariant);
}

pub returns-in-Wrong-clause-judged : goal.returns-in-Wrong-clause-judged
returns-in-Wrong-clause-judged g c =
    let v = c.args.version in
    let p = c.args.setup.now in
    let text = c.args.text.now in
    let first = counters g.T.TraceTool.tool c.args.bus.now in
    let last = counters g.T.TraceTool.tool c.follow_group.new.bus in
    let holds = g.K.Keeper.holds c.follow_group.new.keeper p in
    let followed = subst (IsFollowedTo v p text c.loop-n.n first last holds) c.in-Wrong.is (c.in_ok-further.ensures first c.loop-n.invariant) in
    IfOk-weaker c.wrong.result (λ (x : Checked). x ≡ record { verdict = Invalid (c.in-Wrong.position + 3); counted = false })
    (λ (x : Checked). (tools : List Tool) → first ≡ map counter_of tools → IsJudgedText tools v p text x.verdict)
    (λ x is tools opened. subst (λ (y : Checked). IsJudgedText tools v p text y.verdict) (sym is) (followed tools))
    c.wrong.ensures

pub returns-in-Wrong-clause-counted : goal.returns-in-Wrong-clause-counted
returns-in-Wrong-clause-counted g c =
    let v = c.args.version in
    let p = c.args.setup.now in
    let text = c.args.text.now in
    let first = counters g.T.TraceTool.tool c.args.bus.now in
    IfOk-weaker c.wrong.result (λ (x : Checked). x ≡ record { verdict = Invalid (c.in-Wrong.position + 3); counted = false })
    (λ (x : Checked). (tools : List Tool) → first ≡ map counter_of tools → IsCountedText tools v p text x.verdict x.counted)
    (λ x is tools opened. subst (λ (y : Checked). IsCountedText tools v p text y.verdict y.counted) (sym is) (λ bytes head. tt))
    c.wrong.ensures

pub returns-in-Wrong-clause-shown : goal.returns-in-Wrong-clause-shown
returns-in-Wrong-clause-shown g c =
    let v = c.args.version in
    let p = c.args.setup.now in
    let text = c.args.text.now in
    let first = counters g.T.TraceTool.tool c.args.bus.now in
    let last = counters g.T.TraceTool.tool c.follow_group.new.bus in
    IfOk-weaker c.wrong.result (λ (x : Checked). x ≡ record { verdict = Invalid (c.in-Wrong.position + 3); counted = false })
    (λ (x : Checked). (tools : List Tool) → first ≡ map counter_of tools → IsShownText tools v p text last x.verdict)
    (λ x is tools opened. subst (λ (y : Checked). IsShownText tools v p text last y.verdict) (sym is) (λ bytes head. tt))
    c.wrong.ensures

pub returns-in-Wrong-clause-kept : goal.returns-in-Wrong-clause-kept
returns-in-Wrong-clause-kept g c =
    let v = c.args.version in
    let p = c.args.setup.now in
    let text = c.args.text.now in
    let first = counters g.T.TraceTool.tool c.args.bus.now in
    let holds = g.K.Keeper.holds c.follow_group.new.keeper p in
    IfOk-weaker c.wrong.result (λ (x : Checked). x ≡ record { verdict = Invalid (c.in-Wrong.position + 3); counted = false })
    (λ (x : Checked). (tools : List Tool) → first ≡ map counter_of tools → IsKeptText tools v p text (Between holds) x.verdict)
    (λ x is tools opened. subst (λ (y : Checked). IsKeptText tools v p text (Between holds) y.verdict) (sym is) (λ bytes head. tt))
    c.wrong.ensures

pub loop-n-preserved : goal.loop-n-preserved
loop-n-preserved g c =
    let p = c.args.setup.now in
    let first = counters g.T.TraceTool.tool c.args.bus.now in
    let last = counters g.T.TraceTool.tool c.follow_group.new.bus in
    let holds = g.K.Keeper.holds c.follow_group.new.keeper p in
    subst (IsFollowedTo c.args.version p c.args.text.now c.loop-n.n first last holds) c.in-Whole.is (c.in_ok-further.ensures first c.loop-n.invariant)

pub end_at-requires : goal.end_at-requires
end_at-requires g c = record {
  within = c.loop-n.invariant.right.within;
  positions = right-short c.args.version c.args.setup.now c.args.text.now c.loop-n.n c.loop-n.right (counters g.T.TraceTool.tool c.args.bus.now) (counters g.T.TraceTool.tool c.loop-n.bus) c.loop-n.invariant.right;
}

pub returns-clause-judged : goal.returns-clause-judged
returns-clause-judged g c =
    let v = c.args.version in
    let p = c.args.setup.now in
    let text = c.args.text.now in
    let first = counters g.T.TraceTool.tool c.args.bus.now in
    let last = counters g.T.TraceTool.tool c.loop-n.bus in
    let n : c.loop-n.n ≡ group_count p = omega (arith, c.loop-n-test.false, c.loop-n.auto.n-end, c.count_groups-n-end.ensures) in
    let right : AreRight v p text (group_count p) c.loop-n.right first last = subst (λ (m : ℕ). AreRight v p text m c.loop-n.right first last) n c.loop-n.invariant.right in
    IfOk-weaker c.end_at.result
    (λ (x : Checked). (w : Version) (q : Parts) (tools : List Tool) → AreAllRight w q text c.loop-n.right (map counter_of tools) last → IsJudgedText tools w q text x.verdict)
    (λ (x : Checked). (tools : List Tool) → first ≡ map counter_of tools → IsJudgedText tools v p text x.verdict)
    (λ x judged tools opened. judged v p tools (record { valid = c.parts-parts.ensures.valid; right = subst (λ (ss : List Counter). AreRight v p text (group_count p) c.loop-n.right ss last) opened right }))
    c.end_at.ensures.judged

pub returns-clause-counted : goal.returns-clause-counted
returns-clause-counted g c =
    let v = c.args.version in
    let p = c.args.setup.now in
    let text = c.args.text.now in
    let first = counters g.T.TraceTool.tool c.args.bus.now in
    let last = counters g.T.TraceTool.tool c.loop-n.bus in
    let n : c.loop-n.n ≡ group_count p = omega (arith, c.loop-n-test.false, c.loop-n.auto.n-end, c.count_groups-n-end.ensures) in
    let right : AreRight v p text (group_count p) c.loop-n.right first last = subst (λ (m : ℕ). AreRight v p text m c.loop-n.right first last) n c.loop-n.invariant.right in
    IfOk-weaker c.end_at.result
    (λ (x : Checked). (w : Version) (q : Parts) (tools : List Tool) → AreAllRight w q text c.loop-n.right (map counter_of tools) last → IsCountedText tools w q text x.verdict x.counted)
    (λ (x : Checked). (tools : List Tool) → first ≡ map counter_of tools → IsCountedText tools v p text x.verdict x.counted)
    (λ x counted tools opened. counted v p tools (record { valid = c.parts-parts.ensures.valid; right = subst (λ (ss : List Counter). AreRight v p text (group_count p) c.loop-n.right ss last) opened right }))
    c.end_at.ensures.counted

pub returns-clause-shown : goal.returns-clause-shown
returns-clause-shown g c =
    let v = c.args.version in
    let p = c.args.setup.now in
    let text = c.args.text.now in
    let first = counters g.T.TraceTool.tool c.args.bus.now in
    let last = counters g.T.TraceTool.tool c.loop-n.bus in
    let n : c.loop-n.n ≡ group_count p = omega (arith, c.loop-n-test.false, c.loop-n.auto.n-end, c.count_groups-n-end.ensures) in
    let right : AreRight v p text (group_count p) c.loop-n.right first last = subst (λ (m : ℕ). AreRight v p text m c.loop-n.right first last) n c.loop-n.invariant.right in
    IfOk-weaker c.end_at.result
    (λ (x : Checked). (w : Version) (q : Parts) (tools : List Tool) → AreAllRight w q text c.loop-n.right (map counter_of tools) last → IsShownText tools w q text last x.verdict)
    (λ (x : Checked). (tools : List Tool) → first ≡ map counter_of tools → IsShownText tools v p text last x.verdict)
    (λ x shown tools opened. shown v p tools (record { valid = c.parts-parts.ensures.valid; right = subst (λ (ss : List Counter). AreRight v p text (group_count p) c.loop-n.right ss last) opened right }))
    c.end_at.ensures.shown

pub returns-clause-kept : goal.returns-clause-kept
returns-clause-kept g c =
    let v = c.args.version in
    let p = c.args.setup.now in
    let text = c.args.text.now in
    let first = counters g.T.TraceTool.tool c.args.bus.now in
    let last = counters g.T.TraceTool.tool c.loop-n.bus in
    let holds = Between (g.K.Keeper.holds c.loop-n.keeper p) in
    let n : c.loop-n.n ≡ group_count p = omega (arith, c.loop-n-test.false, c.loop-n.auto.n-end, c.count_groups-n-end.ensures) in
    let all : AreKept v p text (group_count p) c.loop-n.right first last holds = subst (λ (m : ℕ). AreKept v p text m c.loop-n.right first last holds) n c.loop-n.invariant in
    IfOk-weaker c.end_at.result
    (λ (x : Checked). (w : Version) (q : Parts) (tools : List Tool) (right : AreAllRight w q text c.loop-n.right (map counter_of tools) last) → IsTextOfPlays tools w q text right.right.histories x.verdict)
    (λ (x : Checked). (tools : List Tool) → first ≡ map counter_of tools → IsKeptText tools v p text holds x.verdict)
    (λ x said tools opened.
    let kept = subst (λ (ss : List Counter). AreKept v p text (group_count p) c.loop-n.right ss last holds) opened all in
    kept-text tools v p text holds kept.right.histories x.verdict kept.kept (said v p tools (record { valid = c.parts-parts.ensures.valid; right = kept.right })))
    c.end_at.ensures.said
