use Rattle.std.proofs.Common.{sym, ◌∙◌}
use Rattle.trace_upgrade.proofs.TextLaws.{begins-shorter, blocks-end, blocks-next}
use Rattle.trace_upgrade.proofs.groups.behind_blocks.Goals as goal

pub loop-left-init : goal.loop-left-init
loop-left-init c = λ k g past asked more tell begins ended. (asked, begins)

pub loop-left-smaller : goal.loop-left-smaller
loop-left-smaller c = begins-shorter 98 c.loop-left.left.now c.behind_line-left.result.now (sym c.begins_with.ensures ∙ c.loop-left-test.true) c.behind_line-left.ensures

pub loop-left-preserved : goal.loop-left-preserved
loop-left-preserved c = λ k g past asked more tell begins ended.
    let left = c.loop-left.invariant k g past asked more tell begins ended in
    blocks-next k g past more c.loop-left.left.now left.0 c.behind_line-left.result.now tell ended (sym c.begins_with.ensures ∙ c.loop-left-test.true) c.behind_line-left.ensures left.1

pub returns : goal.returns
returns c = λ k g past asked more tell begins ended.
    let left = c.loop-left.invariant k g past asked more tell begins ended in
    blocks-end k g past more c.loop-left.left.now left.0 (sym c.begins_with.ensures ∙ c.loop-left-test.false) left.1
