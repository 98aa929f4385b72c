use Rattle.std.proofs.Common.{◌≡◌, ◌∙◌, ◌+◌, ap, arith, rules}
use Rattle.std.specs.Prelude.{fold, max}
use Rattle.view_charts.proofs.GroupPasts.{pasts_behind}
use Rattle.view_charts.proofs.Longest.{lengths_on, longest-end, longest-next, longest-none}
use Rattle.view_charts.proofs.lengths.longest.Goals as goal

pub loop-group-init : goal.loop-group-init
loop-group-init c = λ p are. longest-none c.args.axis p c.args.groups.now are

pub loop-group-preserved : goal.loop-group-preserved
loop-group-preserved c = λ p are.
    let greater : c.max-longest.result ≡ max c.loop-group.longest c.length_of.result = search rules in
    let made = greater ∙ ap (max c.loop-group.longest) c.length_of.ensures in
    ap (λ n. fold max n (lengths_on c.args.axis (pasts_behind p c.args.groups.now (c.loop-group.group-index + 1)))) made
    ∙ longest-next c.args.axis p c.args.groups.now are c.loop-group.group-index c.loop-group.longest c.group-item.result c.loop-group-test.true c.group-item.is _ (c.loop-group.invariant p are)

pub returns : goal.returns
returns c = λ p are. longest-end c.args.axis p c.args.groups.now are c.loop-group.group-index c.loop-group.longest _ (omega (arith, c.loop-group-test.false)) (c.loop-group.invariant p are)
