use Rattle.std.proofs.Common.{[], ◌∷◌, ◌∙◌, ap, arith, map}
use Rattle.std.proofs.lemmas.List.{map-append}
use Rattle.chart_cells.specs.Charts.{panel_shown}
use Rattle.trace_text.proofs.LineLaws.{few_groups, item_number}
use Rattle.view_charts.specs.Texts.{panel_in}
use Rattle.view_charts.proofs.GroupPasts.{made-all, made-more}
use Rattle.view_charts.proofs.panels.panels_of.Goals as goal

pub overflow_cast-i : goal.overflow_cast-i
overflow_cast-i c = omega (arith, c.loop-i-test.true, few_groups c.args.setup.now c.args.groups.now c.requires.groups c.parts-parts.ensures.valid)

pub panel_again-requires-clause-number : goal.panel_again-requires-clause-number
panel_again-requires-clause-number c = item_number c.args.setup.now c.args.groups.now c.loop-i.i c.index-groups-i.result c.requires.groups c.loop-i-test.true c.index-groups-i.is

pub loop-i-preserved : goal.loop-i-preserved
loop-i-preserved c =
    made-more (panel_in c.args.axis c.args.window) c.args.setup.now c.args.groups.now c.requires.groups c.loop-i.i c.index-groups-i.result c.loop-i-test.true c.index-groups-i.is
    (map panel_shown c.loop-i.panels.items) _ (map panel_shown c.push.new.self.items) (panel_shown c.in_ok-panel_again.field-0) c.in_ok-panel_again.ensures
    (ap (map panel_shown) c.in_ok-push.ensures.items ∙ map-append panel_shown c.loop-i.panels.items (c.in_ok-panel_again.field-0 ∷ [])) c.loop-i.invariant

pub returns : goal.returns
returns c = made-all (panel_in c.args.axis c.args.window) c.args.setup.now c.args.groups.now c.requires.groups c.loop-i.i (omega (arith, c.loop-i-test.false)) (map panel_shown c.loop-i.panels.items) _ c.loop-i.invariant
