use Rattle.std.proofs.Common.{◌∙◌, ap, arith, length, map, sym}
use Rattle.std.proofs.lemmas.List.{length-map}
use Rattle.std.proofs.lemmas.Result.{IfOk-weaker}
use Rattle.chart_cells.specs.Charts.{panel_shown}
use Rattle.trace_text.specs.Groups.{histories}
use Rattle.trace_text.proofs.LineLaws.{few_groups}
use Rattle.view_charts.proofs.Drawn.{panels-long, svg-drawn, text-drawn}
use Rattle.view_charts.proofs.texts.text_in.Goals as goal

pub returns-in-Text : goal.returns-in-Text
returns-in-Text c =
    IfOk-weaker c.chart_text.result _ _ (λ text is.
    is ∙ text-drawn c.args.axis c.args.window c.args.setup.now (histories c.args.groups.now) c.longest.result (map panel_shown c.in_ok-panels_of.field-0.items) (c.longest.ensures c.args.setup.now c.requires.groups)
    c.in_ok-panels_of.ensures c.parts.result.now c.args.form c.parts.ensures.parts c.in-Text.is) c.chart_text.ensures

pub svg_text-requires-clause-panels : goal.svg_text-requires-clause-panels
svg_text-requires-clause-panels c =
    omega (
      arith,
      few_groups c.args.setup.now c.args.groups.now c.requires.groups c.parts-in-Svg.ensures.valid,
      sym (length-map c.in_ok-panels_of.field-0.items panel_shown) ∙ ap length c.in_ok-panels_of.ensures ∙ panels-long c.args.axis c.args.window c.args.setup.now c.args.groups.now,
    )

pub returns : goal.returns
returns c =
    IfOk-weaker c.svg_text.result _ _ (λ text is.
    is ∙ svg-drawn c.args.axis c.args.window c.args.setup.now (histories c.args.groups.now) c.longest.result (map panel_shown c.in_ok-panels_of.field-0.items) (c.longest.ensures c.args.setup.now c.requires.groups)
    c.in_ok-panels_of.ensures c.parts-in-Svg.result.now c.args.form c.parts-in-Svg.ensures.parts c.in-Svg.is) c.svg_text.ensures
