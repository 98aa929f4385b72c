use Rattle.std.proofs.Common.{◌∙◌, sym}
use Rattle.svg_texts.proofs.Lanes.{lanes_tell_apart_lem}
use Rattle.svg_lines.specs.Shown.{lane_part}
use Rattle.svg_lines.proofs.RunSpans.{all-same}
use Rattle.svg_lines.proofs.parts.goes_on.Goals as goal

pub returns-clause-same : goal.returns-clause-same
returns-clause-same c = λ same.
    all-same c.args.lane c.args.run.now (lane_part c.args.lane c.args.cell.now) (lanes_tell_apart_lem (lane_part c.args.lane c.args.cell.now) (lane_part c.args.lane c.args.run.now.cell) (sym c.same_in_lane.ensures ∙ same))
