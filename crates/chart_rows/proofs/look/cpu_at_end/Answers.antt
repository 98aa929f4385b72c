use Rattle.std.proofs.Common.{◌∙◌, [], ap}
use Rattle.rank_afresh.specs.Standing.{group_of}
use Rattle.trace_views.specs.Cells.{playing_by}
use Rattle.chart_rows.proofs.look.cpu_at_end.Goals as goal

pub returns : goal.returns
returns c = λ past at i.
    let g = group_of c.args.afresh.now in
    record { playing = (c.playing_by.ensures g ∙ ap (playing_by g []) (c.runs.ensures past at)) i; link = c.linked.ensures past at i }
