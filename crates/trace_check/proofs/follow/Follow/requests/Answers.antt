use Rattle.std.proofs.Common.{ap, ◌∙◌}
use Rattle.rt_model.specs.Histories.{past_of}
use Rattle.trace_check.specs.inside.RequestLines.{request_lines}
use Rattle.trace_check.proofs.RequestLaws.{wanted-lines}
use Rattle.trace_check.proofs.follow.Follow.requests.Goals as goal

pub returns : goal.returns
returns g c = λ at f.
    let past = past_of at.group at.entries in
    ap request_lines (c.requests.ensures at.group past f.at) ∙ wanted-lines at.group past
