use Rattle.std.proofs.Common.{◌≡◌, refl, ap, ◌∙◌}
use Rattle.rt_plays.specs.Endings.{ended_last}
use Rattle.rt_model.specs.Group.{Group}
use Rattle.rt_model.specs.Histories.{past_of}
use Rattle.trace_check.proofs.follow.Follow.shown.Goals as goal

pub returns : goal.returns
returns g c = λ at f number.
    let past = past_of at.group at.entries in
    let ended : c.ended.result ≡ ended_last at.group past =
    c.ended.ensures past (c.afresh.ensures.at at.group past f.at) ∙ ap (λ (x : Group). ended_last x past) (c.afresh.ensures.group at.group past f.at) in
    rw (c.shown_by.ensures, ended, number) refl
