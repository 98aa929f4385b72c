use Rattle.std.proofs.Common.{◌≡◌, ◌∙◌, ◌++◌, true, refl, sym, ap, subst}
use Rattle.std.proofs.lemmas.Result.{on_ok_weaker}
use Rattle.rt_rules.specs.Numbers.{has}
use Rattle.rt_model.specs.Group.{Group, tasks}
use Rattle.rt_model.specs.Group.{served_by}
use Rattle.rt_model.specs.Reservations.{front, left}
use Rattle.why_states.proofs.Facts.{IsResvThere, server-there}
use Rattle.why_states.specs.States.{IsAt, group_of}
use Rattle.why_states.proofs.standings.put_behind.Goals as goal

pub left-left-requires : goal.left-left-requires
left-left-requires c =
    let g = group_of c.args.state.now in
    let there = subst (λ (x : Group). IsResvThere x c.server_of-resv.result.0) (sym c.requires.at.1.group_is) (subst (λ r. IsResvThere g r) (sym c.server_of-resv.ensures) (server-there g c.args.task.0 c.requires.at.1.valid c.requires.plugin c.requires.task)) in
    record { low = there.low; high = there.high; here = there.here; at = (c.requires.at.0, c.requires.at.1.at) }

pub front-front-requires : goal.front-front-requires
front-front-requires c =
    let g = group_of c.args.state.now in
    let there = subst (λ (x : Group). IsResvThere x c.server_of-resv.result.0) (sym c.requires.at.1.group_is) (subst (λ r. IsResvThere g r) (sym c.server_of-resv.ensures) (server-there g c.args.task.0 c.requires.at.1.valid c.requires.plugin c.requires.task)) in
    record { low = there.low; high = there.high; here = there.here; at = (c.requires.at.0, c.requires.at.1.at) }

pub returns : goal.returns
returns c =
    on_ok_weaker c.put_unserved.result (λ put past is.
    let g = group_of c.args.state.now in
    let left_is = c.left-left.ensures past is.at ∙ ap (λ (x : Group). left x c.server_of-resv.result.0 past) is.group_is ∙ ap (λ r. left g r past) c.server_of-resv.ensures in
    let front_is = c.front-front.ensures past is.at ∙ ap (λ (x : Group). front x c.server_of-resv.result.0 past) is.group_is ∙ ap (λ r. front g r past) c.server_of-resv.ensures in
    rw (← left_is, ← front_is) put) c.put_unserved.ensures
