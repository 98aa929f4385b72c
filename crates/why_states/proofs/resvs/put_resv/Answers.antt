use Rattle.std.proofs.Common.{◌≡◌, ◌∙◌, ◌≤◌, ◌++◌, length, true, refl, sym, ap, subst}
use Rattle.std.proofs.lemmas.Result.{on_ok_weaker}
use Rattle.rt_model.specs.Group.{Group}
use Rattle.rt_model.specs.Reservations.{front, last, left}
use Rattle.why_states.proofs.Facts.{IsResvThere, resv-there}
use Rattle.rank_afresh.specs.Standing as ranker
use Rattle.why_states.specs.States.{IsAt, group_of}
use Rattle.why_states.proofs.resvs.put_resv.Goals as goal

pub left-left-requires : goal.left-left-requires
left-left-requires c =
    let there = subst (λ (g : Group). IsResvThere g c.args.resv.0) (sym c.requires.at.1.group_is) (resv-there (group_of c.args.state.now) c.args.resv.0 c.requires.resv) in
    record { low = there.low; high = there.high; here = there.here; at = (c.requires.at.0, c.requires.at.1.at) }

pub refilled-requires : goal.refilled-requires
refilled-requires c =
    let there = subst (λ (g : Group). IsResvThere g c.args.resv.0) (sym c.requires.at.1.group_is) (resv-there (group_of c.args.state.now) c.args.resv.0 c.requires.resv) in
    record { low = there.low; high = there.high; here = there.here; at = (c.requires.at.0, c.requires.at.1.at) }

pub front-front-requires : goal.front-front-requires
front-front-requires c =
    let there = subst (λ (g : Group). IsResvThere g c.args.resv.0) (sym c.requires.at.1.group_is) (resv-there (group_of c.args.state.now) c.args.resv.0 c.requires.resv) in
    record { low = there.low; high = there.high; here = there.here; at = (c.requires.at.0, c.requires.at.1.at) }

pub returns : goal.returns
returns c =
    on_ok_weaker c.put_resv_line.result (λ put past is.
    let left_is = c.left-left.ensures past is.at ∙ ap (λ (x : Group). left x c.args.resv.0 past) is.group_is in
    let refilled_is = c.number_of-refilled.ensures ∙ c.refilled.ensures past is.at ∙ ap (λ (x : Group). last x c.args.resv.0 past) is.group_is in
    let front_is = c.front-front.ensures past is.at ∙ ap (λ (x : Group). front x c.args.resv.0 past) is.group_is in
    rw (← left_is, ← refilled_is, ← front_is) put) c.put_resv_line.ensures
