use Rattle.std.proofs.Common.{sym, subst}
use Rattle.trace_tools.specs.BusCounters.{counters}
use Rattle.trace_check.specs.Keeping.{CanClose, HasPlayed}
use Rattle.trace_check.specs.inside.Progress.{IsFollowedBy, IsFollowedTo}
use Rattle.trace_check.proofs.Judging.{group-low}
use Rattle.trace_check.proofs.Keeping.{can-close, followed-wrong, kept-closed}
use Rattle.trace_check.proofs.group.follow_group.Goals as goal

pub close-requires : goal.close-requires
close-requires g c =
    let p = c.args.setup.now in
    let n = c.args.group.0 in
    let last = counters g.T.TraceTool.tool c.follow_lines.new.bus in
    let holds = g.K.Keeper.holds c.follow_lines.new.keeper p in
    let player = c.follow_lines.new.follow.player in
    let before = c.requires.before.0 in
    let valid = c.in_ok-follow.ensures.valid in
    let followed = subst (IsFollowedBy g.P.Player.at c.args.version p c.args.text.now n before last holds player) c.in-Whole.is (c.in_ok-followed.ensures before c.requires.before.1) in
    subst (λ x. CanClose g.P.Player.at x holds p n) (sym c.player.ensures)
    (can-close c.args.version p c.args.text.now n c.in-Whole.field-0 player followed valid (group-low p n valid c.requires.group))

pub returns-in_ok-close : goal.returns-in_ok-close
returns-in_ok-close g c = λ opened before.
    let v = c.args.version in
    let p = c.args.setup.now in
    let text = c.args.text.now in
    let n = c.args.group.0 in
    let last = counters g.T.TraceTool.tool c.follow_lines.new.bus in
    let holds = g.K.Keeper.holds c.follow_lines.new.keeper p in
    let later = g.K.Keeper.holds c.close.new.self p in
    let player = c.follow_lines.new.follow.player in
    let followed = subst (IsFollowedBy g.P.Player.at v p text n opened last holds player) c.in-Whole.is (c.in_ok-followed.ensures opened before) in
    subst (IsFollowedTo v p text n opened last later) (sym c.in-Whole.is)
    (kept-closed v p text n c.in-Whole.field-0 player followed later
    (λ hs es kept number played. c.in_ok-close.ensures hs es kept number (subst (λ x. HasPlayed g.P.Player.at x p n es) (sym c.player.ensures) played)))

pub returns-in_default : goal.returns-in_default
returns-in_default g c = λ opened before.
    let p = c.args.setup.now in
    followed-wrong c.args.version p c.args.text.now g.P.Player.at c.args.group.0 opened (counters g.T.TraceTool.tool c.follow_lines.new.bus)
    (g.K.Keeper.holds c.follow_lines.new.keeper p) c.follow_lines.new.follow.player c.in_ok-followed.followed c.in_default.not-Whole
    (c.in_ok-followed.ensures opened before)
