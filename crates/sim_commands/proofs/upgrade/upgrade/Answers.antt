use Rattle.std.proofs.Common.{map, refl}
use Rattle.sim_commands.proofs.UpgradeAnswerLaws.{upgrade-read, upgrade-unread}
use Rattle.sim_commands.proofs.upgrade.upgrade.Goals as goal

pub returns-in-Err-clause-answers : goal.returns-in-Err-clause-answers
returns-in-Err-clause-answers g c = upgrade-unread (map g.T.TraceTool.tool c.args.tools.items) _ _ c.in-Err.status c.in-Err.ensures.ends refl

pub returns-clause-answers : goal.returns-clause-answers
returns-clause-answers g c =
    let input = c.in-Ok.input in
    upgrade-read (map g.T.TraceTool.tool c.args.tools.items) _ _ input.0.items _ input.1.version input.1.setup c.upgrade_valid.result c.in-Ok.ensures.ok (c.in-Ok.ensures.ends.not_too_long (λ is. cc)) c.as_slice.ensures.value c.upgrade_valid.ensures.upgraded
