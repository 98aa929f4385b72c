use Rattle.std.proofs.Common.{List, sym, subst}
use Rattle.rt_plays.specs.Groups.{GroupHistory}
use Rattle.trace_check.specs.Groups.{HasGroups}
use Rattle.trace_check.proofs.Keeping.{kept-groups}
use Rattle.trace_check.proofs.check_groups.Goals as goal

pub returns-clause-groups : goal.returns-clause-groups
returns-clause-groups g c = λ tools opened.
    let h = c.args.head.now in
    let keeper = c.check_with.new.keeper in
    let verdict = c.in_ok-checked.checked.verdict in
    subst (λ (groups : List GroupHistory). HasGroups tools h.version h.setup c.args.bytes.now groups verdict) (sym c.groups.ensures)
    (kept-groups tools h.version h.setup c.args.bytes.now keeper.groups.items keeper.entries.items verdict c.in_ok-checked.ensures.valid (c.in_ok-checked.ensures.kept tools opened))
