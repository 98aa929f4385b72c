use Rattle.std.proofs.Common.{◌≡◌, subst, true, false}
use Rattle.rt_base.specs.declared.CpuNo.{CpuNo}
use Rattle.rt_plays.specs.Homes.{IsProcessorOf}
use Rattle.rank_afresh.specs.Standing.{group_of}
use Rattle.trace_course.proofs.turns.take_next.Goals as goal

pub returns-then-not-has-clause-next : goal.returns-then-not-has-clause-next
returns-then-not-has-clause-next c = λ past step at turns there may own tick.
    let yes : c.has.result ≡ true = (c.has.ensures (group_of c.args.afresh.now) past turns).1 (subst (λ (q : CpuNo). IsProcessorOf (group_of c.args.afresh.now) q.0) own there) in
    let none : c.has.result ≡ false = c.if-not-has.true in
    cc

pub next_of-next-requires-clause-cpu : goal.next_of-next-requires-clause-cpu
next_of-next-requires-clause-cpu c = (c.has.ensures (group_of c.args.afresh.now) c.requires.at.0 c.requires.at.2).0 c.if-not-has.false
