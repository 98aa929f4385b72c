use Rattle.std.proofs.Common.{arith, get_or}
use Rattle.rank_afresh.specs.Standing as ranker
use Rattle.view_why.proofs.EntryLaws.{links-all, links-next}
use Rattle.view_why.proofs.links.read_links.Goals as goal

pub loop-cpu-preserved : goal.loop-cpu-preserved
loop-cpu-preserved c = λ past at.
    links-next (ranker.group_of c.args.afresh.now) past c.args.cpus.now c.loop-cpu.cpu-index (record { 0 = 0 }) c.loop-cpu.links.items _ _ _ c.loop-cpu-test.true c.in_ok-push.ensures.items (λ i. ((get_or c.args.cpus.now c.loop-cpu.cpu-index (record { 0 = 0 })).0, c.linked.ensures past at i)) (c.loop-cpu.invariant past at)

pub returns : goal.returns
returns c = λ past at. links-all (ranker.group_of c.args.afresh.now) past c.args.cpus.now c.loop-cpu.cpu-index c.loop-cpu.links.items _ (omega (arith, c.loop-cpu-test.false)) (c.loop-cpu.invariant past at)
