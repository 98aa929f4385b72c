use Rattle.std.proofs.Common.{◌<◌, length, ◌∙◌, rules}
use Rattle.trace_read.specs.Reading as reading
use Rattle.trace_read.proofs.EachLaws.{length_left, each_in-none, each_in-more}
use Rattle.trace_read.proofs.links.totals_in.Goals as goal

pub returns-in_default : goal.returns-in_default
returns-in_default c =
    let filled : 0 < length (reading.front c.loop-rest.rest.now) = search rules in
    let none = each_in-none reading.number_in (reading.front c.loop-rest.rest.now) c.word_at.result.0.now (reading.front c.word_at.result.1.now) filled c.word_at.ensures c.in_default.ensures in
    rw none at c.loop-rest.invariant

pub loop-rest-smaller : goal.loop-rest-smaller
loop-rest-smaller c =
    let filled : 0 < length (reading.front c.loop-rest.rest.now) = search rules in
    length_left 32 (reading.front c.loop-rest.rest.now) c.word_at.result.0.now (reading.front c.word_at.result.1.now) filled c.word_at.ensures

pub loop-rest-preserved : goal.loop-rest-preserved
loop-rest-preserved c =
    let filled : 0 < length (reading.front c.loop-rest.rest.now) = search rules in
    each_in-more reading.number_in (reading.front c.loop-rest.rest.now) c.word_at.result.0.now (reading.front c.word_at.result.1.now) c.loop-rest.totals.items c.push.new.self.items c.in-Some.total filled c.word_at.ensures c.in-Some.ensures c.in_ok-push.ensures.items
    ∙ c.loop-rest.invariant
