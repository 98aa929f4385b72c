use Rattle.std.proofs.Common.{◌≡◌, ◌<◌, ◌++◌, ◌∷◌, [], length, ap, ◌∙◌, rules}
use Rattle.std.proofs.lemmas.List.{map-append}
use Rattle.trace_lines.specs.Lines.{link_of, links_of}
use Rattle.trace_read.specs.Reading as reading
use Rattle.trace_read.proofs.EachLaws.{length_left, each_in-none, each_in-more}
use Rattle.trace_read.proofs.links.links_in.Goals as goal

pub returns-in_default : goal.returns-in_default
returns-in_default c =
    let filled : 0 < length (reading.front c.loop-rest.rest.now) = search rules in
    let none = each_in-none (reading.link_in c.args.k.now) (reading.front c.loop-rest.rest.now) c.word_at.result.0.now (reading.front c.word_at.result.1.now) filled c.word_at.ensures c.in_default.ensures in
    rw none at c.loop-rest.invariant

pub loop-rest-smaller : goal.loop-rest-smaller
loop-rest-smaller c =
    let filled : 0 < length (reading.front c.loop-rest.rest.now) = search rules in
    length_left 32 (reading.front c.loop-rest.rest.now) c.word_at.result.0.now (reading.front c.word_at.result.1.now) filled c.word_at.ensures

pub loop-rest-preserved : goal.loop-rest-preserved
loop-rest-preserved c =
    let filled : 0 < length (reading.front c.loop-rest.rest.now) = search rules in
    let longer : links_of c.push.new.self.items ≡ links_of c.loop-rest.links.items ++ link_of c.in-Some.link ∷ [] = ap links_of c.in_ok-push.ensures.items ∙ map-append link_of c.loop-rest.links.items (c.in-Some.link ∷ []) in
    each_in-more (reading.link_in c.args.k.now) (reading.front c.loop-rest.rest.now) c.word_at.result.0.now (reading.front c.word_at.result.1.now) (links_of c.loop-rest.links.items) (links_of c.push.new.self.items) (link_of c.in-Some.link) filled c.word_at.ensures c.in-Some.ensures longer
    ∙ c.loop-rest.invariant
