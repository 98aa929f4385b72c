use Rattle.std.proofs.Common.{◌≡◌, ◌<◌, length, arith}
use Rattle.std.proofs.lemmas.Grind.{common_steps}
use Rattle.svg_lines.proofs.Joins.{first-put}
use Rattle.svg_lines.proofs.joined.joined.Goals as goal

pub loop-i-init : goal.loop-i-init
loop-i-init c =
    let some : 0 < length c.args.words.now = grind (arith, common_steps, c.is_empty.ensures, c.if-is_empty.false) in
    let written : c.put.new.out.items ≡ c.index-words-0.result.items = grind (arith, common_steps, c.in_ok-put.ensures, c.new-text.ensures.items, c.deref.ensures.value) in
    first-put c.args.separator c.args.words.now c.index-words-0.result _ c.index-words-0.is some written
