use Rattle.std.proofs.Common.{drop}
use Rattle.rt_base.specs.TaskNos.{numbers_of_tasks}
use Rattle.split_writer.specs.inside.Texts.{lines_with, texts}
use Rattle.split_writer.proofs.ListTexts.{all-come, entry-end}
use Rattle.trace_lines.specs.Known.{known_in}
use Rattle.split_writer.proofs.parts.put_entries.Goals as goal

pub returns : goal.returns
returns c =
    let k = known_in c.args.format.now in let i = c.loop-i.i in let ls = c.args.links.now in let es = c.args.entries.now in
    all-come c.args.out.now.items c.loop-i.out.items (texts (lines_with k i (numbers_of_tasks (drop i ls)) (drop i es))) (texts (lines_with k 0 (numbers_of_tasks ls) es))
    c.loop-i.invariant (entry-end k ls es i c.loop-i-test.false)
