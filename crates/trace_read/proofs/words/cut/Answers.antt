use Rattle.trace_read.proofs.WordLaws.{cut_parts}
use Rattle.trace_read.proofs.words.cut.Goals as goal

pub returns-in-len1-up : goal.returns-in-len1-up
returns-in-len1-up c =
    cut_parts c.args.at c.args.text.now c.split_at.result.0.now c.split_at.result.1.now c.cut_length.result c.cut_length.ensures c.split_at.ensures.front c.split_at.ensures.back
