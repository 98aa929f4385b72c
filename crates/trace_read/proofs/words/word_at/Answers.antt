use Rattle.trace_read.proofs.WordLaws.{word_parts}
use Rattle.trace_read.proofs.words.word_at.Goals as goal

pub returns : goal.returns
returns c =
    word_parts c.args.text.now c.split_at.result.0.now c.split_at.result.1.now c.after_word.result.now c.word_end.result c.word_end.ensures c.split_at.ensures.front c.split_at.ensures.back c.after_word.ensures
