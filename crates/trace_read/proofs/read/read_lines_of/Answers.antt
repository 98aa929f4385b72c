use Rattle.trace_read.proofs.read.read_lines_of.Goals as goal

pub read_lines-requires : goal.read_lines-requires
read_lines-requires c = c.in_ok-k.ensures.tells
