-- The lines that are read, as lines of the grammar.
use Rattle.std.specs.Prelude.{List, map}
use Rattle.trace_lines.specs.Lines.{links_of, group_line, entry_line, block_line, end_line, count_line}
use Rattle.trace_lines.specs.Lines as grammar
use Rattle.trace_read.specs.declared.lines.Line.{Line}
use Rattle.trace_read.specs.declared.lines.Line.TheVariants.{GroupLine, EntryLine, BlockLine, EndLine, CountLine}

abbrev pub line_of : Line → grammar.Line
line_of (GroupLine group links) = group_line group.0 (links_of links)
line_of (EntryLine i entry links) = entry_line i entry (links_of links)
line_of (BlockLine i task sem ends ends_all bound) = block_line i task.0 sem.0 ends ends_all bound
line_of EndLine = end_line
line_of (CountLine name totals) = count_line name totals

abbrev pub lines_of : List Line → List grammar.Line
lines_of ls = map line_of ls
