-- The row is a line at the front of the buffer.
use borrow.Author.Rules.{rules}
use Rattle.text.proofs.Line.{line_done}
use Rattle.text.proofs.print.print_row.Goals as goal

pub returns : goal.returns
returns c = line_done (search rules) c.requires.1 c.row.ensures.row.wrote c.row.ensures.short
