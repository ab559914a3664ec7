-- A line whose head is the word.
use borrow.Author.Rules.{rules}
use native.Mathlib.Omega.{arith}
use Rattle.text.proofs.Printed.{◌and◌}
use Rattle.text.proofs.Line.{line_has_room, line_short, line_done}
use Rattle.text.proofs.print.print_line.Goals as goal

pub pair-requires : goal.pair-requires
pair-requires c =
    line_has_room _ c.args.a c.args.b c.requires.0 (omega (arith, c.ranges.a)) (omega (arith, c.ranges.b)) c.requires.1 c.bytes.ensures

pub returns : goal.returns
returns c =
    line_done (search rules) c.requires.1 (c.bytes.ensures and c.pair.ensures).wrote
    (line_short _ c.args.a c.args.b c.requires.0 (omega (arith, c.ranges.a)) (omega (arith, c.ranges.b)) c.bytes.ensures c.pair.ensures)
