-- The first line ends where byte 10 stands, and where it stands nowhere there is none.
use Rattle.text.proofs.Lines.{line_first, line_none, line_empty}
use Rattle.text.proofs.read.first_line.Goals as goal

pub returns-in-Some-clause-line : goal.returns-in-Some-clause-line
returns-in-Some-clause-line c = rw (line_first c.args.text.now c.in-Some.halves.0.now c.in-Some.halves.1.now c.in-Some.ensures.pieces)

pub returns-in-Some-clause-rest : goal.returns-in-Some-clause-rest
returns-in-Some-clause-rest c = rw (line_first c.args.text.now c.in-Some.halves.0.now c.in-Some.halves.1.now c.in-Some.ensures.pieces)

pub returns-in-None-clause-line : goal.returns-in-None-clause-line
returns-in-None-clause-line c = rw (line_none c.args.text.now c.in-None.ensures.pieces)

pub returns-in-None-clause-rest : goal.returns-in-None-clause-rest
returns-in-None-clause-rest c = rw (line_none c.args.text.now c.in-None.ensures.pieces) line_empty
