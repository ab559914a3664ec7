-- The first piece ends where the byte is found.
use Rattle.std.proofs.Common.{sym, ◌∙◌}
use Rattle.text.proofs.Scan.{halves_none, halves_some}
use Rattle.text.proofs.pieces.split_once.Goals as goal

pub returns-in_err-end-clause-pieces : goal.returns-in_err-end-clause-pieces
returns-in_err-end-clause-pieces c = rw c.from_residual.ensures (halves_none c.args.b c.args.text.now (sym c.in_err-end.was ∙ c.find.ensures))

pub returns-clause-pieces : goal.returns-clause-pieces
returns-clause-pieces c = halves_some c.args.b c.in_ok-end.end c.args.text.now (sym c.in_ok-end.was ∙ c.find.ensures)
