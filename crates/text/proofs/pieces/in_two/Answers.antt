-- There are two pieces if the byte does not stand in what follows the first.
use Rattle.std.proofs.Common.{sym, ◌∙◌}
use Rattle.text.proofs.Scan.{two_pieces, not_two}
use Rattle.text.proofs.pieces.in_two.Goals as goal

pub returns-then-contains-clause-pieces : goal.returns-then-contains-clause-pieces
returns-then-contains-clause-pieces c =
    not_two c.args.b c.args.text.now c.in_ok-first.first.now c.in_ok-first.second.now c.in_ok-first.ensures.pieces (sym c.contains.ensures.value ∙ c.if-contains.true)

pub returns-clause-pieces : goal.returns-clause-pieces
returns-clause-pieces c =
    two_pieces c.args.b c.args.text.now c.in_ok-first.first.now c.in_ok-first.second.now c.in_ok-first.ensures.pieces (sym c.contains.ensures.value ∙ c.if-contains.false)
