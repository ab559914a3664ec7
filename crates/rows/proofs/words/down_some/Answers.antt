-- What the upper word loses, it would lose in two shifts too.
use borrow.Author.Rules.{rules}
use Rattle.rows.proofs.Digits.{down_at_once}
use Rattle.rows.proofs.words.down_some.Goals as goal

pub returns : goal.returns
returns c = down_at_once _ _ _ (search rules) (search rules)
