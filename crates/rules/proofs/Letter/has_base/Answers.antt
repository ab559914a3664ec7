-- `has_base` meets its contract: a shift right by a value is a division by 2 to the power of it.
use borrow.Author.Rules.{rules}
use Rattle.rules.specs.Profile.{has_base}
use Rattle.rules.proofs.Letter.has_base.Goals as goal

pub returns : goal.returns
unfolding has_base
returns c = search rules
