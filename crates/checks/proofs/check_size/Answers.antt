-- `check_size`: its test is that of 7, of K and of the most letters that the kind of search takes.
use Rattle.rules.specs.Refusals.{check7}
use Rattle.checks.proofs.check_size.Goals as goal

pub returns : goal.returns
unfolding check7
returns c = rw (c.letters-k.ensures, c.most-most.ensures) at c.when.ensures
