-- `check_letters`: its test is that of 2.
use Rattle.rules.specs.Refusals.{check2}
use Rattle.checks.proofs.check_letters.Goals as goal

pub returns : goal.returns
unfolding check2
returns c = c.when.ensures
