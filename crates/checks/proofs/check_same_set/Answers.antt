-- `check_same_set`: its test is that of 12.
use Rattle.rules.specs.Refusals.{check12}
use Rattle.checks.proofs.check_same_set.Goals as goal

pub returns : goal.returns
unfolding check12
returns c = c.when.ensures
