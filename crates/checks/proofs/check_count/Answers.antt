-- `check_count`: its test is that of 5.
use Rattle.rules.specs.Refusals.{check5}
use Rattle.checks.proofs.check_count.Goals as goal

pub returns : goal.returns
unfolding check5
returns c = c.when.ensures
