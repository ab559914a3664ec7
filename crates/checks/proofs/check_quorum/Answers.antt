-- `check_quorum`: its test is that of 9.
use Rattle.rules.specs.Refusals.{check9}
use Rattle.checks.proofs.check_quorum.Goals as goal

pub returns : goal.returns
unfolding check9
returns c = c.when.ensures
