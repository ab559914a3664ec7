-- `check_sequences`: its test is that of 1.
use Rattle.rules.specs.Refusals.{check1}
use Rattle.checks.proofs.check_sequences.Goals as goal

pub returns : goal.returns
unfolding check1
returns c = c.when.ensures
