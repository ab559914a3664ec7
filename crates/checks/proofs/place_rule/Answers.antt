-- `place_rule`: its two tests are those of the rule.
use Rattle.rules.specs.Saved.{meets_place_rule}
use Rattle.checks.proofs.place_rule.Goals as goal

pub returns : goal.returns
unfolding meets_place_rule
returns c = rw (c.letters.ensures, c.valid.ensures)
