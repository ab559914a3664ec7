-- `check_place`: its test is that of 23, and the record that it tells comes after the components'.
use native.Mathlib.Numerals.{add-one}
use Rattle.rules.specs.Refusals.{check23}
use Rattle.checks.proofs.check_place.Goals as goal

pub returns : goal.returns
unfolding check23
returns c = rw (c.place_rule.ensures, add-one) at c.when.ensures
