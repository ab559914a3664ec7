-- `begin`: what the checks find is what is told. Past them the counts are within their limits, so that they fit their types, and
-- the search is put together from the parts that the rule names.
use mathlib.Core.Path.{sym, ap}
use native.Mathlib.Omega.{arith}
use Rattle.rules.specs.Calls.{begun, begin_rule}
use Rattle.rules.specs.Told.{gives}
use Rattle.rules.proofs.Sound.{new_sound}
use Rattle.rules.proofs.Verdicts.{answer_handed_on}
use Rattle.search.proofs.begin.Goals as goal

pub returns-in_err-check_new : goal.returns-in_err-check_new
unfolding begin_rule
returns-in_err-check_new c = rw (answer_handed_on _ _ c.from_residual.ensures, ← c.in_err-check_new.ensures)

pub overflow_cast-set : goal.overflow_cast-set
overflow_cast-set c = omega (arith, (new_sound _ _ _ _ (sym c.in_ok-check_new.ensures)).set.few)

pub overflow_cast-set-2 : goal.overflow_cast-set-2
overflow_cast-set-2 c = omega (arith, (new_sound _ _ _ _ (sym c.in_ok-check_new.ensures)).set.short)

pub returns : goal.returns
unfolding begin_rule begun
returns c = rw (← c.in_ok-check_new.ensures) (ap gives (rw (c.new.ensures, c.trim.ensures, c.new-size.ensures, c.first.ensures)))
