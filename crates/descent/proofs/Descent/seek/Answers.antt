use mathlib.Core.Path.{sym, ◌∙◌}
use native.Mathlib.Omega.{arith}
use Rattle.descent.proofs.Paths.{unflagged_more}
use Rattle.descent.proofs.Descent.seek.Goals as goal

pub loop-at-init : goal.loop-at-init
loop-at-init c = (omega arith, λ p h l. absurd (omega arith))

pub returns-then-can_start-clause-from_le_result : goal.returns-then-can_start-clause-from_le_result
returns-then-can_start-clause-from_le_result c = c.loop-at.invariant

pub loop-at-preserved : goal.loop-at-preserved
loop-at-preserved c =
    let l = c.loop-at in
    (omega arith, unflagged_more _ _ _ _ _ l.invariant.1 (sym c.can_start.ensures ∙ c.if-can_start.false))

pub returns-clause-from_le_result : goal.returns-clause-from_le_result
returns-clause-from_le_result c = c.loop-at.invariant
