-- The two answers of the test are those of the definition.
use borrow.Author.Tests.{eq-eqb, ne_eqb}
use Rattle.rows.proofs.counts.when.Goals as goal

pub returns-then-bit-eq1 : goal.returns-then-bit-eq1
returns-then-bit-eq1 c = simp (eq-eqb _ _ c.if-bit-eq1.true)

pub returns-else-bit-eq1 : goal.returns-else-bit-eq1
returns-else-bit-eq1 c = simp (ne_eqb _ _ c.if-bit-eq1.false)
