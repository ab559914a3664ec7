-- The code's words are the definition's.
use native.Mathlib.Omega.{arith}
use Rattle.rows.specs.Set.{words_of}
use Rattle.rows.proofs.set.words_of.Goals as goal

pub returns : goal.returns
unfolding words_of
returns c = omega (arith, c.div_ceil.ensures)
