-- Each answer is that of the definition at the value that is matched.
use mathlib.Core.Logic.{◌≢◌}
use mathlib.Core.Path.{◌≡◌}
use Prim.Native.Nat.{ℕ}
use native.Mathlib.Omega.{arith}
use borrow.Author.Tests.{ne_eqb}
use Rattle.rules.specs.Letters.{letter}
use Rattle.rules.proofs.Letter.byte.Goals as goal

pub returns-in-0 : goal.returns-in-0
unfolding letter
returns-in-0 c = rw c.in-0.is

pub returns-in-1 : goal.returns-in-1
unfolding letter
returns-in-1 c = rw c.in-1.is

pub returns-in-2 : goal.returns-in-2
unfolding letter
returns-in-2 c = rw c.in-2.is

other : (v : ℕ) → v ≢ 0 → v ≢ 1 → v ≢ 2 → 84 ≡ letter v
unfolding letter
other v a c g = rw (ne_eqb v 0 a, ne_eqb v 1 c, ne_eqb v 2 g)

pub returns-in_default : goal.returns-in_default
returns-in_default c = other c.args.value (omega arith) (omega arith) (omega arith)
