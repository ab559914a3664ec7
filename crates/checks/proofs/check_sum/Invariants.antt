-- `check_sum`: what is left and the lengths passed make up the letters. Where a length is above what is left the sum is above
-- the letters; at the end the sum is the letters exactly if nothing is left.
use mathlib.Core.Path.{◌≡◌}
use Prim.Native.Nat.{◌+◌}
use lib.ListN.{length, drop}
use Rattle.rules.specs.Lists.{sum}
use Rattle.checks.proofs.check_sum.Given as goal

abbrev pub invariant-loop-n : goal.invariant-loop-n
invariant-loop-n l = l.left + sum l.set.lengths.now ≡ length l.set.letters.now + sum (drop l.n-index l.set.lengths.now)
