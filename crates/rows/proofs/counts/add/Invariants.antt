-- The sum so far with what the words that are left add is that of all. So no sum on the way is larger than the last.
use mathlib.Core.Path.{◌≡◌}
use Prim.Native.Nat.{◌+◌}
use lib.ListN.{length}
use Rattle.rules.specs.Lists.{sum}
use Rattle.rows.specs.Bits.{held}
use Rattle.rows.specs.Flags.{masked}
use Rattle.rows.proofs.Adding.{Counted}
use Rattle.rows.proofs.counts.add.Given as goal

abbrev pub invariant-loop-stretch : goal.invariant-loop-stretch
invariant-loop-stretch l = Counted l.row l.counts × (l.total + sum (masked (held l.row) l.counts) ≡ sum (masked (held l.fn.row) l.fn.counts))

abbrev pub decreases-loop-stretch : goal.decreases-loop-stretch
decreases-loop-stretch l = length l.row
