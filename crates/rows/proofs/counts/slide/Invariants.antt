-- While the place goes back, the sum is that of the counts in its window: what the loop still reads stands before the place, so it is
-- not written yet. The sum fits, for it is of at most 256 counts and one more, each at most `count_most`.
use mathlib.Core.Path.{◌≡◌}
use Prim.Native.Nat.{◌≤◌}
use lib.ListN.{length}
use Rattle.rows.specs.Bits.{held}
use Rattle.rows.specs.Flags.{recent, around, back, masked}
use Rattle.rows.proofs.counts.slide.Given as goal

abbrev pub invariant-loop-o : goal.invariant-loop-o
invariant-loop-o l = (l.o ≤ length l.initial.counts) × (length l.counts ≡ length l.initial.counts) × (l.counts ≡ back (around (masked (held l.row) l.initial.counts) l.reach.apart.near l.reach.apart.count) l.o l.initial.counts)
    × (l.sum ≡ recent (masked (held l.row) l.initial.counts) l.o l.reach.apart.near l.reach.apart.count) × (l.from ≤ l.o)
