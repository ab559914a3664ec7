-- The loop's invariant: `total` is the sum of the first `k` counts that the row lets stand. Each is at most `count_most`, and there are at
-- most 256.
use mathlib.Core.Path.{◌≡◌}
use Prim.Native.Nat.{◌≤◌}
use Rattle.rows.specs.Bits.{held}
use Rattle.rows.specs.Flags.{recent, masked}
use Rattle.rows.proofs.counts.window.Given as goal

abbrev pub invariant-loop-k : goal.invariant-loop-k
invariant-loop-k l = (l.k ≤ l.reach.apart.count) × (l.total ≡ recent (masked (held l.ways.row.now) l.ways.counts.now) l.o l.reach.apart.near l.k)
