-- Word by word, from the last to the first: what the opened row lets stand is written from the place on, and before it the counts are as
-- they were. The sum is that of the window at the place, if the word before it needs it.
use mathlib.Core.Path.{◌≡◌}
use Prim.Native.Nat.{◌-◌, ◌/◌, ◌≤◌, ◌<◌}
use lib.ListN.{length, take, get_or}
use Rattle.rows.specs.Bits.{held}
use Rattle.rows.specs.Flags.{recent, around, back, masked}
use Rattle.rows.proofs.counts.lead.Given as goal

abbrev pub invariant-loop-to : goal.invariant-loop-to
invariant-loop-to l = (l.to ≤ length l.initial.counts) × (length l.counts ≡ length l.initial.counts) × (take l.to l.counts ≡ take l.to l.initial.counts)
    × (masked (held l.opened) l.counts ≡ back (around (masked (held l.row) l.initial.counts) l.fn.reach.apart.near l.fn.reach.apart.count) l.to (masked (held l.opened) l.initial.counts))
    × (0 < get_or l.opened ((l.to - 1) / 64) 0 → l.total ≡ recent (masked (held l.row) l.initial.counts) l.to l.fn.reach.apart.near l.fn.reach.apart.count)

abbrev pub decreases-loop-to : goal.decreases-loop-to
decreases-loop-to l = l.to
