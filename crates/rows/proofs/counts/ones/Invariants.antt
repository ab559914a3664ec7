-- At the places that the loop has passed, what the row lets stand is 1.
use mathlib.Core.Path.{◌≡◌}
use Prim.Native.Nat.{ℕ, ◌*◌, ◌≤◌, ◌<◌, min}
use lib.ListN.{length, replicate}
use Rattle.rows.specs.Bits.{held}
use Rattle.rows.specs.Flags.{masked_at}
use Rattle.rows.proofs.counts.ones.Given as goal

abbrev pub invariant-loop-q : goal.invariant-loop-q
invariant-loop-q l = (length l.counts ≡ length l.initial.counts) × (length l.initial.counts ≤ 64 * length l.row)
    × ((p : ℕ) → p < min (64 * l.q) (length l.initial.counts) → masked_at (held l.row) l.counts p ≡ masked_at (held l.row) (replicate (length l.initial.counts) 1) p)
