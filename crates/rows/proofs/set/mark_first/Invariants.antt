-- Each turn sets the next mark, which was not set.
use mathlib.Core.Path.{◌≡◌}
use Prim.Native.Nat.{◌≤◌}
use lib.ListN.{length}
use Rattle.rows.proofs.Start.{Begun}
use Rattle.rows.proofs.set.mark_first.Given as goal

abbrev pub invariant-loop-k : goal.invariant-loop-k
invariant-loop-k l = (l.k ≤ l.n)
    × (length l.row ≡ length l.initial.row)
    × (Begun l.k l.initial.row l.row)
