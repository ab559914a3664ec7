-- Whatever is passed lies before the position, and the loop stops at the first that does not or at the end.
use Prim.Native.Nat.{◌-◌, ◌≤◌}
use lib.ListN.{length}
use Rattle.joins.specs.Pass.{LieBefore}
use Rattle.joins.proofs.skip.Given as goal

abbrev pub invariant-loop-p : goal.invariant-loop-p
invariant-loop-p l = (l.j ≤ length l.list) × LieBefore l.list l.j l.from.0

abbrev pub decreases-loop-p : goal.decreases-loop-p
decreases-loop-p l = length l.list - l.j
