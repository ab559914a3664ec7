-- A short set is left to a function that promises the same. In any other each turn writes the sequences of one word of marks and then the
-- word itself, which stands before all sequences; and those that are lost are taken off those that can have a mark. In the words of marks
-- behind those that the set has, there is none.
use mathlib.Core.Path.{◌≡◌}
use Prim.Native.Nat.{◌≤◌}
use lib.ListN.{length}
use Rattle.rows.specs.Set.{row_marks}
use Rattle.rows.proofs.Possible.{Possible}
use Rattle.rows.proofs.set.keep_all.Given as goal

abbrev pub invariant-loop-w : goal.invariant-loop-w
invariant-loop-w g l = (l.w ≤ l.used) × (l.used ≤ row_marks) × (length l.out ≡ length l.initial.out) × (Possible l.by.places l.layout.lengths.now l.letter l.row l.quorum l.out l.possible l.w)
