-- Each turn writes the sequences of one word of marks and then the word itself; and the ones that it has fewer than before are taken off
-- those that can have a mark.
use mathlib.Core.Path.{◌≡◌}
use Prim.Native.Nat.{◌≤◌}
use lib.ListN.{length}
use Rattle.rows.specs.Set.{row_marks}
use Rattle.rows.proofs.Possible.{Possible}
use Rattle.rows.proofs.set.keep_short.Given as goal

abbrev pub invariant-loop-w : goal.invariant-loop-w
invariant-loop-w g l = (l.w ≤ row_marks) × (length l.out ≡ length l.initial.out) × (Possible l.by.places l.layout.lengths.now l.letter l.row l.quorum l.out l.able l.w)
