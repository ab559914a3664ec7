-- The sequences up to the next mark have none and are passed over; the one there gets its word, which stands as far behind the marks as the
-- sequence in the set, and its new mark.
use mathlib.Core.Path.{◌≡◌}
use lib.ListN.{length}
use Rattle.rows.proofs.Kept.{Kept}
use Rattle.rows.proofs.set.keep_ones.Given as goal

abbrev pub invariant-loop-place : goal.invariant-loop-place
invariant-loop-place g l = (length l.out ≡ length l.initial.out) × (Kept l.by.places l.layout.lengths.now l.letter l.row l.w l.initial.out l.out l.place-iterator.0 l.marks)
