-- The sequences up to the next mark have none and are passed over; the one there gets its words and its new mark, or is lost.
use mathlib.Core.Path.{◌≡◌}
use lib.ListN.{length}
use Rattle.rows.proofs.Kept.{Going}
use Rattle.rows.proofs.set.keep_sequences.Given as goal

abbrev pub invariant-loop-place : goal.invariant-loop-place
invariant-loop-place g l = (length l.out ≡ length l.initial.out) × (Going l.by.places l.layout.lengths.now l.letter l.row l.w l.initial.out l.out l.place-iterator.0 l.left l.lost)
