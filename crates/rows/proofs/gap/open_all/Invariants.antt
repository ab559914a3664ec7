-- Each turn opens the sequences of one word of marks; those of the words after it are still as they were, and so are all marks.
use mathlib.Core.Path.{◌≡◌}
use Prim.Native.Nat.{◌*◌, ◌≤◌}
use lib.ListN.{length}
use Rattle.rows.specs.Set.{row_marks, is_marked, window_at}
use Rattle.rows.proofs.RowsRewritten.{Rewritten}
use Rattle.rows.proofs.gap.open_all.Given as goal

abbrev pub invariant-loop-w : goal.invariant-loop-w
invariant-loop-w l = (l.w ≤ row_marks)
    × (length l.spare ≡ length l.initial.spare)
    × (length l.row ≡ length l.initial.row)
    × (Rewritten (is_marked l.initial.row) (window_at l.reach.apart.near l.reach.apart.count l.layout.lengths.now l.initial.row) l.layout.lengths.now 0 (l.w * 64) l.initial.row l.row)
