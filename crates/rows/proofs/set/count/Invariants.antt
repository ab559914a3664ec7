-- The ones counted so far and those of the words of marks to come are all the marks.
use mathlib.Core.Path.{◌≡◌}
use Prim.Native.Nat.{◌+◌, ◌*◌, ◌≤◌}
use lib.ListN.{take, drop}
use Rattle.rules.specs.Lists as lists
use Rattle.rows.specs.Bits.{held}
use Rattle.rows.specs.Set.{row_marks}
use Rattle.rows.proofs.set.count.Given as goal

abbrev pub invariant-loop-w : goal.invariant-loop-w
invariant-loop-w l = (l.w ≤ l.n) × (l.n ≤ row_marks) × (l.sum ≤ 64 * l.w) × (l.sum + lists.sum (held (drop l.w (take l.n l.row))) ≡ lists.sum (held (take l.n l.row)))
