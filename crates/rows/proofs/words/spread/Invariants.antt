-- Each turn joins the row with itself, shifted by no more than it spans: then it spans so much more. The first span, of one, is the row itself.
use mathlib.Core.Path.{◌≡◌}
use Prim.Native.Nat.{◌-◌, ◌≤◌}
use lib.ListN.{length}
use Rattle.rows.specs.Bits.{held}
use Rattle.rows.specs.Rows.{window}
use Rattle.rows.proofs.words.spread.Given as goal

abbrev pub invariant-loop-have : goal.invariant-loop-have
invariant-loop-have l = (1 ≤ l.have) × (l.have ≤ l.count) × (length l.row ≡ length l.initial.row) × (length l.spare ≡ length l.initial.spare) × (length l.initial.spare ≡ length l.initial.row)
    × (held l.row ≡ window 0 l.have (held l.initial.row))

abbrev pub decreases-loop-have : goal.decreases-loop-have
decreases-loop-have l = l.count - l.have
