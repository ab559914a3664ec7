-- The lines passed and those of the rest are all, and what follows the last of them stays.
use mathlib.Core.Path.{◌≡◌}
use Prim.Native.Nat.{suc, ◌+◌, ◌≤◌}
use lib.ListN.{length}
use Rattle.rules.specs.Text.{lines, unended}
use Rattle.text.proofs.read.check_end.Given as goal

abbrev pub invariant-loop-others : goal.invariant-loop-others
invariant-loop-others l = (l.line + length l.rest ≤ suc (length l.input)) × (l.line + length (lines l.rest) ≡ suc (length (lines l.input))) × (unended l.rest ≡ unended l.input)

abbrev pub decreases-loop-others : goal.decreases-loop-others
decreases-loop-others l = length l.rest
