-- None of the bytes passed is the one looked for.
use mathlib.Core.Path.{◌≡◌}
use Prim.Native.Nat.{◌+◌, ◌*◌}
use lib.ListN.{drop}
use Rattle.text.specs.Pieces.{find}
use Rattle.text.proofs.pieces.pass_eights.Given as goal

abbrev pub invariant-loop-k : goal.invariant-loop-k
invariant-loop-k l = find l.b l.text ≡ 8 * l.k + find l.b (drop (8 * l.k) l.text)
