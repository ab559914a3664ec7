-- Each turn writes the words of one sequence, past those of all before it.
use mathlib.Core.Bool.{true}
use mathlib.Core.Path.{◌≡◌}
use Prim.Native.Nat.{◌≤◌}
use lib.ListN.{length}
use Rattle.rows.specs.Set.{shifted_at, Filled}
use Rattle.rows.proofs.shift.shift_all.Given as goal

abbrev pub invariant-loop-k : goal.invariant-loop-k
invariant-loop-k l = (l.k ≤ length l.layout.lengths.now) × (length l.out ≡ length l.initial.out) × (Filled (λ _. true) (shifted_at l.by.places l.layout.lengths.now l.row) l.layout.lengths.now l.out l.k)
