-- `seek` meets its contract: no position from `from` up to `at` has a flag.
use Prim.Native.Nat.{suc, ◌-◌, ◌≤◌}
use Rattle.descent.specs.Paths.{Unflagged}
use Rattle.descent.proofs.Descent.seek.Given as goal

abbrev pub invariant-loop-at : goal.invariant-loop-at
invariant-loop-at l = (l.initial.at ≤ l.at) × Unflagged l.self.letters l.self.flags.now 0 l.initial.at l.at

abbrev pub decreases-loop-at : goal.decreases-loop-at
decreases-loop-at l = suc l.self.letters - l.at
