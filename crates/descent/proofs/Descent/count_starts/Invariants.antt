-- `count_starts` meets its contract: those counted and those left are as many as there are.
use mathlib.Core.Path.{◌≡◌}
use Prim.Native.Nat.{◌+◌, ◌≤◌}
use Rattle.descent.proofs.Paths.{starts_left}
use Rattle.descent.proofs.Descent.count_starts.Given as goal

abbrev pub invariant-loop-at : goal.invariant-loop-at
invariant-loop-at l = let left = starts_left l.self.letters l.self.flags.now l.component in record {
  few : l.count ≤ l.at;
  all : l.count + left l.at l.at-end ≡ left l.initial.at l.at-end;
}
