-- What is used of the buffer stays within it.
use Rattle.std.proofs.Common.{◌≤◌}
use Rattle.reads.proofs.read.Given as goal

abbrev pub invariant-loop-count : goal.invariant-loop-count
invariant-loop-count g l = l.used ≤ 16
