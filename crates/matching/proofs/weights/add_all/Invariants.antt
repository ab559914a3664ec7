-- The loop's invariant: the sum so far with the weights of the sequences that are left is that of all. So no sum on the way is larger than the last.
use mathlib.Core.Path.{◌≡◌}
use Prim.Native.Nat.{◌+◌, ◌*◌}
use Rattle.rules.specs.Limits.{sequence_set_sequences}
use Rattle.matching.specs.Weights.{weight_of}
use Rattle.matching.proofs.Totals.{weights_up}
use Rattle.matching.proofs.weights.add_all.Given as goal

abbrev pub invariant-loop-w : goal.invariant-loop-w
invariant-loop-w l = l.total + weights_up l.weighing.made.plan.layout.lengths.now l.row l.counts sequence_set_sequences (l.w * 64) ≡ weight_of l.weighing.made.plan.layout.lengths.now l.row l.counts
