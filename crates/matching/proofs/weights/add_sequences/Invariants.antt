-- The loop's invariant: what is left of the word of marks, and the sum so far with the weights of the word's sequences that are left is that
-- of all of them. So no sum on the way is larger than the last.
use mathlib.Core.List.{List, map}
use mathlib.Core.Path.{◌≡◌}
use Prim.Native.Nat.{ℕ, ◌+◌, ◌*◌}
use lib.ListN.{get_or}
use Rattle.rules.specs.Lists.{run, sum}
use Rattle.matching.specs.Weights.{weight_at}
use Rattle.matching.proofs.Totals.{weights_up}
use Rattle.rows.proofs.Lowest.{Walk}
use Rattle.matching.proofs.weights.add_sequences.Given as goal

-- the sum so far, when the sequences of the first e marks of word w are added
abbrev pub Added_to : ℕ → List ℕ → List ℕ → List ℕ → ℕ → ℕ → Type 0
Added_to w ns row counts total e = total + weights_up ns row counts (w * 64 + 64) (w * 64 + e) ≡ sum (map (weight_at ns row counts) (run (w * 64) 64))

abbrev pub invariant-loop-rest : goal.invariant-loop-rest
invariant-loop-rest l = Walk (Added_to l.w l.weighing.made.plan.layout.lengths.now l.row l.counts l.total) (get_or l.row l.w 0) l.rest

abbrev pub decreases-loop-rest : goal.decreases-loop-rest
decreases-loop-rest l = l.rest
