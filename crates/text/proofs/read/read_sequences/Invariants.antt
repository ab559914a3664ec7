-- Each turn reads one line more.
use lib.ListN.{length}
use Rattle.text.proofs.SequenceLines.{Taken}
use Rattle.text.proofs.read.read_sequences.Given as goal

abbrev pub invariant-loop-line : goal.invariant-loop-line
invariant-loop-line l = Taken l.input l.initial.letters l.initial.lengths l.letters l.lengths l.read.letters l.read.sequences l.rest

abbrev pub decreases-loop-line : goal.decreases-loop-line
decreases-loop-line l = length l.rest
