-- What the lines passed have, and what is left, is the record's: at its end nothing is left.
use Rattle.std.proofs.Common.{◌-◌, length}
use Rattle.fasta.proofs.Body.{Measured}
use Rattle.fasta.proofs.record.measure.Given as goal

abbrev pub invariant-loop-line : goal.invariant-loop-line
invariant-loop-line l = Measured l.file l.from l.at l.size l.bad

abbrev pub decreases-loop-line : goal.decreases-loop-line
decreases-loop-line l = length l.file - l.at
