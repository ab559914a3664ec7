-- What the lines passed have is written, and what is left goes behind it: at the record's end nothing is left.
use Rattle.std.proofs.Common.{◌-◌, length}
use Rattle.fasta.proofs.Body.{Copied}
use Rattle.fasta.proofs.record.copy_body.Given as goal

abbrev pub invariant-loop-line : goal.invariant-loop-line
invariant-loop-line l = Copied l.file l.from l.initial.letters l.at l.used l.letters

abbrev pub decreases-loop-line : goal.decreases-loop-line
decreases-loop-line l = length l.file - l.at
