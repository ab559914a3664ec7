-- An empty line is none of the lines, so the lines from the one behind it on are the same.
use Rattle.std.proofs.Common.{◌≡◌, ◌-◌, length}
use Rattle.rules.specs.Fasta.{lines_from}
use Rattle.fasta.proofs.lines.first_line.Given as goal

abbrev pub invariant-loop-start : goal.invariant-loop-start
invariant-loop-start l = lines_from l.file l.at ≡ lines_from l.file l.start

abbrev pub decreases-loop-start : goal.decreases-loop-start
decreases-loop-start l = length l.file - l.start
