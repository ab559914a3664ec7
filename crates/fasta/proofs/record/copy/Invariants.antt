-- What has been passed is copied.
use Rattle.std.proofs.Common.{◌≡◌, take}
use Rattle.fasta.proofs.record.copy.Given as goal

abbrev pub invariant-loop-i : goal.invariant-loop-i
invariant-loop-i l = take l.i l.to ≡ take l.i l.text
