-- What has been passed is copied.
use Rattle.std.proofs.Common.{◌≡◌, ◌-◌, take}
use Rattle.fasta.proofs.record.copy_by.Given as goal

abbrev pub invariant-loop-at : goal.invariant-loop-at
invariant-loop-at g l = take l.at l.to ≡ take l.at l.text

abbrev pub decreases-loop-at : goal.decreases-loop-at
decreases-loop-at g l = l.last - l.at
