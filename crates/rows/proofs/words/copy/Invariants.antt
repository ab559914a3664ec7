-- What has been passed is copied.
use Rattle.std.proofs.Common.{◌≡◌, take}
use Rattle.rows.proofs.words.copy.Given as goal

abbrev pub invariant-loop-q : goal.invariant-loop-q
invariant-loop-q l = take l.q l.out ≡ take l.q l.row
