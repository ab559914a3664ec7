-- `field`: the bytes are read from the last to the first, so that each takes its place below those read before it.
use Rattle.records.proofs.Fields.{Read}
use Rattle.records.proofs.read.SavedRecord.field.Given as goal

abbrev pub invariant-loop-j : goal.invariant-loop-j
invariant-loop-j l = Read l.self.0.now l.k l.n l.j l.x
