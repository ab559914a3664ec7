-- Each turn writes the slot of one letter, past those that stand.
use Rattle.matching.specs.Path.{FromBases}
use Rattle.matching.proofs.Standing.{Written}
use Rattle.matching.proofs.letters.mixed_rows.Given as goal

abbrev pub invariant-loop-s : goal.invariant-loop-s
invariant-loop-s l = Written (FromBases l.initial.standing) l.initial.standing l.s l.standing
