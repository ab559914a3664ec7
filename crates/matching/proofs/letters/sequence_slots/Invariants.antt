-- A turn writes the next word of each letter's row, that of the 64 letters from its first on.
use Rattle.matching.proofs.BaseRows.{Begun}
use Rattle.matching.proofs.letters.sequence_slots.Given as goal

abbrev pub invariant-loop-q : goal.invariant-loop-q
invariant-loop-q l = Begun l.from l.to l.sequence l.initial.standing l.q l.standing
