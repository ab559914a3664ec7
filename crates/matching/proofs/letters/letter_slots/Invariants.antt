-- Each turn writes the words of one sequence in every letter's row, past those of all before it.
use Rattle.matching.proofs.BaseRows.{Whole}
use Rattle.matching.proofs.letters.letter_slots.Given as goal

abbrev pub invariant-loop-k : goal.invariant-loop-k
invariant-loop-k l = Whole l.plan.layout.lengths.now l.plan.letters.now l.k l.standing
