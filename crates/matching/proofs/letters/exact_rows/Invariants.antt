-- Each turn writes one slot, past those that stand.
use Rattle.matching.proofs.Standing.{Written, Shifted}
use Rattle.matching.proofs.letters.exact_rows.Given as goal

abbrev pub invariant-loop-s : goal.invariant-loop-s
invariant-loop-s l = Written (Shifted l.plan.layout.lengths.now l.initial.standing) l.initial.standing l.s l.standing
