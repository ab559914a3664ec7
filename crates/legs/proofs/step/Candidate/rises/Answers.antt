-- By the kind of search: a mixed candidate goes up past T where there is room for a letter that stands for several bases, and else up
-- to V.
use Rattle.legs.proofs.Kind.{exact_rise, mixed_rise_t, mixed_rise}
use Rattle.legs.proofs.step.Candidate.rises.Goals as goal

pub returns-in-Exact : goal.returns-in-Exact
returns-in-Exact c = λ good depth. exact_rise _ c.in-Exact.is good depth _ _

pub returns-then-x-eq-LAST_BASE : goal.returns-then-x-eq-LAST_BASE
returns-then-x-eq-LAST_BASE c =
    let p = c.args.self in
    λ good depth. mixed_rise_t _ c.in-Mixed.is good depth _ _ p.some p.few p.allowed c.if-x-eq-LAST_BASE.true c.room_left.ensures

pub returns-else-x-eq-LAST_BASE : goal.returns-else-x-eq-LAST_BASE
returns-else-x-eq-LAST_BASE c =
    let p = c.args.self in
    λ good depth. mixed_rise _ c.in-Mixed.is good depth _ _ p.some p.few p.allowed c.if-x-eq-LAST_BASE.false
