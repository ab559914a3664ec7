-- `check_gaps`: the first component that the test finds bad is the first bad one.
use Rattle.std.proofs.Common.{rules, tests}
use Rattle.std.proofs.lemmas.Iterator.{YieldsList-from_slice}
use Rattle.std.proofs.lemmas.Iterator.Search.{position_from_yields_List}
use Rattle.std.proofs.lemmas.Iterator.Consumers.{YieldsList-from_enumerate, YieldsList-at}
use Rattle.rules.specs.Refusals.{bad_gap, check8}
use Rattle.checks.proofs.Laws.{first_numbered, numbered}
use Rattle.checks.proofs.check_gaps.Goals as goal

pub returns-in-Some : goal.returns-in-Some
unfolding check8
returns-in-Some c =
    let found = position_from_yields_List (numbered 8 bad_gap) _ _ c.position.result c.position.ensures.ran (YieldsList-from_enumerate (YieldsList-at c.enumerate.ensures.source (YieldsList-from_slice _ c.iter.ensures.rest)) c.enumerate.ensures.count) (λ x b q k. search (rules, tests)) in
    rw c.in-Some.is at (first_numbered 8 bad_gap c.args.t c.components-slots.ensures c.held.ensures c.position.result found)

pub returns-in-None : goal.returns-in-None
unfolding check8
returns-in-None c =
    let found = position_from_yields_List (numbered 8 bad_gap) _ _ c.position.result c.position.ensures.ran (YieldsList-from_enumerate (YieldsList-at c.enumerate.ensures.source (YieldsList-from_slice _ c.iter.ensures.rest)) c.enumerate.ensures.count) (λ x b q k. search (rules, tests)) in
    rw c.in-None.is at (first_numbered 8 bad_gap c.args.t c.components-slots.ensures c.held.ensures c.position.result found)
