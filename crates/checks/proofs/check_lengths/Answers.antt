-- `check_lengths`: the first component that the test finds bad is the first bad one.
use Rattle.std.proofs.Common.{rules, tests}
use Rattle.std.proofs.lemmas.Iterator.{YieldsList-from_slice}
use Rattle.std.proofs.lemmas.Iterator.Search.{position_from_yields_List}
use Rattle.rules.specs.Refusals.{bad_length, check6}
use Rattle.checks.proofs.Laws.{first_placed}
use Rattle.checks.proofs.check_lengths.Goals as goal

pub returns-in-Some : goal.returns-in-Some
unfolding check6
returns-in-Some c =
    let found = position_from_yields_List (bad_length 0) _ _ c.position.result c.position.ensures.ran (YieldsList-from_slice _ c.iter.ensures.rest) (λ x b q k. search (rules, tests)) in
    rw c.in-Some.is at (first_placed 6 (bad_length 0) c.args.t c.components-slots.ensures c.held.ensures c.position.result found)

pub returns-in-None : goal.returns-in-None
unfolding check6
returns-in-None c =
    let found = position_from_yields_List (bad_length 0) _ _ c.position.result c.position.ensures.ran (YieldsList-from_slice _ c.iter.ensures.rest) (λ x b q k. search (rules, tests)) in
    rw c.in-None.is at (first_placed 6 (bad_length 0) c.args.t c.components-slots.ensures c.held.ensures c.position.result found)
