-- `check_allowances`: one of the components that are held has an allowance above its length, or none.
use Rattle.std.proofs.Common.{rules, tests}
use Rattle.std.proofs.lemmas.Iterator.{YieldsList-from_slice}
use Rattle.std.proofs.lemmas.Iterator.Search.{any_from_yields_List}
use Rattle.rules.specs.Refusals.{bad_allowance, check24}
use Rattle.checks.proofs.Laws.{some_bad, held_slots}
use Rattle.checks.proofs.check_allowances.Goals as goal

pub returns : goal.returns
unfolding check24
returns c =
    let t = c.args.t in
    let found = any_from_yields_List (bad_allowance t.profile) _ _ c.any.result c.any.ensures.ran (YieldsList-from_slice _ c.iter.ensures.rest) (λ x b q k. search (rules, tests)) in
    rw (c.when.ensures, found, some_bad, held_slots t c.components-slots.ensures c.held.ensures)
