-- A run is not empty, and each of its bytes is an N.
use Rattle.std.proofs.Common.{rules, eqb}
use borrow.Author.Tests.{tests}
use Rattle.std.proofs.lemmas.Iterator.{YieldsList-from_slice}
use Rattle.std.proofs.lemmas.Iterator.Search.{all_from_yields_List}
use Rattle.text.proofs.DigitByDigit.{run_is}
use Rattle.text.proofs.parse.is_run.Goals as goal

pub returns : goal.returns
returns c =
    let h = all_from_yields_List (λ b. eqb b 78) _ _ _ c.all.ensures.ran (YieldsList-from_slice _ c.iter.ensures.rest) (λ x b q k. search (rules, tests)) in
    run_is c.args.text.now c.is_empty.ensures h
