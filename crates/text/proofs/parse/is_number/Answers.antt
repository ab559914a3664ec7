-- The four tests are those of the rule.
use Rattle.std.proofs.Common.{rules}
use borrow.Author.Tests.{tests}
use Rattle.std.proofs.lemmas.Iterator.{YieldsList-from_slice}
use Rattle.std.proofs.lemmas.Iterator.Search.{all_from_yields_List}
use Rattle.rules.specs.Text.{is_in_range}
use Rattle.text.proofs.DigitByDigit.{number_is}
use Rattle.text.proofs.parse.is_number.Goals as goal

pub returns : goal.returns
returns c =
    let h = all_from_yields_List (is_in_range 48 57) _ _ _ c.all-digits.ensures.ran (YieldsList-from_slice _ c.iter.ensures.rest) (λ x b q k. search (rules, tests)) in
    number_is c.args.most c.args.text.now h c.starts_with-leading.ensures.value
