-- If the tests of the rule hold, the number is what its digits make.
use mathlib.Core.Path.{sym, ◌∙◌}
use native.Mathlib.Nat.{le_trans}
use Rattle.rules.proofs.TextNumbers.{number_yes, number_no}
use Rattle.text.proofs.DigitByDigit.{number_digits, number_long, number_below}
use Rattle.text.proofs.parse.parse_number.Goals as goal

pub value-requires : goal.value-requires
value-requires c =
    let a = c.args in
    let e = sym c.is_number.ensures ∙ c.if-is_number.true in
    (number_digits a.most a.text.now e, le_trans (number_long a.most a.text.now e) c.requires)

pub returns-then-is_number : goal.returns-then-is_number
returns-then-is_number c =
    let a = c.args in
    let e = sym c.is_number.ensures ∙ c.if-is_number.true in
    record { value = rw c.value.ensures.0 (sym (number_yes a.most a.text.now e)); bound = number_below a.most a.text.now e c.value.ensures.1 }

pub returns-else-is_number-clause-value : goal.returns-else-is_number-clause-value
returns-else-is_number-clause-value c = sym (number_no c.args.most c.args.text.now (sym c.is_number.ensures ∙ c.if-is_number.false))
