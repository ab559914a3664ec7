use mathlib.Core.Path.{◌≡◌, sym, ◌∙◌}
use Prim.Native.Nat.{◌-◌}
use native.Mathlib.Nat.{mul-one}
use native.Mathlib.Numerals.{add-one}
use native.Mathlib.Omega.{arith}
use lib.ListN.{length}
use Rattle.text.proofs.DigitByDigit.{digits_none, digits_more, digit_low, digit_high}
use Rattle.text.proofs.parse.value.Goals as goal

pub overflow_sub-digit : goal.overflow_sub-digit
overflow_sub-digit c = digit_low c.loop-digit.digit-index 0 c.args.text.now c.loop-digit-test.true c.requires.0

pub loop-digit-preserved : goal.loop-digit-preserved
loop-digit-preserved c =
    let v = c.loop-digit.invariant in
    let h = c.loop-digit-test.true in
    let l = c.args.text.now in
    rw c.from.ensures (
      rw add-one (omega (arith, v.0, digit_high c.loop-digit.digit-index 0 l h c.requires.0)),
      digits_more c.loop-digit.digit-index c.loop-digit.value l h v.1,
    )

pub returns : goal.returns
returns c =
    let v = c.loop-digit.invariant in
    let l = c.args.text.now in
    let i : c.loop-digit.digit-index ≡ length l = omega (arith, c.loop-digit.auto.digit-index-end, c.loop-digit-test.false) in
    let j : length l - c.loop-digit.digit-index ≡ 0 = omega arith in
    (sym (v.1 ∙ rw (j, mul-one, digits_none c.loop-digit.digit-index l (omega (arith, i))) (omega arith)), rw (← i) v.0)
