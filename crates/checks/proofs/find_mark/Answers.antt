use mathlib.Core.Bool.{not}
use mathlib.Core.Path.{◌≡◌}
use Prim.Native.Nat.{◌+◌}
use native.Mathlib.Omega.{arith}
use Rattle.std.proofs.Common.{rules, tests}
use Rattle.std.proofs.lemmas.Iterator.{YieldsList-from_slice}
use Rattle.std.proofs.lemmas.Iterator.Search.{position_from_yields_List}
use Rattle.rules.specs.Letters.{is_letter}
use Rattle.checks.proofs.Laws.{marked}
use Rattle.checks.proofs.find_mark.Goals as goal

pub returns-in_err-mark-clause-told : goal.returns-in_err-mark-clause-told
returns-in_err-mark-clause-told c o =
    let found = position_from_yields_List (λ b. not (is_letter b)) _ _ c.position.result c.position.ensures.ran (YieldsList-from_slice _ c.iter.ensures.rest) (λ x b q k. search (rules, tests)) in
    rw c.from_residual.ensures (rw c.in_err-mark.was at (marked c.args.bytes.now c.pass_letters-passed.result c.position.result c.pass_letters-passed.ensures found o))

pub returns-clause-told : goal.returns-clause-told
returns-clause-told c o =
    let found = position_from_yields_List (λ b. not (is_letter b)) _ _ c.position.result c.position.ensures.ran (YieldsList-from_slice _ c.iter.ensures.rest) (λ x b q k. search (rules, tests)) in
    let e = rw c.in_ok-mark.was at (marked c.args.bytes.now c.pass_letters-passed.result c.position.result c.pass_letters-passed.ensures found o) in
    let k : c.in_ok-mark.mark + (c.pass_letters-passed.result + o) ≡ c.pass_letters-passed.result + c.in_ok-mark.mark + o = omega arith in
    rw k at e
