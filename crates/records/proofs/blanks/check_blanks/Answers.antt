-- `check_blanks`: the first record that the test finds bad is the first bad one.
use mathlib.Core.Path.{refl, ◌∙◌}
use native.Mathlib.Omega.{arith}
use Prim.Native.Nat.{◌+◌}
use Rattle.std.proofs.Common.{rules, tests}
use Rattle.std.proofs.lemmas.Iterator.{YieldsList-from_range}
use Rattle.std.proofs.lemmas.Iterator.Search.{find_from_yields_List}
use Rattle.rules.specs.Refusals.{check21, bad_blank}
use Rattle.rules.specs.Saved.{component_count, record_at}
use Rattle.records.proofs.RecordsInTurn.{first_found}
use Rattle.records.proofs.blanks.check_blanks.Goals as goal

pub returns-in-Some : goal.returns-in-Some
unfolding check21
returns-in-Some c =
    let bs = c.args.bytes.0.now in
    let bad = bad_blank c.profile-profile.result (component_count bs) in
    let found = find_from_yields_List (λ i. bad i (record_at bs i)) _ _ c.find.result c.find.ensures.ran (YieldsList-from_range 0 _ (c.from-n.result + 2) refl (omega arith)) (λ x b q k. search (rules, tests)) in
    rw (c.in-Some.is, c.profile-profile.ensures) at (first_found 21 bad bs c.find.result (c.from-n.ensures ∙ c.component_count.ensures) found)

pub returns-in-None : goal.returns-in-None
unfolding check21
returns-in-None c =
    let bs = c.args.bytes.0.now in
    let bad = bad_blank c.profile-profile.result (component_count bs) in
    let found = find_from_yields_List (λ i. bad i (record_at bs i)) _ _ c.find.result c.find.ensures.ran (YieldsList-from_range 0 _ (c.from-n.result + 2) refl (omega arith)) (λ x b q k. search (rules, tests)) in
    rw (c.in-None.is, c.profile-profile.ensures) at (first_found 21 bad bs c.find.result (c.from-n.ensures ∙ c.component_count.ensures) found)
