-- The checks decide: a refusal is told as they found it, and else the pass writes those with a partner.
use mathlib.Core.Path.{sym, ◌∙◌}
use native.Mathlib.Omega.{arith}
use Rattle.rules.specs.Join.{partners, partnered}
use Rattle.rules.specs.Occurrence.{reach}
use Rattle.rules.proofs.Apart.{Apart, apart}
use Rattle.rules.proofs.Sound.{join_sound}
use Rattle.rules.proofs.Verdicts.{answer_handed_on}
use Rattle.joins.proofs.Checks.{rule_refused, rule_fine}
use Rattle.joins.proofs.join.Goals as goal

pub returns-in_err-check_join : goal.returns-in_err-check_join
returns-in_err-check_join c =
    let r = rule_refused _ _ _ _ _ _ (sym c.in_err-check_join.ensures) in
    record { result_value = answer_handed_on _ _ c.from_residual.ensures ∙ r.0; out_after = r.1 }

pub pass-requires : goal.pass-requires
pass-requires c =
    let s = join_sound _ _ _ _ _ _ (sym c.in_ok-check_join.ensures) in
    let t : Apart c.over.result = rw c.over.ensures (apart _ _ _ s.some s.short s.ordered s.near) in
    record { first_rising = s.first_rising; second_rising = s.second_rising; near = omega (arith, t.near, t.few); room = s.room }

pub returns : goal.returns
unfolding partnered partners reach
returns c =
    let p = c.pass.ensures in
    let r = rule_fine _ _ _ _ _ _ (sym c.in_ok-check_join.ensures) (rw c.over.ensures at p.value) (rw c.over.ensures at p.out_after) in
    record { result_value = r.0; out_after = r.1 }
