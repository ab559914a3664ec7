-- `recover` meets its contract: a refusal is told as the checks found it, and what they pass is sound.
use mathlib.Core.Path.{◌∙◌}
use Rattle.recovery.proofs.Rule.{first_sound, rule_refused, rule_fine}
use Rattle.rules.proofs.Verdicts.{answer_handed_on}
use Rattle.recovery.proofs.recover.Goals as goal

pub returns-in_err-check_recovery : goal.returns-in_err-check_recovery
returns-in_err-check_recovery c =
    let r = rule_refused _ _ _ _ _ _ c.in_err-check_recovery.ensures in
    record { result_value = answer_handed_on _ _ c.from_residual.ensures ∙ r.0; out_after = r.1 }

pub invariant_of-motif : goal.invariant_of-motif
invariant_of-motif c = record { sound = (first_sound _ _ _ _ c.in_ok-check_recovery.ensures).1 }

pub recover_rows-requires : goal.recover_rows-requires
recover_rows-requires c = record { sound_set = (first_sound _ _ _ _ c.in_ok-check_recovery.ensures).0 }

pub returns : goal.returns
returns c =
    let e = c.recover_rows.ensures in
    let r = rule_fine _ _ _ _ _ _ c.in_ok-check_recovery.ensures e.result_value e.out_after in
    record { result_value = r.0; out_after = r.1 }
