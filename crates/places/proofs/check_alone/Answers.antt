-- The checks before 13 as they stand, and 13 where they find nothing.
use Rattle.rules.proofs.Verdicts.{handed_on}
use Rattle.places.proofs.ChecksInTurn.{refused_before, left_to_13, set_is, template_is, rule_is}
use Rattle.places.proofs.check_alone.Goals as goal

pub returns-in_err-check_before_13 : goal.returns-in_err-check_before_13
returns-in_err-check_before_13 c = rw (handed_on _ _ c.from_residual.ensures) (refused_before _ _ _ c.in_err-check_before_13.ensures)

pub check_13-requires : goal.check_13-requires
check_13-requires c =
    let e = c.in_ok-check_before_13.ensures in
    record { sound_set = set_is _ _ _ e; sound_template = template_is _ _ _ e; place_value = rule_is _ _ _ e }

pub returns : goal.returns
returns c = left_to_13 _ _ _ c.in_ok-check_before_13.ensures c.check_13.ensures
