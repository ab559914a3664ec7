-- `restore`: bytes that pass before 13 are ready for it, and 13 decides.
use Rattle.records.proofs.Before.{ready, left_to_13}
use Rattle.rules.proofs.Verdicts.{answer_handed_on}
use Rattle.saved.proofs.restore.Goals as goal

pub check_13-requires : goal.check_13-requires
check_13-requires c =
    let r = ready _ _ _ _ c.in_ok-search.ensures in
    record { sound_set = r.set; sound_template = r.template; place_value = r.place }

pub returns-in_err-check_13 : goal.returns-in_err-check_13
returns-in_err-check_13 c =
    rw (answer_handed_on _ _ c.from_residual-in_err-check_13.ensures, left_to_13 _ _ _ _ c.in_ok-search.ensures, ← c.in_err-check_13.ensures)
