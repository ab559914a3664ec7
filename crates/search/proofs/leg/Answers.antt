-- A leg is refused where the checks before 13 refuse, and else is the one that is left to 13.
use mathlib.Core.Path.{ap, ◌∙◌}
use Rattle.legs.proofs.Ruled.{declined}
use Rattle.places.proofs.ChecksInTurn.{refused_before}
use Rattle.rules.specs.Told.{told_leg}
use Rattle.search.proofs.leg.Goals as goal

pub returns-in-Err : goal.returns-in-Err
returns-in-Err c =
    let d = declined c.args.set.now.letters.now c.args.set.now.lengths.now c.args.search c.args.budget c.args.motifs.now c.args.supports.now c.args.weights.now (refused_before _ _ _ c.in-Err.ensures) in
    record { result_value = ap told_leg c.refused.ensures ∙ d.0; motifs_after = d.1.0; supports_after = d.1.1.0; weights_after = d.1.1.1 }
