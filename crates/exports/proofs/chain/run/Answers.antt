-- `run`: the search that was read is left to 13, and what the leg leaves fits the bytes that it was read of.
use Rattle.rules.specs.Told.{told_leg}
use Rattle.exports.proofs.CheckedOnce.{read_before, left_template, ran}
use Rattle.exports.proofs.chain.run.Goals as goal

pub leg-leg-requires : goal.leg-leg-requires
leg-leg-requires c = read_before c.args.set.now.letters.now c.args.set.now.lengths.now c.args.saved.now c.args.search c.requires

pub save_left-requires : goal.save_left-requires
save_left-requires c =
    let a = c.args in
    left_template a.set.now.letters.now a.set.now.lengths.now a.saved.now a.search c.requires a.budget a.motifs.now a.supports.now a.weights.now (told_leg c.leg-leg.result) c.leg-leg.ensures.result_value

pub returns : goal.returns
returns c =
    let a = c.args in
    ran a.set.now.letters.now a.set.now.lengths.now a.saved.now a.search c.requires a.budget a.motifs.now a.supports.now a.weights.now c.leg-leg.result
    (c.leg-leg.ensures.result_value, (c.leg-leg.ensures.motifs_after, (c.leg-leg.ensures.supports_after, c.leg-leg.ensures.weights_after))) c.save_left.ensures c.from.ensures
