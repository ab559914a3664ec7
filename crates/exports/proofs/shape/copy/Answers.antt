-- `copy`: the front of the list, of as many numbers as both have, and past it what was there.
use Rattle.exports.proofs.Filling.{filled}
use Rattle.exports.proofs.shape.copy.Goals as goal

pub returns : goal.returns
returns c = filled c.args.from.now c.args.to.now c.min-n.ensures c.copy_from_slice.ensures.after
