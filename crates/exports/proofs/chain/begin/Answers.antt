-- `begin`: a search that begins has a sound template.
use mathlib.Core.Path.{refl}
use Rattle.rules.specs.Told.{fine}
use Rattle.exports.proofs.CheckedOnce.{begun_template}
use Rattle.exports.proofs.chain.begin.Goals as goal

pub write_search-requires : goal.write_search-requires
write_search-requires c =
    let a = c.args in begun_template a.set.now.letters.now a.set.now.lengths.now a.t a.quorum fine c.in_ok-begun.ensures _ refl
