-- The table is the list of the sets, which is computed.
use Rattle.std.proofs.Common.{refl}
use Rattle.rules.specs.Lists.{sum}
use Rattle.rules.specs.Profile.{base_sets, bases}
use Rattle.rules.proofs.Letter.base_sets.Goals as goal

pub returns : goal.returns
unfolding base_sets bases sum
returns c = refl
