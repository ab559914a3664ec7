-- The code computes what the rule says: the shifts lose what leaves the 64 bits.
use mathlib.Core.Path.{refl}
use Rattle.rows.specs.Words.{shifted_up}
use Rattle.rows.proofs.words.up.Goals as goal

pub returns : goal.returns
unfolding shifted_up
returns c = refl
