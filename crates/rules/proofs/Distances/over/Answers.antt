-- Where the range is empty there is no distance.
use Rattle.rules.specs.Template.{distance}
use Rattle.rules.proofs.Distances.over.Goals as goal

pub returns : goal.returns
unfolding distance
returns c = rw c.saturating_sub.ensures
