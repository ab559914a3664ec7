-- Of the two places that a step joins, a mask has left at most one.
use Rattle.rows.proofs.Gathered.{gathered}
use Rattle.rows.proofs.words.gather.Goals as goal

pub returns : goal.returns
returns c = gathered c.args.word
