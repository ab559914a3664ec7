-- The text stands in the part of the table that it was copied over.
use Rattle.text.proofs.Printed.{wrote_part}
use Rattle.text.proofs.read.copy_part.Goals as goal

pub returns : goal.returns
returns c = wrote_part c.args.at c.args.text.now c.args.to.now c.requires c.copy_from_slice.ensures.after
