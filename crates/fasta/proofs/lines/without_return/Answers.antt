-- A byte 13 at the end is all that goes.
use mathlib.Core.Path.{refl}
use Rattle.fasta.proofs.FileLines.{return_cut}
use Rattle.fasta.proofs.lines.without_return.Goals as goal

pub returns : goal.returns
returns c = return_cut c.args.text.now _ c.args.text refl c.strip_suffix.ensures.cases c.unwrap_or.ensures
