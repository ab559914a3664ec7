-- A byte is stored, and the next place is one on.
use mathlib.Core.Path.{refl}
use Rattle.text.proofs.Printed.{wrote_one}
use Rattle.text.proofs.print.Printer.byte.Goals as goal

pub returns : goal.returns
returns c = record { wrote = wrote_one c.args.self.now.at c.args.b c.args.self.now.out.now refl; same = refl }
