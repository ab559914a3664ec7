-- The measure is the number.
use Rattle.text.proofs.print.Printer.+number.Given as goal

abbrev pub decreases-number : goal.decreases-number
decreases-number l = l.n
