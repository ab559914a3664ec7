-- A number of one digit is that digit, and any other the digits of its tenth part and the last one.
use borrow.Author.Rules.{rules}
use mathlib.Core.Path.{ap}
use native.Mathlib.Omega.{arith}
use lib.ListN.{length}
use Rattle.text.proofs.Printed.{prints_as, moved, ◌and◌}
use Rattle.text.proofs.Decimal.{decimal_one, decimal_more, decimal_longer}
use Rattle.text.proofs.print.Printer.+number.Goals as goal

pub byte-requires : goal.byte-requires
byte-requires t c = omega (arith, c.requires, ap length (decimal_one c.args.n (search rules)))

pub returns-then-n-lt10 : goal.returns-then-n-lt10
returns-then-n-lt10 t c = prints_as c.byte.ensures (decimal_one c.args.n (search rules))

pub number-requires : goal.number-requires
number-requires t c = (omega arith, omega (arith, c.requires, decimal_longer c.args.n (search rules) (search rules)))

pub byte-requires-2 : goal.byte-requires-2
byte-requires-2 t c = omega (arith, decimal_longer c.args.n c.if-n-lt10.false (search rules), moved c.number.ensures, c.requires)

pub returns : goal.returns
returns t c = prints_as (c.number.ensures and c.byte-2.ensures) (decimal_more c.args.n c.if-n-lt10.false (search rules))
