-- The five texts one after the other are the pair, and it has room, so each has.
use native.Mathlib.Omega.{arith}
use Rattle.text.proofs.Printed.{prints_as, moved, length_pair, pair_is, ◌and◌}
use Rattle.text.proofs.print.Printer.pair.Goals as goal

pub byte-requires : goal.byte-requires
byte-requires c = let a = c.args in omega (arith, c.requires, length_pair a.before a.a a.between a.b a.after)

pub number-requires : goal.number-requires
number-requires c = let a = c.args in omega (arith, c.requires, length_pair a.before a.a a.between a.b a.after, moved c.byte.ensures)

pub byte-requires-2 : goal.byte-requires-2
byte-requires-2 c =
    let a = c.args in
    omega (arith, c.requires, length_pair a.before a.a a.between a.b a.after, moved c.byte.ensures, moved c.number.ensures)

pub number-requires-2 : goal.number-requires-2
number-requires-2 c =
    let a = c.args in
    omega (arith, c.requires, length_pair a.before a.a a.between a.b a.after, moved c.byte.ensures, moved c.number.ensures, moved c.byte-2.ensures)

pub byte-requires-3 : goal.byte-requires-3
byte-requires-3 c =
    let a = c.args in
    omega (arith, c.requires, length_pair a.before a.a a.between a.b a.after, moved c.byte.ensures, moved c.number.ensures, moved c.byte-2.ensures, moved c.number-2.ensures)

pub returns : goal.returns
returns c = prints_as (c.byte.ensures and c.number.ensures and c.byte-2.ensures and c.number-2.ensures and c.byte-3.ensures) (pair_is _ _ _ _ _)
