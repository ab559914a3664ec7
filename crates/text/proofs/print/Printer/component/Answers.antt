-- The gap range and the letters one after the other.
use native.Mathlib.Omega.{arith}
use Rattle.text.specs.Printed.{Prints, number_pair, ranged_word}
use Rattle.text.proofs.Printed.{prints_as, moved, ◌and◌}
use Rattle.text.proofs.MotifLetters.{length_letters}
use Rattle.text.proofs.ShapedMotif.{length_ranged}
use Rattle.text.proofs.print.Printer.component.Goals as goal

pub pair-requires : goal.pair-requires
pair-requires c = rw (c.from.ensures, c.from-2.ensures) (omega (arith, length_ranged c.args.c c.args.left c.args.motif c.requires.0, c.requires.2))

pub letters-requires : goal.letters-requires
letters-requires c =
    let a = c.args in
    let w : Prints (number_pair 91 a.c.low 44 a.c.high 93) a.self.now c.pair.new.self = prints_as c.pair.ensures (rw (c.from.ensures, c.from-2.ensures)) in
    rw c.from-3.ensures (
      c.requires.0,
      c.requires.1,
      omega (arith, c.requires.2, moved w, length_ranged a.c a.left a.motif c.requires.0, length_letters a.c.length a.left a.motif c.requires.0),
    )

pub returns : goal.returns
unfolding ranged_word
returns c = prints_as (c.pair.ensures and c.letters.ensures) (rw (c.from.ensures, c.from-2.ensures, c.from-3.ensures))
