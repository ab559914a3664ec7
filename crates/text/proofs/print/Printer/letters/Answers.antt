use mathlib.Core.Path.{ap}
use Prim.Native.Nat.{ℕ}
use Rattle.text.specs.Printed.{motif_letters}
use borrow.Author.Rules.{rules}
use native.Mathlib.Omega.{arith}
use Rattle.text.proofs.Printed.{prints_none, prints_as, moved, ◌and◌}
use Rattle.text.proofs.MotifLetters.{letters_none, letters_more, length_letters}
use Rattle.text.proofs.print.Printer.letters.Goals as goal

pub loop-i-init : goal.loop-i-init
loop-i-init c = (search rules, prints_as (prints_none _) (letters_none c.args.left c.args.motif))

pub byte-requires-in-loop-i : goal.byte-requires-in-loop-i
byte-requires-in-loop-i c =
    let a = c.args in
    let l = c.loop-i in
    let h = c.loop-i-test.true in
    omega (
      arith,
      h,
      c.requires.2,
      moved l.invariant.1,
      length_letters l.i a.left a.motif (omega (arith, h, c.requires.0)),
      length_letters a.n a.left a.motif c.requires.0,
    )

pub loop-i-preserved : goal.loop-i-preserved
loop-i-preserved c =
    let l = c.loop-i in (
      omega (arith, c.loop-i-test.true),
      prints_as (l.invariant.1 and c.byte-in-loop-i.ensures) (letters_more l.i c.args.left c.args.motif (omega (arith, c.loop-i-test.true, c.requires.0)) c.byte.ensures),
    )

pub returns : goal.returns
returns c = prints_as c.loop-i.invariant.1 (ap (λ (k : ℕ). motif_letters k c.args.left c.args.motif) (omega (arith, c.loop-i.invariant.0, c.loop-i-test.false)))
