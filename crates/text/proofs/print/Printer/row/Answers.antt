-- A row is a line whose head is the motif.
use Prim.Native.Nat.{ℕ, ◌≤◌}
use native.Mathlib.Omega.{arith}
use lib.ListN.{length}
use Rattle.rules.specs.Sound.{SoundTemplate}
use Rattle.rules.specs.declared.Template.{Template}
use Rattle.rules.specs.Text.{print_motif}
use Rattle.text.specs.Printed.{row}
use Rattle.text.proofs.Printed.{prints_as, ◌and◌}
use Rattle.text.proofs.Line.{line_is, line_has_room, line_short}
use Rattle.text.proofs.ShapedMotif.{shape_room, length_shape}
use Rattle.text.proofs.print.Printer.row.Goals as goal

head_short : (template : Template) (motif : ℕ) → SoundTemplate template → length (print_motif template motif) ≤ 77
head_short template motif s = omega (arith, length_shape template s motif, shape_room template s motif)

pub pair-requires : goal.pair-requires
pair-requires c =
    let a = c.args in
    let f = c.ranges in
    line_has_room _ c.from.result a.weight (head_short a.motif.template a.motif.number a.motif.sound) (omega (arith, c.from.ensures, f.support)) (omega (arith, f.weight)) c.requires c.motif.ensures

pub returns-clause-row : goal.returns-clause-row
unfolding row
returns-clause-row c = prints_as (c.motif.ensures and c.pair.ensures) (rw c.from.ensures (line_is _ _ _))

pub returns-clause-short : goal.returns-clause-short
returns-clause-short c =
    let a = c.args in
    let f = c.ranges in
    line_short _ c.from.result a.weight (head_short a.motif.template a.motif.number a.motif.sound) (omega (arith, c.from.ensures, f.support)) (omega (arith, f.weight)) c.motif.ensures c.pair.ensures
