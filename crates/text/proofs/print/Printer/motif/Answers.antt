-- The first component's letters, and the shape of the others after them.
use mathlib.Core.Path.{◌≡◌, sym, ◌∙◌}
use Prim.Native.Nat.{◌≤◌}
use native.Mathlib.Omega.{arith}
use Rattle.rules.specs.Template.{size}
use Rattle.text.proofs.Printed.{prints_as, moved, ◌and◌}
use Rattle.text.proofs.MotifLetters.{length_letters}
use Rattle.text.proofs.ShapedMotif.{size_is, shape_is, shape_room}
use Rattle.text.proofs.print.Printer.motif.Goals as goal

pub letters-requires-2 : goal.letters-requires-2
letters-requires-2 c =
    let S = c.args.motif.sound in
    let k = size_is _ S in
    let e : c.from-all.result ≡ size c.args.motif.template = c.from-all.ensures ∙ c.letters.ensures in
    let f = c.from-first.ensures in
    let h : c.from-first.result ≤ c.from-all.result = omega (arith, k, e, f) in
    (h, omega (arith, e, S.deep), omega (arith, f, length_letters c.from-first.result c.from-all.result c.args.motif.number h, shape_room _ S c.args.motif.number, c.requires))

pub overflow_sub-all : goal.overflow_sub-all
overflow_sub-all c = omega (arith, size_is _ c.args.motif.sound, c.from-all.ensures, c.letters.ensures, c.from-first.ensures)

pub rest-requires : goal.rest-requires
rest-requires c =
    let S = c.args.motif.sound in
    let k = size_is _ S in
    let e : c.from-all.result ≡ size c.args.motif.template = c.from-all.ensures ∙ c.letters.ensures in
    let f = c.from-first.ensures in
    let l = length_letters c.from-first.result c.from-all.result c.args.motif.number (omega (arith, k, e, f)) in
    (omega (arith, k, e, f), omega (arith, f, moved c.letters-2.ensures, l, shape_room _ S c.args.motif.number, c.requires))

pub returns : goal.returns
returns c =
    prints_as (c.letters-2.ensures and c.rest.ensures) (sym (shape_is _ c.args.motif.sound c.args.motif.number ∙ rw (c.from-first.ensures, c.from-all.ensures ∙ c.letters.ensures)))
