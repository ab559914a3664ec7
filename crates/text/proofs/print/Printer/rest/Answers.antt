use mathlib.Core.Path.{refl, sym, ap, ◌∙◌}
use mathlib.Core.List.{List, [], ◌++◌, append-nil}
use Prim.Native.Nat.{ℕ, ◌<◌}
use native.Mathlib.Omega.{arith}
use lib.ListN.{get_or}
use Rattle.rules.specs.Template.{none}
use Rattle.rules.specs.declared.Component.{Component}
use Rattle.text.proofs.Printed.{prints_none, prints_as, ◌and◌}
use Rattle.text.proofs.ShapedMotif.{size_is, shape_from_end, next_fits, next_left, next_done, next_room}
use Rattle.text.proofs.print.Printer.rest.Goals as goal

pub loop-i-init : goal.loop-i-init
loop-i-init c =
    let p = c.requires in
    (omega (arith, p.0, size_is _ c.args.motif.sound, c.args.motif.sound.deep), p.0, ([], prints_none _, refl))

pub component-requires : goal.component-requires
component-requires c =
    let p = c.requires in
    let v = c.loop-i.invariant in
    let h : c.loop-i.i < c.args.motif.template.count = omega (arith, c.loop-i-test.true, c.from-i-end.ensures) in
    let e = ap (λ (l : List Component). get_or l c.loop-i.i none) c.components-slots.ensures in (
      next_fits _ c.args.motif.sound c.loop-i.i _ c.args.motif.number h e v.1,
      v.0,
      next_room _ c.args.motif.sound c.loop-i.i _ c.args.motif.number h e v.1 v.2.0 v.2.2 v.2.1 p.1,
    )

pub overflow_sub-left : goal.overflow_sub-left
overflow_sub-left c =
    let v = c.loop-i.invariant in
    let h : c.loop-i.i < c.args.motif.template.count = omega (arith, c.loop-i-test.true, c.from-i-end.ensures) in
    let e = ap (λ (l : List Component). get_or l c.loop-i.i none) c.components-slots.ensures in
    rw c.from-left.ensures (next_fits _ c.args.motif.sound c.loop-i.i _ c.args.motif.number h e v.1)

pub loop-i-preserved : goal.loop-i-preserved
loop-i-preserved c =
    let v = c.loop-i.invariant in
    let S = c.args.motif.sound in
    let h : c.loop-i.i < c.args.motif.template.count = omega (arith, c.loop-i-test.true, c.from-i-end.ensures) in
    let e = ap (λ (l : List Component). get_or l c.loop-i.i none) c.components-slots.ensures in (
      omega (arith, v.0),
      rw c.from-left.ensures (next_left _ S c.loop-i.i _ c.args.motif.number h e v.1),
      (_, v.2.1 and c.component.ensures, next_done _ S c.loop-i.i _ c.args.motif.number h e v.1 v.2.0 v.2.2),
    )

pub returns : goal.returns
returns c =
    let v = c.loop-i.invariant.2 in
    let e = shape_from_end _ c.args.motif.sound c.loop-i.i c.args.motif.number (omega (arith, c.loop-i-test.false, c.from-i-end.ensures)) in
    prints_as v.1 (sym (append-nil v.0) ∙ ap (λ (l : List ℕ). v.0 ++ l) (sym e) ∙ v.2)
