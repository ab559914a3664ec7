use borrow.Author.Rules.{rules}
use mathlib.Core.Path.{◌≡◌}
use native.Mathlib.Omega.{arith}
use Rattle.text.proofs.Printed.{prints_as, moved, ◌and◌}
use Rattle.text.proofs.PrintedPage.{page_none, page_more, page_done}
use Rattle.text.proofs.print.print_page.Goals as goal

pub loop-i-init : goal.loop-i-init
loop-i-init c = (omega arith, page_none c.args.template c.args.motifs.now c.args.supports.now c.args.weights.now _)

pub row-requires : goal.row-requires
row-requires c =
    let v = c.loop-i.invariant in
    let i = c.loop-i-test.true in
    omega (arith, i, v.0, moved v.1, c.requires.rows_in_bounds_2)

pub loop-i-preserved : goal.loop-i-preserved
loop-i-preserved c =
    let a = c.args in
    let v = c.loop-i.invariant in
    let w = c.row.ensures in
    let i = c.loop-i-test.true in
    let p = c.requires.rows_in_bounds in (
      omega (arith, v.0, w.short),
      prints_as (v.1 and w.row) (page_more a.template c.loop-i.i a.motifs.now a.supports.now a.weights.now (omega (arith, i, p.0)) (omega (arith, i, p.1)) (omega (arith, i, p.2))),
    )

pub returns : goal.returns
returns c =
    let v = c.loop-i.invariant in
    let e : c.loop-i.i ≡ c.args.rows = omega (arith, c.loop-i-test.false, c.loop-i.auto.i-end) in
    page_done (search rules) (omega (arith, c.requires.rows_in_bounds_2)) (omega (arith, v.0, e)) (rw e at v.1).wrote
