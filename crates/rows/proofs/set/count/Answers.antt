use borrow.Author.Rules.{rules}
use native.Mathlib.Omega.{arith}
use lib.Count.{ones-le}
use Rattle.rows.proofs.Marks.{counted_step, counted_end}
use Rattle.rows.proofs.set.count.Goals as goal

pub overflow_add-sum : goal.overflow_add-sum
overflow_add-sum c = omega (arith, ones-le 64 _ (c.type_inv.row c.loop-w.w).fits)

pub loop-w-preserved : goal.loop-w-preserved
loop-w-preserved c =
    let w = c.loop-w.w in
    let fits = (c.type_inv.row w).fits in (
      search rules,
      search rules,
      omega (arith, ones-le 64 _ fits),
      omega (arith, counted_step c.args.n c.args.row.now w (search rules) (search rules) fits),
    )

pub returns : goal.returns
returns c = omega (arith, counted_end c.args.n c.args.row.now c.loop-w.w (search rules))
