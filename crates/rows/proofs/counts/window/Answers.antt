use mathlib.Core.Path.{ap, ◌∙◌}
use Prim.Native.Nat.{◌+◌}
use native.Mathlib.Omega.{arith}
use borrow.Author.Rules.{rules}
use Rattle.rows.specs.Bits.{held}
use Rattle.rows.specs.Flags.{count_most, recent, masked}
use Rattle.rows.proofs.Gaps.{ago_bound, recent_sum_bound}
use Rattle.rows.proofs.Masks.{recent_zero, recent_more}
use Rattle.rows.proofs.counts.window.Goals as goal

pub loop-k-init : goal.loop-k-init
loop-k-init c = (search rules, recent_zero _ _ _)

pub overflow_add-total : goal.overflow_add-total
overflow_add-total c =
    let a = c.args in
    let l = c.loop-k in
    omega (arith, recent_sum_bound (masked (held a.ways.row.now) a.ways.counts.now) count_most a.ways.few a.o a.reach.apart.near l.k, ago_bound (masked (held a.ways.row.now) a.ways.counts.now) count_most a.ways.few a.o (a.reach.apart.near + l.k))

pub loop-k-preserved : goal.loop-k-preserved
loop-k-preserved c = (search rules, recent_more _ _ _ _ c.loop-k.invariant.1 c.held_before-total.ensures)

pub returns : goal.returns
returns c = c.loop-k.invariant.1 ∙ ap (recent _ _ _) (search rules)
