use mathlib.Core.List.{List, map}
use mathlib.Core.Path.{◌≡◌}
use Prim.Native.Nat.{ℕ, ◌+◌, ◌*◌, ◌≤◌, ◌<◌}
use native.Mathlib.Omega.{arith}
use Rattle.rules.specs.Limits.{sequence_set_sequences}
use Rattle.rules.specs.Lists.{run, sum}
use Rattle.rows.specs.Set.{row_marks}
use Rattle.matching.specs.Weights.{weight_at}
use Rattle.matching.proofs.Totals.{weights_up, weights_more, weights_all, weights_none}
use Rattle.matching.proofs.weights.add_all.Goals as goal

-- at a turn, what one word of marks adds
more : (ns row counts : List ℕ) (w : ℕ) → w < row_marks
    → weights_up ns row counts sequence_set_sequences (w * 64) ≡ sum (map (weight_at ns row counts) (run (w * 64) 64)) + weights_up ns row counts sequence_set_sequences ((w + 1) * 64)
more ns row counts w top = weights_more ns row counts sequence_set_sequences w (omega (arith, top))

pub loop-w-init : goal.loop-w-init
loop-w-init c =
    let a = c.args in
    omega (arith, weights_all a.weighing.now.made.plan.layout.lengths.now a.row.now a.counts.now)

pub add_sequences-total-requires-clause-w_bound_2 : goal.add_sequences-total-requires-clause-w_bound_2
add_sequences-total-requires-clause-w_bound_2 c =
    let a = c.args in
    let p = c.requires in
    let w = c.loop-w.w in
    let top : w < row_marks = c.loop-w-test.true in
    let m = more a.weighing.now.made.plan.layout.lengths.now a.row.now a.counts.now w top in
    omega (arith, m, c.loop-w.invariant, p.counts_bound)

pub overflow_add-total : goal.overflow_add-total
overflow_add-total c =
    let a = c.args in
    omega (arith, more a.weighing.now.made.plan.layout.lengths.now a.row.now a.counts.now c.loop-w.w c.loop-w-test.true, c.loop-w.invariant, c.requires.counts_bound, c.add_sequences-total.ensures)

pub loop-w-preserved : goal.loop-w-preserved
loop-w-preserved c =
    let a = c.args in
    omega (arith, more a.weighing.now.made.plan.layout.lengths.now a.row.now a.counts.now c.loop-w.w c.loop-w-test.true, c.loop-w.invariant, c.add_sequences-total.ensures)

pub returns : goal.returns
returns c =
    let a = c.args in
    let l = c.loop-w in
    let q : row_marks ≤ l.w = omega (arith, c.loop-w-test.false) in
    omega (arith, weights_none a.weighing.now.made.plan.layout.lengths.now a.row.now a.counts.now sequence_set_sequences (l.w * 64) (λ m h u. absurd (omega (arith, q))))
