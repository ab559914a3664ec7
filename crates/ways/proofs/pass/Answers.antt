use borrow.Author.Rules.{rules}
use mathlib.Core.Path.{◌≡◌, ◌∙◌}
use mathlib.Core.List.{List, map}
use Prim.Native.Nat.{ℕ, suc, ◌+◌}
use native.Mathlib.Omega.{arith}
use native.Mathlib.Nat.{zero-add}
use Rattle.rules.specs.Lists.{run, sum}
use Rattle.ways.specs.Counts.{at_position, most_ways, leading}
use Rattle.ways.proofs.Counting.{leading_at}
use Rattle.rules.proofs.Over.{over_none, over_put}
use Rattle.ways.proofs.FilledTables.{by_offset, entry_all, entry_keeps, window_slide, window_most}
use Rattle.ways.proofs.pass.Goals as goal

-- with the number that comes into the sum and the one that goes out, the sum is that of one offset on
slides : (later : List ℕ) (from span total in_ out : ℕ) → in_ ≡ at_position later (suc (from + span)) → out ≡ at_position later (suc from)
    → total ≡ sum (map (at_position later) (run (suc from) span)) → total + in_ ≡ out + sum (map (at_position later) (run (suc (from + 1)) span))
slides later from span total in_ out comes goes e = omega (arith, window_slide (at_position later) from span)

pub loop-o-init : goal.loop-o-init
loop-o-init c = (over_none _ 0 _, c.window-total.ensures ∙ simp zero-add)

-- the number that comes in is still as it was
pub overflow_add-total : goal.overflow_add-total
overflow_add-total c =
    let b = c.requires.3 in
    let from = c.loop-o.o + c.args.apart.near in
    let span = c.args.apart.count in
    let comes = c.at.ensures ∙ entry_keeps _ _ _ c.loop-o.invariant.0 _ (omega arith) in
    omega (arith, comes, c.loop-o.invariant.1, window_most (at_position c.args.ways.now) most_ways b (suc from) span, b (suc (from + span)))

-- and so is the one that goes out
pub overflow_sub-total : goal.overflow_sub-total
overflow_sub-total c =
    let l = c.loop-o in
    let comes : c.at.result ≡ at_position c.args.ways.now (suc (l.o + c.args.apart.near + c.args.apart.count)) = c.at.ensures ∙ entry_keeps _ _ _ l.invariant.0 (l.o + c.args.apart.near + c.args.apart.count) (omega arith) in
    let goes : c.at-in-loop-o.result ≡ at_position c.args.ways.now (suc (l.o + c.args.apart.near)) = c.at-in-loop-o.ensures ∙ entry_keeps _ _ _ l.invariant.0 (l.o + c.args.apart.near) (omega arith) in
    omega (arith, slides c.args.ways.now (l.o + c.args.apart.near) c.args.apart.count l.total _ _ comes goes l.invariant.1)

pub loop-o-preserved : goal.loop-o-preserved
unfolding by_offset
loop-o-preserved c =
    let l = c.loop-o in
    let on : l.o + 1 + c.args.apart.near ≡ l.o + c.args.apart.near + 1 = omega arith in
    let comes : c.at.result ≡ at_position c.args.ways.now (suc (l.o + c.args.apart.near + c.args.apart.count)) = c.at.ensures ∙ entry_keeps (leading c.args.word.now c.args.apart c.args.s.now c.args.ways.now) l.o c.args.ways.now l.invariant.0 (l.o + c.args.apart.near + c.args.apart.count) (omega arith) in
    let goes : c.at-in-loop-o.result ≡ at_position c.args.ways.now (suc (l.o + c.args.apart.near)) = c.at-in-loop-o.ensures ∙ entry_keeps (leading c.args.word.now c.args.apart c.args.s.now c.args.ways.now) l.o c.args.ways.now l.invariant.0 (l.o + c.args.apart.near) (omega arith) in (
      over_put _ _ _ l.invariant.0 (leading_at _ _ _ _ _ l.invariant.1 c.cell-here.ensures) (search rules),
      rw on (omega (arith, slides c.args.ways.now (l.o + c.args.apart.near) c.args.apart.count l.total _ _ comes goes l.invariant.1)),
    )

pub returns : goal.returns
returns c = entry_all _ _ _ c.loop-o.invariant.0 (search rules) (search rules)
