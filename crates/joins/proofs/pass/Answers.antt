use mathlib.Core.Path.{refl, sym, ◌∙◌}
use native.Mathlib.Omega.{arith}
use borrow.Author.Rules.{rules}
use Rattle.joins.proofs.Partner.{passed_none, passed_on, first_decides}
use Rattle.joins.proofs.Table.{kept_none, kept_few, kept_more}
use Rattle.joins.proofs.pass.Goals.{then-within, else-within}
use Rattle.joins.proofs.pass.Goals as goal

pub loop-p-init : goal.loop-p-init
loop-p-init c = (search rules, search rules, kept_none _ _ 0 _, passed_none _ _ _ _)

-- as many as were looked at are kept, and there is room for all
pub bounds-out-n : goal.bounds-out-n
bounds-out-n c = let l = c.loop-p in omega (arith, kept_few _ _ _ _ l.invariant.2 (search rules), l.invariant.1, c.requires.room, c.loop-p-test.true)

pub offset_bounds-out-n : goal.offset_bounds-out-n
offset_bounds-out-n c = let l = c.loop-p in omega (arith, kept_few _ _ _ _ l.invariant.2 (search rules), c.loop-p-test.true)

pub overflow_add-n : goal.overflow_add-n
overflow_add-n c = let l = c.loop-p in omega (arith, kept_few _ _ _ _ l.invariant.2 (search rules), c.loop-p-test.true)

pub loop-p-preserved : goal.loop-p-preserved
loop-p-preserved c =
    let l = c.loop-p in
    let t = c.skip-j.ensures in
    let found = c.within.ensures ∙ sym (first_decides _ c.args.apart _ _ c.requires.second_rising t) in
    let more = kept_more _ _ _ _ l.invariant.2 (search rules) c.requires.room refl found in
    let over = passed_on _ _ _ _ _ c.requires.first_rising t in
    elim c.if-within.branch [
      | then-within w ↦ (t.inside, search rules, more (rw w.if-within.true w.n-is) (rw w.if-within.true w.out-is), over)
      | else-within w ↦ (t.inside, search rules, more (rw w.if-within.false w.n-is) (rw w.if-within.false w.out-is), over)
    ]
