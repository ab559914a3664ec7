use native.Mathlib.Omega.{arith}
use borrow.Author.Rules.{rules}
use Rattle.rows.proofs.Adding.{left_all, left_end, next_inside, left_next}
use Rattle.rows.proofs.Lowest.{walk_begin, walk_take}
use Rattle.rows.proofs.counts.add_word.Goals as goal

pub loop-place-init : goal.loop-place-init
loop-place-init c = rw c.into_iter-place-iterator.ensures.into_iter_gives (walk_begin _ _ (search rules) (left_all _ _))

-- at a turn the count at the place of the bit is one of those that are left
pub bounds-counts-place : goal.bounds-counts-place
bounds-counts-place c =
    let p = c.requires in
    next_inside c.args.word c.args.counts.now p.0 p.1 c.loop-place.invariant.rests c.in-Some.ensures.steps

pub overflow_add-total : goal.overflow_add-total
overflow_add-total c =
    let p = c.requires in
    let i = c.loop-place.invariant in
    omega (arith, left_next c.args.word c.args.counts.now p.0 p.1 i.rests c.in-Some.ensures.steps, i.so_far, p)

pub loop-place-preserved : goal.loop-place-preserved
loop-place-preserved c =
    let p = c.requires in
    let t = c.in-Some.ensures.steps in
    let i = c.loop-place.invariant in
    walk_take _ _ i t (omega (arith, left_next c.args.word c.args.counts.now p.0 p.1 i.rests t, i.so_far))

pub returns : goal.returns
returns c =
    let p = c.requires in
    let l = c.loop-place in
    omega (arith, left_end c.args.word c.args.counts.now p.0 p.1 l.invariant.rests c.in-None.ensures.steps, l.invariant.so_far)
