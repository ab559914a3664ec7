use borrow.Author.Rules.{rules}
use native.Mathlib.Omega.{arith}
use Rattle.rules.proofs.Over.{over_none, over_put, over_all}
use Rattle.matching.proofs.Standing.{letter_word, letter_word_is, joined_row}
use Rattle.matching.proofs.letters.letter_row.Goals as goal

pub loop-q-init : goal.loop-q-init
loop-q-init c =
    let a = c.args in
    over_none (letter_word a.x a.bases.now) 0 a.row.now

pub loop-q-preserved : goal.loop-q-preserved
loop-q-preserved c =
    let a = c.args in
    let l = c.loop-q in
    let word = letter_word_is a.x a.bases.now l.q c.base_set-set.ensures c.has_base-a.ensures c.has_base-c.ensures c.has_base-g.ensures c.has_base-t.ensures
    c.pick.ensures c.pick-in-loop-q.ensures c.pick-in-loop-q-2.ensures c.pick-in-loop-q-3.ensures in
    over_put (letter_word a.x a.bases.now) l.q a.row.now l.invariant word (omega (arith, c.loop-q-test.true))

pub returns : goal.returns
returns c =
    let a = c.args in
    let l = c.loop-q in
    record { from_bases = joined_row a.x a.bases.now l.row (over_all (letter_word a.x a.bases.now) l.q a.row.now l.invariant (omega (arith, l.auto.q-end, c.loop-q-test.false)) (search rules)) }
