use native.Mathlib.Omega.{arith}
use Rattle.matching.proofs.BaseRows.{begun_more, begun_all}
use Rattle.matching.proofs.letters.sequence_slots.Goals as goal

pub loop-q-preserved : goal.loop-q-preserved
loop-q-preserved c =
    let a = c.args in
    let p = c.requires in
    let l = c.loop-q in
    let h = c.loop-q-test.true in
    begun_more a.from a.to a.sequence.now a.standing.now l.q _ l.standing _ _
    c.min-e.ensures (omega (arith, h, p.from_le_to)) p.from_le_to.1
    c.letter_words-bases.ensures c.put_words.ensures.by_index l.invariant

pub returns-clause-by_index_3 : goal.returns-clause-by_index_3
returns-clause-by_index_3 c =
    let a = c.args in
    let p = c.requires in
    let l = c.loop-q in
    begun_all a.from a.to a.sequence.now a.standing.now l.q l.standing p.from_le_to.0
    (omega (arith, c.loop-q-test.false, l.auto.q-end)) p.from_le_to.1 l.invariant
