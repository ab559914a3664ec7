use Prim.Native.Nat.{◌+◌, ◌<◌}
use native.Mathlib.Omega.{arith}
use lib.ListN.{length, get_or}
use borrow.Rule.Slice.PartMut.{mid_len}
use Rattle.rows.proofs.Offsets.{turn_letters}
use Rattle.rows.proofs.Sets.{turn_lies}
use Rattle.matching.proofs.BaseRows.{spelt_part, whole_more}
use Rattle.matching.proofs.Slots.{enough}
use Rattle.matching.proofs.letters.letter_slots.Goals as goal

pub part-sequence-requires : goal.part-sequence-requires
part-sequence-requires c =
    let l = c.loop-k in
    let h : l.k < length c.args.plan.now.layout.lengths.now = c.loop-k-test.true in
    let a = c.requires.offsets.same l.k (omega arith) in
    let e = c.requires.offsets.same (l.k + 1) (omega arith) in
    let f = c.args.plan.now.layout.laid.same l.k (omega arith) in
    let t = c.args.plan.now.layout.laid.same (l.k + 1) (omega arith) in
    let m = turn_letters _ _ h a e f t in
    (omega (arith, m.0), omega (arith, m.1, c.args.plan.now.sound_set.adds))

pub sequence_slots-requires-clause-by_index : goal.sequence_slots-requires-clause-by_index
sequence_slots-requires-clause-by_index c =
    let l = c.loop-k in
    let g = c.args.plan.now.letters.now in
    let begin = get_or c.args.offsets.now l.k 0 in
    let end = get_or c.args.offsets.now (l.k + 1) 0 in
    rw c.part-sequence.ensures (spelt_part g c.args.plan.now.sound_set.spelt begin end)

pub sequence_slots-requires-clause-from_le_to : goal.sequence_slots-requires-clause-from_le_to
sequence_slots-requires-clause-from_le_to c =
    let l = c.loop-k in
    let h : l.k < length c.args.plan.now.layout.lengths.now = c.loop-k-test.true in
    let a = c.requires.offsets.same l.k (omega arith) in
    let e = c.requires.offsets.same (l.k + 1) (omega arith) in
    let f = c.words-from.ensures.place.0 in
    let t = c.words-from.ensures.place.1 in
    let m = turn_letters _ _ h a e f t in
    let w = turn_lies _ _ h f t in
    let g = c.args.plan.now.letters.now in
    let begin = get_or c.args.offsets.now l.k 0 in
    let end = get_or c.args.offsets.now (l.k + 1) 0 in
    let n = mid_len begin end g (omega (arith, m.1, c.args.plan.now.sound_set.adds)) in
    rw c.part-sequence.ensures (w.0, omega (arith, w.1, enough g c.args.plan.now.layout.lengths.now c.args.plan.now.sound_set), omega (arith, n, m.2), omega (arith, n, m.3))

pub loop-k-preserved : goal.loop-k-preserved
loop-k-preserved c =
    let l = c.loop-k in
    let h : l.k < length c.args.plan.now.layout.lengths.now = c.loop-k-test.true in
    let a = c.requires.offsets.same l.k (omega arith) in
    let e = c.requires.offsets.same (l.k + 1) (omega arith) in
    let f = c.words-from.ensures.place.0 in
    let t = c.words-from.ensures.place.1 in
    let o = c.sequence_slots.ensures in
    whole_more _ c.args.plan.now.letters.now _ h a e f t c.part-sequence.ensures l.standing _ o.by_index_2 o.by_index_3 l.invariant
