use mathlib.Core.Path.{◌≡◌}
use Prim.Native.Nat.{◌-◌, ◌*◌}
use native.Mathlib.Nat.{zero-add}
use native.Mathlib.Omega.{arith}
use lib.ListN.{length, take, drop, get_or, length-drop}
use Rattle.rows.proofs.Adding.{counted_part, counted_rest, sum_parts, none_to_add, parts_at, word_fits}
use Rattle.rows.proofs.counts.add_words.Goals as goal

pub loop-q-init : goal.loop-q-init
loop-q-init c =
    let p = c.args.part in
    (record { most = p.most; least = p.least; dark = p.dark }, zero-add _)

pub add_word-total-requires : goal.add_word-total-requires
add_word-total-requires c =
    let row = c.args.part.row.now in
    let counts = c.args.part.counts.now in
    let l = c.loop-q in
    let q = parts_at l.q row counts c.loop-q-test.true c.min-to.ensures (omega arith) in
    let w = counted_part q l.invariant.0 in
    (omega (arith, w.least), word_fits (get_or row l.q 0) (take (c.min-to.result - 64 * l.q) (drop (64 * l.q) counts)) (c.type_inv.row l.q).fits w, omega (arith, sum_parts q l.invariant.0, l.invariant.1, c.args.part.small))

pub overflow_add-total : goal.overflow_add-total
overflow_add-total c =
    let l = c.loop-q in
    let q = parts_at l.q c.args.part.row.now c.args.part.counts.now c.loop-q-test.true c.min-to.ensures (omega arith) in
    omega (arith, sum_parts q l.invariant.0, l.invariant.1, c.args.part.small)

pub loop-q-preserved : goal.loop-q-preserved
loop-q-preserved c =
    let l = c.loop-q in
    let q = parts_at l.q c.args.part.row.now c.args.part.counts.now c.loop-q-test.true c.min-to.ensures (omega arith) in
    (counted_rest q l.invariant.0, omega (arith, sum_parts q l.invariant.0, l.invariant.1))

pub returns : goal.returns
returns c =
    let l = c.loop-q in
    let counts = c.args.part.counts.now in
    let none : length (drop (64 * l.q) counts) ≡ 0 = omega (arith, length-drop (64 * l.q) counts, c.args.part.most, c.args.part.least, c.loop-q-test.false) in
    omega (arith, l.invariant.1, none_to_add (drop l.q c.args.part.row.now) (drop (64 * l.q) counts) none)
