-- The slot stands in the table, and its row is the letter's for its place, or shifted so far is.
use Prim.Native.Nat.{◌-◌}
use native.Mathlib.Omega.{arith}
use Rattle.matching.proofs.Extend.{letter_small}
use Rattle.matching.proofs.LetterTests.{kept_there, near_inside, near_last, far_last}
use Rattle.matching.proofs.letters.test_for.Goals as goal

-- the row is kept for the letter's place
pub bounds-standing-i : goal.bounds-standing-i
bounds-standing-i c =
    let m = c.args.made.now in
    let p = m.plan in
    let kept = kept_there p.search.template m.standing.now _ c.base-base.ensures c.if-kept.true in
    omega (arith, near_inside p.search.template p.sound_template p.inside.now p.placed c.args.place.letters c.args.place.number m.standing.now kept c.last-x.ensures c.base-base.ensures)

pub offset_bounds-standing-i : goal.offset_bounds-standing-i
offset_bounds-standing-i c =
    let m = c.args.made.now in
    let p = m.plan in
    let kept = kept_there p.search.template m.standing.now _ c.base-base.ensures c.if-kept.true in
    omega (arith, near_inside p.search.template p.sound_template p.inside.now p.placed c.args.place.letters c.args.place.number m.standing.now kept c.last-x.ensures c.base-base.ensures, c.well_formed)

pub returns-then-kept : goal.returns-then-kept
returns-then-kept c =
    let m = c.args.made.now in
    let p = m.plan in
    let kept = kept_there p.search.template m.standing.now _ c.base-base.ensures c.if-kept.true in
    record { tests_last = near_last p.search.template p.sound_template p.inside.now p.placed c.args.place.letters c.args.place.number m.standing.now kept c.last-x.ensures c.base-base.ensures p.layout.lengths.now p.letters.now m.rows }

-- or not
pub returns-else-kept : goal.returns-else-kept
returns-else-kept c =
    let m = c.args.made.now in
    let p = m.plan in
    record { tests_last = far_last p.search.template p.sound_template p.inside.now p.placed c.args.place.letters c.args.place.number m.standing.now c.last-x.ensures p.layout.lengths.now p.letters.now m.rows }

pub invariant_of-result-else-kept : goal.invariant_of-result-else-kept
invariant_of-result-else-kept c =
    let p = c.args.made.now.plan in
    let n = c.requires.le_letters in
    record { in_word = omega (arith, letter_small p.search.template p.sound_template p.inside.now p.placed (c.args.place.letters - 1) (omega (arith, n, p.depth_value))) }
