-- The letter's row is made first.
use Prim.Native.Nat.{◌-◌}
use native.Mathlib.Omega.{arith}
use Rattle.rows.proofs.ByFlags.{row_bounded}
use Rattle.matching.proofs.Extend.{letter_small}
use Rattle.matching.proofs.Standing.{from_letter}
use Rattle.matching.proofs.Steps.{prefix_long}
use Rattle.matching.proofs.LetterTests.{made_last}
use Rattle.matching.proofs.path.take_turn.Goals as goal

pub extend-found-requires-clause-tests_last : goal.extend-found-requires-clause-tests_last
extend-found-requires-clause-tests_last c =
    let s = c.args.plan.now in
    made_last s.search.template s.sound_template s.inside.now s.placed c.args.place.letters c.args.place.number s.layout.lengths.now s.letters.now c.args.bases.now _ s.sound_set c.requires.base_rows (from_letter c.args.bases.now c.last.ensures c.letter_row.ensures.from_bases)

pub end_slot-requires-clause-bounded : goal.end_slot-requires-clause-bounded
end_slot-requires-clause-bounded c =
    let s = c.args.plan.now in
    let set = s.sound_set in
    row_bounded s.layout.lengths.now s.letters.now set.adds set.few _ (prefix_long s.search.template c.args.place.letters c.args.place.number) _ (c.extend-found.ensures.row (omega arith))

pub invariant_of-by : goal.invariant_of-by
invariant_of-by c =
    let s = c.args.plan.now in
    record { in_word = omega (arith, letter_small s.search.template s.sound_template s.inside.now s.placed (c.args.place.letters - 1) (omega (arith, c.requires.le_size))) }
