-- The row is made in the slot, and there it becomes what a further letter is added to.
use native.Mathlib.Omega.{arith}
use Rattle.rows.proofs.ByFlags.{row_bounded}
use Rattle.matching.proofs.Steps.{prefix_long}
use Rattle.matching.proofs.path.fill_slot.Goals as goal

pub end_slot-requires-clause-bounded : goal.end_slot-requires-clause-bounded
end_slot-requires-clause-bounded c =
    let s = c.args.plan.now in
    let set = s.sound_set in
    let row = c.extend-found.ensures.row (omega (arith, c.if-found-quorum.false)) in
    row_bounded s.layout.lengths.now s.letters.now set.adds set.few _ (prefix_long s.search.template c.args.place.letters c.args.place.number) _ row
