-- The slot of the prefix one letter shorter is lent from the table, and the row of the letter comes with what its test says.
use Rattle.matching.proofs.Slots.{parent}
use Rattle.matching.proofs.path.support.Goals as goal

pub extend-requires-clause-slot : goal.extend-requires-clause-slot
extend-requires-clause-slot c =
    let s = c.args.made.now.plan in
    let q = c.args.place in
    rw c.slot-before.ensures.slot (parent s.search.template s.layout.lengths.now s.letters.now c.args.slots.now q.letters q.number c.requires.path c.requires.le_size.0)
