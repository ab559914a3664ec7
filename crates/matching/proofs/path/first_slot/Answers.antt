-- The slot gets every mark and every bit, which is what the first letter is added to.
use Rattle.matching.proofs.PathStart.{first_slot}
use Rattle.matching.proofs.path.first_slot.Goals as goal

pub returns : goal.returns
returns c =
    let s = c.args.plan.now in
    let o = c.begin.ensures in
    record { slot = first_slot s.letters.now s.layout.lengths.now s.sound_set _ o.marked o.by_index s.search.template s.sound_template }
