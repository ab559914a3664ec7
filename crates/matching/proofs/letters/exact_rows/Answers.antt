use Rattle.matching.proofs.Standing.{Shifted, written_more, shifted_same}
use Rattle.matching.proofs.letters.exact_rows.Goals as goal

pub loop-s-preserved : goal.loop-s-preserved
loop-s-preserved c =
    let a = c.args in
    let l = c.loop-s in
    let i = l.invariant in
    let o = c.later_slot.ensures in
    written_more (Shifted a.plan.now.layout.lengths.now a.standing.now) a.standing.now l.s l.standing _ i o.standing_unchanged.0 (shifted_same a.plan.now.layout.lengths.now a.standing.now l.standing l.s _ i.kept o.filled)
