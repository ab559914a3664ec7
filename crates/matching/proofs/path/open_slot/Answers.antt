-- The gap is opened in the slot by the distances of the template.
use Rattle.matching.proofs.Gapped.{gap_apart, opened_slot}
use Rattle.matching.proofs.path.open_slot.Goals as goal

pub invariant_of-reach : goal.invariant_of-reach
invariant_of-reach c =
    let s = c.args.plan.now in
    let p = c.requires in
    let g = gap_apart s.search.template s.sound_template c.args.component p.le_component.0 p.le_component.1 _ c.components-components.ensures c.after.ensures in
    record { near_bound = (g.some, g.near); count_bound = (g.any, g.few) }

pub returns-clause-filled : goal.returns-clause-filled
returns-clause-filled c =
    let s = c.args.plan.now in
    let p = c.requires in
    let e = c.components-components.ensures in
    opened_slot s.search.template s.sound_template c.args.component p.le_component.0 p.le_component.1 _ e c.after.ensures s.layout.lengths.now c.args.slot.now _ c.open_all.ensures.filled
