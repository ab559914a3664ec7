-- Inside a component the row is what the next letter is added to; at a component's first letter the gap is opened.
use native.Mathlib.Omega.{arith}
use Rattle.matching.proofs.Push.{component_there, filled_row, filled_gap}
use Rattle.matching.proofs.path.end_slot.Goals as goal

pub returns-then-spot-gt0 : goal.returns-then-spot-gt0
returns-then-spot-gt0 c =
    let s = c.args.plan.now in
    let n = c.requires.le_size in
    record { by_index = λ m is. filled_row s.search.template s.sound_template c.args.size n.0 n.1 s.inside.now s.placed s.letters.now s.layout.lengths.now s.sound_set m c.args.slot.now is c.if-spot-gt0.true }

pub open_slot-requires-clause-le_component : goal.open_slot-requires-clause-le_component
open_slot-requires-clause-le_component c =
    let s = c.args.plan.now in
    let n = c.requires.le_size in
    component_there s.search.template s.sound_template c.args.size n.0 n.1 s.inside.now s.placed (omega (arith, c.if-spot-gt0.false))

pub returns : goal.returns
returns c =
    let s = c.args.plan.now in
    let n = c.requires.le_size in
    let o = c.open_slot.ensures in
    record { by_index = λ m is. filled_gap s.search.template s.sound_template c.args.size n.0 n.1 s.inside.now s.placed s.letters.now s.layout.lengths.now s.sound_set m c.args.slot.now is (omega (arith, c.if-spot-gt0.false)) _ o.marked o.filled }
