-- The table is cut before the slot that is filled: what is below it is left.
use Prim.Native.Nat.{◌<◌}
use native.Mathlib.Omega.{arith}
use lib.ListN.{length}
use Rattle.matching.proofs.Push.{before_cut, path_stays, path_goes_on}
use Rattle.matching.proofs.path.push.Goals as goal

pub fill_slot-requires-clause-slot : goal.fill_slot-requires-clause-slot
fill_slot-requires-clause-slot c =
    let s = c.args.made.now.plan in
    let q = c.args.place in
    before_cut s.search.template s.layout.lengths.now s.letters.now c.args.slots.now q.letters q.number c.requires.path _ c.split_at_mut-below.ensures.front c.requires.le_size.0

pub returns-clause-path_2 : goal.returns-clause-path_2
returns-clause-path_2 c =
    let s = c.args.made.now.plan in
    let q = c.args.place in
    let b = c.split_at_mut-below.ensures in
    let room : 0 < length c.split_at_mut-below.result.1.now = omega (arith, b.back_len, c.requires.le_size, s.depth_value, s.sound_template.deep) in
    λ h. path_goes_on s.search.template s.layout.lengths.now s.letters.now c.args.slots.now q.letters q.number c.requires.path _ b.front _ _ b.front_len room (c.fill_slot.ensures.slot_2 h)

pub returns-clause-path_3 : goal.returns-clause-path_3
returns-clause-path_3 c =
    let s = c.args.made.now.plan in
    let q = c.args.place in
    let b = c.split_at_mut-below.ensures in
    let room : 0 < length c.split_at_mut-below.result.1.now = omega (arith, b.back_len, c.requires.le_size, s.depth_value, s.sound_template.deep) in
    path_stays s.search.template s.layout.lengths.now s.letters.now c.args.slots.now q.letters q.number c.requires.path _ b.front _ _ b.front_len room
