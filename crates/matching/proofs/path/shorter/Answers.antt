use mathlib.Core.Path.{◌≡◌, refl, ap}
use Prim.Native.Nat.{◌+◌, ◌-◌}
use native.Mathlib.Omega.{arith}
use Rattle.std.specs.Prelude.{Some}
use Rattle.matching.proofs.Replay.{slot_begin, slot_more, last_prefix}
use Rattle.matching.proofs.path.shorter.Goals as goal

pub loop-d-init : goal.loop-d-init
loop-d-init c =
    let s = c.args.plan.now in
    let q = s.search.place in
    let p = c.requires in
    (slot_begin s.search.template q.letters q.number s.layout.lengths.now s.letters.now c.args.even.now c.requires.le_letters.0 c.requires.le_letters.2 p.slot, (λ _. refl), (λ h. absurd (omega arith)))

pub loop-d-preserved : goal.loop-d-preserved
loop-d-preserved c =
    let s = c.args.plan.now in
    let q = s.search.place in
    let l = c.loop-d in
    let t = c.take_turn.ensures in
    let e = c.prefix-prefix.ensures in
    let z : l.d + 1 - 1 ≡ l.d = omega arith in
    let slot = slot_more s.search.template q.letters q.number s.layout.lengths.now s.letters.now _ l.d c.loop-d-test.true (rw e at t.slot_2) in
    (slot, (λ h. absurd (omega (arith, h, l.auto.d))), (λ h. ap Some (rw z (rw e at t.value))))

pub returns-clause-value : goal.returns-clause-value
returns-clause-value c =
    let s = c.args.plan.now in
    let q = s.search.place in
    let l = c.loop-d in
    let e : l.d ≡ q.letters = omega (arith, l.auto.d-end, c.requires.le_letters.0, c.loop-d-test.false) in
    λ h. rw (← e, ← (last_prefix s.search.template q.letters q.number l.d e l.auto.d)) (l.invariant.2 (omega arith))
