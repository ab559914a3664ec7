use mathlib.Core.Path.{◌≡◌, refl, ap}
use Prim.Native.Nat.{◌+◌, ◌-◌}
use native.Mathlib.Omega.{arith}
use borrow.Author.Rules.{rules}
use mathlib.Core.List.{[]}
use Rattle.std.proofs.lemmas.List.{get_or-set_same}
use Rattle.std.specs.Prelude.{Some}
use Rattle.matching.proofs.Replay.{replay_begin, replay_more, replay_end, last_prefix}
use Rattle.matching.proofs.path.replay.Goals as goal

pub loop-d-init : goal.loop-d-init
loop-d-init c =
    let s = c.args.made.now.plan in
    let q = s.search.place in
    let first = get_or-set_same c.args.slots.now 0 c.first_slot.new.slot [] (search rules) in
    (replay_begin s.search.template q.letters q.number s.layout.lengths.now s.letters.now _ c.requires.le_letters.0 c.requires.le_letters.2 (rw first c.first_slot.ensures.slot), (λ _. refl), (λ h. absurd (omega arith)))

pub loop-d-preserved : goal.loop-d-preserved
loop-d-preserved c =
    let s = c.args.made.now.plan in
    let q = s.search.place in
    let l = c.loop-d in
    let p = c.push.ensures in
    let e = c.prefix.ensures in
    let z : l.d + 1 - 1 ≡ l.d = omega arith in
    let path = replay_more s.search.template q.letters q.number s.layout.lengths.now s.letters.now _ l.d c.loop-d-test.true (rw e at (p.path_2 (omega arith))) in
    (path, (λ h. absurd (omega (arith, h, l.auto.d))), (λ h. ap Some (rw z (rw e at (p.value (omega arith))))))

pub returns-clause-value : goal.returns-clause-value
returns-clause-value c =
    let s = c.args.made.now.plan in
    let q = s.search.place in
    let l = c.loop-d in
    let e : l.d ≡ q.letters = omega (arith, l.auto.d-end, c.requires.le_letters.0, c.loop-d-test.false) in
    λ h. rw (← e, ← (last_prefix s.search.template q.letters q.number l.d e l.auto.d)) (l.invariant.2 (omega arith))

pub returns-clause-path : goal.returns-clause-path
returns-clause-path c =
    let s = c.args.made.now.plan in
    let q = s.search.place in
    let l = c.loop-d in
    let e : l.d ≡ q.letters = omega (arith, l.auto.d-end, c.requires.le_letters.0, c.loop-d-test.false) in
    replay_end s.search.template q.letters q.number s.layout.lengths.now s.letters.now _ l.d e l.invariant.0
