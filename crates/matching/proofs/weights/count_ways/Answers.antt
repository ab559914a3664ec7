use mathlib.Core.Bool.{true, false}
use mathlib.Core.Path.{◌≡◌}
use Prim.Native.Nat.{ℕ, ◌+◌, ◌-◌, ◌/◌, ◌^◌, ◌≤◌}
use native.Mathlib.Decide.{dec_lt}
use native.Mathlib.Omega.{arith}
use lib.Dec.{eqb}
use lib.ListN.{length}
use borrow.Author.Rules.{rules}
use borrow.Author.Tests.{eqb-true, eqb-false}
use Rattle.rules.specs.Lists.{sum}
use Rattle.rules.specs.Profile.{base_of}
use Rattle.rows.proofs.ByFlags.{row_bounded}
use Rattle.matching.specs.Weights.{LeadsTo}
use Rattle.matching.proofs.OneMoreComponent.{turn, begin_letters, only_led, behind_sound, turn_apart, next_letters, next_some, next_deep, next_less, next_path, next_small, next_dark, next_led}
use Rattle.matching.proofs.Steps.{prefix_long}
use Rattle.matching.proofs.weights.count_ways.Goals as goal

-- a turn that is not the first
later : (c : ℕ) → 1 ≤ c → eqb c 1 ≡ false → 2 ≤ c
later c h e = elim (dec_lt 1 c) [ yes l ↦ l | no l ↦ absurd (eqb-false c 1 e (omega arith)) ]

pub returns-then-count-eq1-clause-leads : goal.returns-then-count-eq1-clause-leads
returns-then-count-eq1-clause-leads c =
    let y = c.fill.ensures.after (λ y h. search rules) in
    let s = c.args.weighing.now.made.plan in
    only_led s.letters.now c.args.ways.now c.requires.letters_in_bounds _ y s.search.template s.sound_template _ s.sound_set _ (omega (arith, c.if-count-eq1.true))

pub loop-c-init : goal.loop-c-init
loop-c-init c =
    (begin_letters _, (λ h. absurd (omega arith)))

pub overflow_cast-more : goal.overflow_cast-more
overflow_cast-more c =
    let s = c.args.weighing.now.made.plan in
    let p = c.requires in
    let l = c.loop-c in
    let t = turn s.sound_template s.depth_value c.components-components.ensures l.auto.c c.loop-c-test.true l.invariant.0 in
    omega (arith, (behind_sound t).short)

pub overflow_add-size : goal.overflow_add-size
overflow_add-size c =
    let s = c.args.weighing.now.made.plan in
    let p = c.requires in
    let l = c.loop-c in
    let t = turn s.sound_template s.depth_value c.components-components.ensures l.auto.c c.loop-c-test.true l.invariant.0 in
    omega (arith, next_deep t, t.whole, t.sound.deep)

pub overflow_sub-left : goal.overflow_sub-left
overflow_sub-left c =
    let s = c.args.weighing.now.made.plan in
    let p = c.requires in
    let l = c.loop-c in
    let t = turn s.sound_template s.depth_value c.components-components.ensures l.auto.c c.loop-c-test.true l.invariant.0 in
    next_deep t

pub support-requires-clause-le_size : goal.support-requires-clause-le_size
support-requires-clause-le_size c =
    let s = c.args.weighing.now.made.plan in
    let p = c.requires in
    let l = c.loop-c in
    let t = turn s.sound_template s.depth_value c.components-components.ensures l.auto.c c.loop-c-test.true l.invariant.0 in
    (next_some t, omega (arith, next_deep t, t.whole))

pub support-requires-clause-path : goal.support-requires-clause-path
support-requires-clause-path c =
    let s = c.args.weighing.now.made.plan in
    let p = c.requires in
    let l = c.loop-c in
    let t = turn s.sound_template s.depth_value c.components-components.ensures l.auto.c c.loop-c-test.true l.invariant.0 in
    next_path t c.args.motif c.prefix-number.ensures _ _ _ p.path

pub slot-opened-requires : goal.slot-opened-requires
slot-opened-requires c =
    let s = c.args.weighing.now.made.plan in
    let p = c.requires in
    let l = c.loop-c in
    let t = turn s.sound_template s.depth_value c.components-components.ensures l.auto.c c.loop-c-test.true l.invariant.0 in
    omega (arith, next_less t, t.whole, t.sound.deep)

pub invariant_of-reach : goal.invariant_of-reach
invariant_of-reach c =
    let s = c.args.weighing.now.made.plan in
    let p = c.requires in
    let l = c.loop-c in
    let t = turn s.sound_template s.depth_value c.components-components.ensures l.auto.c c.loop-c-test.true l.invariant.0 in
    let z = turn_apart t c.after.ensures in
    record { near_bound = (z.some, z.near); count_bound = (z.any, z.few) }

pub lead_all-requires-clause-bounded : goal.lead_all-requires-clause-bounded
lead_all-requires-clause-bounded c =
    let s = c.args.weighing.now.made.plan in
    let p = c.requires in
    let is = c.support.ensures.row (omega arith) in
    row_bounded _ _ s.sound_set.adds s.sound_set.few _ (prefix_long s.search.template _ _) _ is

pub lead_all-requires-clause-lengths_in_bounds : goal.lead_all-requires-clause-lengths_in_bounds
lead_all-requires-clause-lengths_in_bounds c =
    let s = c.args.weighing.now.made.plan in
    let p = c.requires in
    let l = c.loop-c in
    let i = l.invariant in
    let room : sum s.layout.lengths.now ≤ length l.ways = omega (arith, s.sound_set.adds, p.letters_in_bounds, l.auto.ways) in
    room

pub lead_all-requires-clause-by_index : goal.lead_all-requires-clause-by_index
lead_all-requires-clause-by_index c =
    let s = c.args.weighing.now.made.plan in
    let p = c.requires in
    let l = c.loop-c in
    let i = l.invariant in
    let t = turn s.sound_template s.depth_value c.components-components.ensures l.auto.c c.loop-c-test.true i.0 in
    let begins : eqb l.c 1 ≡ true → l.c ≡ 1 = λ e. eqb-true l.c 1 e in
    let goes : eqb l.c 1 ≡ false → LeadsTo s.search.template s.layout.lengths.now s.letters.now (l.c - 1) (c.args.motif / base_of s.search.template ^ (s.depth - l.size)) l.ways = λ e. i.1 (later l.c l.auto.c e) in
    let room : sum s.layout.lengths.now ≤ length l.ways = omega (arith, s.sound_set.adds, p.letters_in_bounds, l.auto.ways) in
    let is = c.support.ensures.row (omega arith) in
    next_small t _ _ s.sound_set c.args.motif _ _ (eqb l.c 1) begins goes room _ c.prefix-number.ensures is

pub lead_all-requires-clause-by_index_2 : goal.lead_all-requires-clause-by_index_2
lead_all-requires-clause-by_index_2 c =
    let s = c.args.weighing.now.made.plan in
    let p = c.requires in
    let l = c.loop-c in
    let i = l.invariant in
    let t = turn s.sound_template s.depth_value c.components-components.ensures l.auto.c c.loop-c-test.true i.0 in
    let begins : eqb l.c 1 ≡ true → l.c ≡ 1 = λ e. eqb-true l.c 1 e in
    let goes : eqb l.c 1 ≡ false → LeadsTo s.search.template s.layout.lengths.now s.letters.now (l.c - 1) (c.args.motif / base_of s.search.template ^ (s.depth - l.size)) l.ways = λ e. i.1 (later l.c l.auto.c e) in
    let room : sum s.layout.lengths.now ≤ length l.ways = omega (arith, s.sound_set.adds, p.letters_in_bounds, l.auto.ways) in
    let is = c.support.ensures.row (omega arith) in
    let apart = c.after.ensures in
    let opened = c.slot-opened.ensures in
    rw opened.slot (next_dark t _ _ s.sound_set c.args.motif _ _ (eqb l.c 1) begins goes room _ c.prefix-number.ensures is apart _ p.path)

pub loop-c-preserved : goal.loop-c-preserved
loop-c-preserved c =
    let s = c.args.weighing.now.made.plan in
    let p = c.requires in
    let l = c.loop-c in
    let i = l.invariant in
    let t = turn s.sound_template s.depth_value c.components-components.ensures l.auto.c c.loop-c-test.true i.0 in
    let begins : eqb l.c 1 ≡ true → l.c ≡ 1 = λ e. eqb-true l.c 1 e in
    let goes : eqb l.c 1 ≡ false → LeadsTo s.search.template s.layout.lengths.now s.letters.now (l.c - 1) (c.args.motif / base_of s.search.template ^ (s.depth - l.size)) l.ways = λ e. i.1 (later l.c l.auto.c e) in
    let room : sum s.layout.lengths.now ≤ length l.ways = omega (arith, s.sound_set.adds, p.letters_in_bounds, l.auto.ways) in
    let is = c.support.ensures.row (omega arith) in
    let z : l.c + 1 - 1 ≡ l.c = omega arith in
    (rw z (next_letters t), (λ _. rw z (next_led t _ _ s.sound_set c.args.motif _ _ (eqb l.c 1) begins goes room _ c.prefix-number.ensures is c.after.ensures _ _ c.lead_all.ensures.holds_counts)))
