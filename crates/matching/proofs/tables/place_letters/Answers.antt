use mathlib.Core.Path.{refl}
use native.Mathlib.Omega.{arith}
use Rattle.matching.proofs.LetterPlaces.{letters_none, placed_none, placed_end, read_short, read_next, read_most, read_placed}
use Rattle.matching.proofs.tables.place_letters.Goals as goal

pub loop-k-init : goal.loop-k-init
loop-k-init c = (letters_none _, placed_none _ _ _ refl)

pub overflow_cast-n : goal.overflow_cast-n
overflow_cast-n c =
    let e = c.components-components.ensures in
    omega (arith, read_short c.args.task.now.search.template c.args.task.now.sound_template _ e refl c.loop-k.k c.loop-k-test.true)

pub place_component-requires : goal.place_component-requires
place_component-requires c =
    let e = c.components-components.ensures in
    let l = c.loop-k in
    let h = c.loop-k-test.true in
    let o = read_short c.args.task.now.search.template c.args.task.now.sound_template _ e refl l.k h in
    let m = read_most c.args.task.now.search.template c.args.task.now.sound_template _ e refl l.k h l.invariant.0 in
    (omega (arith, c.args.task.now.sound_template.few, h), o, omega (arith, m, l.auto.inside, c.requires.template_in_bounds))

pub overflow_add-from : goal.overflow_add-from
overflow_add-from c =
    let e = c.components-components.ensures in
    let l = c.loop-k in
    let h = c.loop-k-test.true in
    omega (arith, read_most c.args.task.now.search.template c.args.task.now.sound_template _ e refl l.k h l.invariant.0, c.args.task.now.sound_template.deep)

pub loop-k-preserved : goal.loop-k-preserved
loop-k-preserved c =
    let e = c.components-components.ensures in
    let l = c.loop-k in
    let h = c.loop-k-test.true in
    let o = c.place_component.ensures in
    (read_next c.args.task.now.search.template c.args.task.now.sound_template _ e refl l.k h l.invariant.0, read_placed c.args.task.now.search.template c.args.task.now.sound_template _ e refl l.k h l.invariant.0 l.inside _ l.invariant.1 o.inside_unchanged.0 o.by_index)

pub returns-clause-inside : goal.returns-clause-inside
returns-clause-inside c =
    let l = c.loop-k in
    placed_end c.args.task.now.search.template c.args.task.now.sound_template _ c.components-components.ensures refl l.k l.inside (omega (arith, l.auto.k-end, c.loop-k-test.false)) (omega (arith, l.auto.inside, c.requires.template_in_bounds)) l.invariant.1
