-- `record_at`: the first is the size record, then come the components' and last the place record.
use mathlib.Core.Path.{◌≡◌, sym, ◌∙◌}
use Prim.Native.Nat.{suc, ◌-◌}
use native.Mathlib.Nat.{le_trans}
use native.Mathlib.Omega.{arith}
use Rattle.rules.proofs.Records.{size_at, component_at, place_at}
use Rattle.records.proofs.write.record_at.Goals as goal

pub returns-then-i-eq0 : goal.returns-then-i-eq0
returns-then-i-eq0 c = rw c.if-i-eq0.true (c.of_size.ensures ∙ sym (size_at c.args.s))

pub of_component-requires : goal.of_component-requires
of_component-requires c =
    let k = c.args.i - 1 in
    rw c.components.ensures
    ((c.requires.sound_template.each k (omega arith)).short, le_trans (c.requires.sound_template.within k (omega arith)) (c.requires.sound_template.each k (omega arith)).short)

pub returns-then-i-t : goal.returns-then-i-t
returns-then-i-t c =
    let e : suc (c.args.i - 1) ≡ c.args.i = omega arith in
    let a = rw e at (component_at c.args.s c.requires.sound_template.few (c.args.i - 1) (omega arith)) in
    c.of_component.ensures ∙ rw c.components.ensures (sym a)

pub returns : goal.returns
returns c =
    let e : c.args.i ≡ suc c.args.s.template.count = omega arith in
    rw e (c.of_place.ensures ∙ sym (place_at c.args.s c.requires.sound_template.few))
