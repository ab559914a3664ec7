-- `next_starts`: the distances are those of the slots, which are small in a sound template.
use mathlib.Core.List.{List}
use mathlib.Core.Path.{◌≡◌}
use Prim.Native.Nat.{ℕ, ◌+◌, ◌<◌}
use native.Mathlib.Omega.{arith}
use lib.ListN.{get_or}
use Rattle.rules.specs.Sound.{SoundTemplate}
use Rattle.rules.specs.Template.{none, slots, after}
use Rattle.rules.specs.declared.Component.{Component}
use Rattle.rules.specs.declared.Distances.{Distances}
use Rattle.rules.specs.declared.Template.{Template}
use Rattle.rules.proofs.Apart.{Apart, sound_apart}
use Rattle.descent.specs.Paths.{next_apart}
use Rattle.descent.proofs.Descent.next_starts.Goals as goal

-- the distances of two neighbours in the slots are those of the template
apart_is : (t : Template) (c : ℕ) {cs : List Component} {d : Distances} → cs ≡ slots t → d ≡ after (get_or cs (c + 1) none) (get_or cs c none) → d ≡ next_apart t c
apart_is t c s e = rw s at e

small : (t : Template) (c : ℕ) {d : Distances} → SoundTemplate t → c + 1 < t.count → d ≡ next_apart t c → Apart d
small t c sound h e = rw e (sound_apart (sound.each c (omega arith)) (sound.each (c + 1) h))

pub overflow_add-from : goal.overflow_add-from
overflow_add-from c =
    let e = apart_is c.args.self.now.template c.args.component c.components-components.ensures c.after-apart.ensures in
    omega (arith, (small _ _ c.args.self.now.sound c.requires.0 e).near, c.args.self.now.short)

pub overflow_add-from-2 : goal.overflow_add-from-2
overflow_add-from-2 c =
    let e = apart_is c.args.self.now.template c.args.component c.components-components.ensures c.after-apart.ensures in
    let s = small _ _ c.args.self.now.sound c.requires.0 e in
    omega (arith, s.near, s.few, c.args.self.now.short)
