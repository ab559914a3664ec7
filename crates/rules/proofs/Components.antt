-- The components of a template: each stands in its slot, and there are as many as it counts.
use mathlib.Core.List.{[], ◌∷◌}
use mathlib.Core.Path.{◌≡◌}
use Prim.Native.Nat.{ℕ, suc, ◌≤◌, ◌<◌}
use native.Mathlib.Omega.{arith}
use lib.ListN.{length, drop, get_or, drop_of_length-le}
use lib.Seq.{drop-cons, get_or-take, length-take-le}
use Rattle.rules.specs.Limits.{template_components}
use Rattle.rules.specs.Sound.{SoundComponent, SoundTemplate}
use Rattle.rules.specs.Template.{none, slots, components}
use Rattle.rules.specs.declared.Template.{Template}

-- each stands in its slot
pub components_at : (t : Template) (k : ℕ) → k < t.count → get_or (components t) k none ≡ get_or (slots t) k none
unfolding components
components_at t k h = get_or-take t.count (slots t) k none h

module _ (t : Template) (few : t.count ≤ template_components) where
  -- a template within the limit has as many as it counts
  pub components_length : length (components t) ≡ t.count
  unfolding components
  components_length = length-take-le t.count (slots t) few

  -- from c on: that one and those after it
  pub components_more : (c : ℕ) → c < t.count → drop c (components t) ≡ get_or (slots t) c none ∷ drop (suc c) (components t)
  components_more c l = rw (drop-cons (components t) c none (rw components_length l), components_at t c l)

  -- past the last there is none
  pub components_none : (c : ℕ) → t.count ≤ c → drop c (components t) ≡ []
  components_none c l = drop_of_length-le (components t) {i = c} (rw components_length l)

-- each component of a sound template is sound, and so has a letter
pub components_sound : {t : Template} → SoundTemplate t → (i : ℕ) → i < length (components t) → SoundComponent (get_or (components t) i none)
components_sound {t} sound i h =
    let l : i < t.count = omega (arith, components_length t sound.few) in
    rw (components_at t i l) (sound.each i l)

pub components_some : {t : Template} → SoundTemplate t → (i : ℕ) → i < length (components t) → 1 ≤ (get_or (components t) i none).length
components_some sound i h = (components_sound sound i h).some
