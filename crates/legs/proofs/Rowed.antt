-- What a row of the tables leans on: the last component's letters in a motif's number, the ways counted for a prefix, and the
-- path to the first candidate under a prefix.
use mathlib.Core.List.{List}
use mathlib.Core.Path.{◌≡◌, ap}
use Prim.Native.Nat.{ℕ, ◌+◌, ◌-◌, ◌*◌, ◌/◌, ◌^◌, ◌<◌}
use native.Mathlib.Omega.{arith}
use lib.ListN.{get_or}
use Rattle.rules.proofs.Components.{components_at}
use Rattle.rules.proofs.EachKind.{kind_proper}
use Rattle.rules.specs.Profile.{base_of}
use Rattle.rules.specs.Sound.{SoundComponent, SoundTemplate}
use Rattle.rules.specs.Template.{none, slots, size}
use Rattle.rules.specs.declared.Component.{Component}
use Rattle.rules.specs.declared.Template.{Template}
use Rattle.matching.proofs.Led.{letters_next, letters_last}
use Rattle.matching.specs.Path.{Path}
use Rattle.matching.specs.Weights.{before_last, prefix_of}

-- THE LAST COMPONENT, as the slots have it
module _ (t : Template) (sound : SoundTemplate t) where
  last_there : t.count - 1 < t.count
  last_there = omega (arith, sound.some)

  pub last_sound : SoundComponent (get_or (slots t) (t.count - 1) none)
  last_sound = sound.each (t.count - 1) last_there

  -- its letters are those after the letters before it
  last_letters : (get_or (slots t) (t.count - 1) none).length ≡ size t - before_last t
  last_letters =
      omega (arith, letters_last t sound, letters_next t sound (t.count - 1) last_there, ap (λ (c : Component). c.length) (components_at t (t.count - 1) last_there))

  -- and without them a motif's number is that of the prefix
  pub last_prefix : (m : ℕ) → m / base_of t ^ (get_or (slots t) (t.count - 1) none).length ≡ prefix_of t m
  last_prefix m = ap (λ (n : ℕ). m / base_of t ^ n) last_letters

-- THE PATH to each candidate of one letter more is one to the first of them
pub path_first : {t : Template} {ns l : List ℕ} {slots : List (List ℕ)} {j : ℕ} (m : ℕ) → ((x : ℕ) → x < base_of t → Path t ns l slots j (m * base_of t + x))
    → Path t ns l slots j (m * base_of t)
path_first {t} m f =
    let z : m * base_of t + 0 ≡ m * base_of t = omega arith in
    rw z at (f 0 (kind_proper t.profile).pos)
