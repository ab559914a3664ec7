-- How far one start lies from the next: all that is used of `distance`, but by its own function and by facts. It grows with the gap, by
-- as much; so there are as many distances as the gap's range has numbers, and to follow within them is to keep that range.
use mathlib.Core.Path.{◌≡◌}
use mathlib.Core.Logic.{◌↔◌}
use Prim.Native.Nat.{ℕ, ◌+◌, ◌-◌, ◌≤◌}
use native.Mathlib.Omega.{arith}
use Rattle.rules.specs.Limits.{template_length, template_gap}
use Rattle.rules.specs.Occurrence.{Follows, Gap}
use Rattle.rules.specs.Sound.{SoundComponent}
use Rattle.rules.specs.Template.{distance, distances, after, span}
use Rattle.rules.specs.declared.Component.{Component}
use Rattle.rules.specs.declared.Distances.{Distances}

module _ (n low high : ℕ) where
  -- as many as the range has
  pub count_is : span (distance n low) (distance n high) ≡ span low high
  unfolding distance
  count_is = omega arith

  -- the last of them is that over the widest gap
  pub last_is : low ≤ high → (distances n low high).near + (distances n low high).count - 1 ≡ distance n high
  unfolding distance
  last_is h = omega arith

  pub follows_range : (p q : ℕ) → Follows (distance n low) (distance n high) p q ↔ Gap n low high p q
  unfolding distance
  follows_range p q = (
    λ f. record { least = omega (arith, f.least); most = omega (arith, f.most) },
    λ g. record { least = omega (arith, g.least); most = omega (arith, g.most) },
  )

-- the distances that a template can have
pub record Apart (d : Distances) : Type 0 where
  pub some : 1 ≤ d.near
  pub near : d.near ≤ template_length + template_gap
  pub any : 1 ≤ d.count
  pub few : d.count ≤ template_gap + 1

-- after a component that 6 passes, those of a range that 8 passes
pub apart : (n low high : ℕ) → 1 ≤ n → n ≤ template_length → low ≤ high → high ≤ template_gap → Apart (distances n low high)
unfolding distance
apart n low high some short ordered near = record { some = omega arith; near = omega arith; any = omega arith; few = omega arith }

pub sound_apart : {b c : Component} → SoundComponent b → SoundComponent c → Apart (after c b)
sound_apart {b} {c} s h = apart b.length c.low c.high s.some s.short h.ordered h.near
