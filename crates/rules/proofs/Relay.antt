-- Legs laid end to end.
use mathlib.Core.Path.{◌≡◌, ap, ◌∙◌}
use mathlib.Core.List.{List}
use Prim.Native.Nat.{ℕ, ◌≤◌}
use native.Mathlib.Omega.{arith}
use lib.ListN.{length}
use Rattle.rules.specs.Walk.{Walk, Lawful, start, motifs, tries}
use Rattle.rules.specs.Legs.{Grant, leg, legs, AmpleGrants}
use Rattle.rules.specs.declared.Stop.TheVariants.{Ended}
use Rattle.rules.specs.declared.Place.{Place}
use Rattle.rules.proofs.Candidates.{start_first}
use Rattle.rules.proofs.Whole.{lists, tried}
use Rattle.rules.proofs.Legs.{ended_all, legs_end, leg_end, start_size}

module _ (W : Walk) (L : Lawful W) where
  -- T5: legs that answer `ended` list exactly the good motifs, in as many steps as there are candidates
  pub all_listed : (gs : List Grant) → (legs W gs (start W)).stop ≡ Ended → (legs W gs (start W)).motifs ≡ motifs W
  all_listed gs e = (ended_all W L.pos gs (start W) (start_size W L.lettered) e).0 ∙ lists W L

  pub all_tried : (gs : List Grant) → (legs W gs (start W)).stop ≡ Ended → (legs W gs (start W)).steps ≡ tries W W.depth
  all_tried gs e = (ended_all W L.pos gs (start W) (start_size W L.lettered) e).1 ∙ tried W L

  -- and they do, if each has a budget and room and there are as many legs as candidates
  pub legs_enough : (gs : List Grant) → AmpleGrants gs → tries W W.depth ≤ length gs → (legs W gs (start W)).stop ≡ Ended
  legs_enough gs a h = legs_end W L.pos gs (start W) a (omega (arith, ap (λ (p : Place). p.letters) (start_first W L))) (start_size W L.lettered) (omega (arith, tried W L))

  -- and so does one leg with a budget of as many, and room for all the good motifs
  pub leg_enough : (b r : ℕ) → tries W W.depth ≤ b → length (motifs W) ≤ r → (leg W b r (start W)).stop ≡ Ended
  leg_enough b r h k = leg_end W L.pos b r (start W) (start_size W L.lettered) (omega (arith, tried W L)) (rw (lists W L) k)
