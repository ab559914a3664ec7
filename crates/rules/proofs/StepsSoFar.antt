-- However a new search is split into legs, the steps taken so far are never more than those of the whole search, since the legs
-- pass its candidates one after another; so they are fewer than 2 ^ 63, and a budget of so many is never used up.
use mathlib.Core.Path.{◌≡◌, sym, ap, ◌∙◌}
use mathlib.Core.List.{List, map}
use Prim.Native.Nat.{ℕ, ◌^◌, ◌≤◌, ◌<◌, min}
use native.Mathlib.Omega.{arith}
use lib.ListN.{length, length-append}
use Rattle.rules.specs.Calls.{begun, stretch, begin_rule, leg_rule}
use Rattle.rules.specs.Legs.{Stretch, leg, legs, Passed}
use Rattle.rules.specs.declared.Stop.TheVariants.{Spent}
use Rattle.rules.specs.Relay.{whole_steps, Lent, Roomy, relay}
use Rattle.rules.specs.Sequences.{sequences}
use Rattle.rules.specs.Sound.{SoundTemplate}
use Rattle.rules.specs.Told.{gives}
use Rattle.rules.specs.Walk.{Walk, walk_over, walk_of, first_place, from}
use Rattle.rules.specs.declared.Place.{Place}
use Rattle.rules.specs.declared.Search.{Search}
use Rattle.rules.specs.declared.Template.{Template}
use Rattle.rules.proofs.Begins.{Beginning, begins}
use Rattle.rules.proofs.Candidates.{start_first}
use Rattle.rules.proofs.FewMixed.{whole_steps_few}
use Rattle.rules.proofs.Legs.{leg_law, legs_law, leg_why}
use Rattle.rules.proofs.Places.{place_deep}
use Rattle.rules.proofs.Searches.{walk_lawful}
use Rattle.rules.proofs.Relayed.{granted, relay_legs}
use Rattle.rules.proofs.Sound.{search_fine}
use Rattle.rules.proofs.Tried.{passes_counted}

-- what is passed is no more than there is
passed_most : (W : Walk) (p : Place) (l : Stretch) → Passed W p l → l.steps ≤ length (from W p)
passed_most W p l r = omega (arith, r.counts, simp length-append at (ap length r.split))

-- from A on there are all the candidates
pub from_first : (t : Template) (quorum : ℕ) (ss : List (List ℕ)) → SoundTemplate t → length (from (walk_over t quorum ss) first_place) ≡ whole_steps t quorum ss
from_first t quorum ss o =
    let W : Walk = walk_over t quorum ss in
    ap (λ p. length (from W p)) (sym (start_first W (walk_lawful t quorum ss o))) ∙ passes_counted t quorum ss o

module _ (letters lengths : List ℕ) (t : Template) (quorum : ℕ) (s : Search) (e : begin_rule letters lengths t quorum ≡ gives s) where
  b : Beginning letters lengths t quorum s
  b = begins letters lengths t quorum s e

  -- the whole of a search that begins
  pub begun_steps_few : whole_steps t quorum (sequences letters lengths) < 2 ^ 63
  unfolding begun
  begun_steps_few = whole_steps_few t quorum letters lengths b.template b.sound.set (omega (arith, b.sound.some, ap (λ (s : Search). s.quorum) b.is))

  -- the steps of its legs, with a save and a restore between them, are never more
  pub steps_so_far : (gs : List Lent) → Roomy t gs → (relay letters lengths gs s).steps ≤ whole_steps t quorum (sequences letters lengths)
  steps_so_far gs h =
      let W : Walk = walk_over t quorum (sequences letters lengths) in
      let L = walk_lawful t quorum (sequences letters lengths) b.template in
      let r = passed_most W first_place (legs W (map granted gs) first_place) (legs_law W L.pos (map granted gs) first_place L.lettered) in
      rw (relay_legs letters lengths gs s b.sound b.trim (λ refused short. short (b.roomy gs h)), b.walk, b.at)
      (omega (arith, r, from_first t quorum (sequences letters lengths) b.template))

  -- so a leg of it never uses up a budget of 2 ^ 63
  pub never_spent : (budget : ℕ) (motifs supports weights : List ℕ) → 2 ^ 63 ≤ budget → (leg_rule letters lengths s budget motifs supports weights).told.answer ≡ gives Spent → ⊥
  unfolding leg_rule stretch
  never_spent budget motifs supports weights h a =
      let W : Walk = walk_of letters lengths s in
      let room : ℕ = min (length motifs) (min (length supports) (length weights)) in
      let l : Stretch = leg W budget room s.place in
      let q : gives l.stop ≡ gives Spent = rw (search_fine letters lengths s b.sound) at a in
      let used : l.steps ≡ budget = (leg_why W budget room s.place).if_spent cc in
      let most = passed_most W s.place l (leg_law W (walk_lawful s.template s.quorum (sequences letters lengths) b.sound.template).pos budget room s.place (place_deep letters lengths s b.sound)) in
      let all : length (from W s.place) ≡ whole_steps t quorum (sequences letters lengths) = rw (b.walk, b.at) (from_first t quorum (sequences letters lengths) b.template) in
      omega (arith, begun_steps_few)
