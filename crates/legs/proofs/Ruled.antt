-- What the rule of a leg is once its checks are known: the search and the tables as they were, or the leg's stretch.
use mathlib.Core.Path.{◌≡◌, refl}
use mathlib.Core.List.{List}
use Prim.Native.Nat.{ℕ}
use Rattle.rules.specs.Calls.{moved, stretch, supports_of, weights_of, leg_rule}
use Rattle.rules.specs.Lists.{put}
use Rattle.rules.specs.Refusals.{first, search_checks}
use Rattle.rules.specs.Told.{gives, refuses, fine, refused, LegTold}
use Rattle.rules.specs.Walk.{walk_of}
use Rattle.rules.specs.declared.Search.{Search}
use Rattle.rules.specs.declared.Stop.TheVariants.{Ended}
use Rattle.rules.proofs.Legs.{leg_ended}
use Rattle.legs.specs.AcceptedLeg.{room_of, told_of}

module _ (letters lengths : List ℕ) (s : Search) (budget : ℕ) (motifs supports weights : List ℕ) where
  pub declined : {n p : ℕ} → refused n p ≡ first (search_checks letters lengths s)
      → let r = leg_rule letters lengths s budget motifs supports weights in
      (record { answer = refuses n p; steps = 0; rows = 0; search = s } ≡ r.told) × ((motifs ≡ r.motifs) × ((supports ≡ r.supports) × (weights ≡ r.weights)))
  unfolding leg_rule
  declined e = rw (← e) (refl, (refl, (refl, refl)))

  pub accepted : {told : LegTold} {motifs' supports' weights' : List ℕ} → fine ≡ first (search_checks letters lengths s)
      → let t = stretch letters lengths s budget (room_of motifs supports weights) in
      (told ≡ told_of s t) × ((motifs' ≡ put t.motifs motifs) × ((supports' ≡ put (supports_of letters lengths s t.motifs) supports) × (weights' ≡ put (weights_of letters lengths s t.motifs) weights)))
      → let r = leg_rule letters lengths s budget motifs supports weights in
      (told ≡ r.told) × ((motifs' ≡ r.motifs) × ((supports' ≡ r.supports) × (weights' ≡ r.weights)))
  unfolding leg_rule
  accepted e h = rw (← e) h

  -- where the search has ended, its stretch is no step: it tells that, and the tables are as they were
  pub at_end : s.place.letters ≡ 0
      → let t = stretch letters lengths s budget (room_of motifs supports weights) in
      (record { answer = gives Ended; steps = 0; rows = 0; search = moved s s.place } ≡ told_of s t)
      × ((motifs ≡ put t.motifs motifs) × ((supports ≡ put (supports_of letters lengths s t.motifs) supports) × (weights ≡ put (weights_of letters lengths s t.motifs) weights)))
  unfolding stretch supports_of weights_of put
  at_end h = rw (leg_ended (walk_of letters lengths s) budget (room_of motifs supports weights) s.place h) (refl, (refl, (refl, refl)))
