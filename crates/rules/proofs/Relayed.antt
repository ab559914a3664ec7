-- Legs with a save and a restore between them are legs laid end to end: what a leg leaves can be saved if there is room, and
-- the save restores to it. So the laws of `Relay` hold of them.
use mathlib.Core.Path.{◌≡◌, refl, sym, ap, ◌∙◌}
use mathlib.Core.Bool.{Bool, true, false}
use mathlib.Core.List.{List, [], ◌∷◌, ◌++◌, map, map-append}
use Prim.Native.Nat.{ℕ, min}
use native.Mathlib.Omega.{arith}
use lib.ListN.{length, take, length-map}
use Rattle.rules.specs.Calls.{LegRule, moved, stretch, supports_of, weights_of, leg_rule, Written, written_unless, save_rule}
use Rattle.rules.specs.Legs.{is_ended, Stretch, on, Grant, grant, leg, legs, Passed}
use Rattle.rules.specs.declared.Stop.{Stop}
use Rattle.rules.specs.declared.Stop.TheVariants.{Ended, Spent, Full}
use Rattle.rules.specs.Lists.{if}
use Rattle.rules.specs.Refusals.{first, search_checks, save_checks}
use Rattle.rules.specs.Relay.{Lent, Roomy, Relayed, alone, followed, go_on, restored, then_more, relay}
use Rattle.rules.specs.Saved.{bytes}
use Rattle.rules.specs.Sequences.{sequences}
use Rattle.rules.specs.Template.{trimmed}
use Rattle.rules.specs.Told.{Verdict, fine, refused, Told, gives}
use Rattle.rules.specs.Walk.{Walk, walk_of, from, listed, Passing}
use Rattle.rules.specs.declared.Place.{Place}
use Rattle.rules.specs.declared.Search.{Search}
use Rattle.rules.specs.declared.Template.{Template}
use Rattle.rules.proofs.Legs.{leg_law}
use Rattle.rules.proofs.Passing.{passing_leg}
use Rattle.rules.proofs.Places.{sound_passing, moved_sound, place_deep}
use Rattle.rules.proofs.Searches.{walk_lawful}
use Rattle.rules.proofs.Records.{bytes_counted}
use Rattle.rules.proofs.Saves.{restore_saved}
use Rattle.rules.proofs.Sound.{SoundSearch, search_sound, search_fine, save_fine}
use Rattle.rules.proofs.Tables.{put_front}
use Rattle.rules.proofs.Trimmed.{trimmed_same}
use Rattle.rules.proofs.Verdicts.{never}

-- what a leg may use of what it is lent
abbrev pub granted : Lent → Grant
granted g = grant g.budget (min (length g.motifs) (min (length g.supports) (length g.weights)))

-- a stretch of the walk with its rows' supports and weights
abbrev pub rows_of : List ℕ → List ℕ → Search → Stretch → Relayed
rows_of letters lengths s l =
    record {
      answer = gives l.stop;
      steps = l.steps;
      motifs = l.motifs;
      supports = supports_of letters lengths s l.motifs;
      weights = weights_of letters lengths s l.motifs;
    }

-- what follows a leg that stopped and was not refused
after_stop : (a : Told Stop) (st : Stop) (k m : Relayed) → a ≡ gives st → then_more a k m ≡ if (is_ended st) k (followed k m)
after_stop a Ended k m e = rw e
after_stop a Spent k m e = rw e
after_stop a Full k m e = rw e

-- no save on the way is refused: if one were, the last answer would be its refusal, and some buffer would have no room
abbrev pub Unrefused : Template → List Lent → Relayed → Type 0
Unrefused t gs r = ((a : Stop) → r.answer ≡ gives a → ⊥) → (Roomy t gs → ⊥) → ⊥

module _ (letters lengths : List ℕ) where
  -- what an accepted leg comes to
  leg_alone : (s : Search) (g : Lent) → first (search_checks letters lengths s) ≡ fine
      → alone (leg_rule letters lengths s g.budget g.motifs g.supports g.weights)
      ≡ rows_of letters lengths s (leg (walk_of letters lengths s) (granted g).budget (granted g).room s.place)
  unfolding leg_rule stretch supports_of weights_of
  leg_alone s g e =
      let l = leg (walk_of letters lengths s) (granted g).budget (granted g).room s.place in
      rw (
        e,
        put_front (length l.motifs) l.motifs g.motifs refl,
        put_front (length l.motifs) (supports_of letters lengths s l.motifs) g.supports (length-map l.motifs _),
        put_front (length l.motifs) (weights_of letters lengths s l.motifs) g.weights (length-map l.motifs _),
      )
      refl

  -- where a leg leaves a search
  leg_leaves : (s : Search) (g : Lent) → first (search_checks letters lengths s) ≡ fine
      → ((leg_rule letters lengths s g.budget g.motifs g.supports g.weights).told.search
      ≡ moved s (leg (walk_of letters lengths s) (granted g).budget (granted g).room s.place).at)
  unfolding leg_rule stretch
  leg_leaves s g e = rw e

  pub leg_answers : (s : Search) (g : Lent) → first (search_checks letters lengths s) ≡ fine
      → ((leg_rule letters lengths s g.budget g.motifs g.supports g.weights).told.answer
      ≡ gives (leg (walk_of letters lengths s) (granted g).budget (granted g).room s.place).stop)
  unfolding leg_rule stretch
  leg_answers s g e = rw e

  -- what it passes lies between its two places
  pub leg_between : (s : Search) (budget : ℕ) (motifs supports weights : List ℕ) → first (search_checks letters lengths s) ≡ fine
      → let l = leg_rule letters lengths s budget motifs supports weights in let W = walk_of letters lengths s in
      (taken : List Place) × (from W s.place ≡ taken ++ from W l.told.search.place) × (l.told.steps ≡ length taken) × (take l.told.rows l.motifs ≡ listed W taken)
  unfolding leg_rule stretch
  leg_between s budget motifs supports weights e =
      let W : Walk = walk_of letters lengths s in
      let room : ℕ = min (length motifs) (min (length supports) (length weights)) in
      let o : SoundSearch letters lengths s = search_sound letters lengths s e in
      let r : Passed W s.place (leg W budget room s.place) = leg_law W (walk_lawful s.template s.quorum (sequences letters lengths) o.template).pos budget room s.place (place_deep letters lengths s o) in
      rw e (r.taken, r.split, r.counts, put_front (length (leg W budget room s.place).motifs) (leg W budget room s.place).motifs motifs refl ∙ r.lists)

  -- a leg leads from a place that the search passes through to another
  pub leg_passing : (s : Search) → SoundSearch letters lengths s → (b r : ℕ) (p : Place) → Passing (walk_of letters lengths s) p → Passing (walk_of letters lengths s) (leg (walk_of letters lengths s) b r p).at
  leg_passing s o = passing_leg (walk_of letters lengths s) (walk_lawful s.template s.quorum (sequences letters lengths) o.template)

  -- goes on with what a save wrote
  abbrev resumed : Written ℕ → (Search → Relayed) → Relayed
  resumed w f = go_on (restored letters lengths w.told w.out) f

  -- what goes on is the search that was saved, unless the save is refused
  saved_resumes : (s : Search) (g : Lent) (f : Search → Relayed) → SoundSearch letters lengths s → trimmed s.template ≡ s.template
      → let more = resumed (save_rule letters lengths s g.buffer) f in Unrefused s.template (g ∷ []) more → more ≡ f s
  unfolding save_rule
  saved_resumes s g f o t = go (first (save_checks letters lengths s g.buffer)) refl
    where
      go : (v : Verdict) → first (save_checks letters lengths s g.buffer) ≡ v
          → let more = resumed (written_unless v (length (bytes s)) (bytes s) g.buffer) f in Unrefused s.template (g ∷ []) more → more ≡ f s
      go fine e h = rw (put_front (length (bytes s)) (bytes s) g.buffer refl, restore_saved letters lengths s (search_fine letters lengths s o), trimmed_same s t)
      go (refused n p) e h =
          absurd (h (λ a z. let c : ◌≡◌ {A = ℕ} 0 1 = cc in omega arith) (λ k. never n p (sym e ∙ save_fine letters lengths s g.buffer o (omega (arith, k.0, bytes_counted s o.template.few)))))

  -- one stretch after another, with their rows
  rows_on : (s : Search) (k l : Stretch) → followed (rows_of letters lengths s k) (rows_of letters lengths s l) ≡ rows_of letters lengths s (on k l)
  unfolding supports_of weights_of
  rows_on s k l = rw (map-append _ k.motifs l.motifs, map-append _ k.motifs l.motifs)

  -- legs with saves and restores between them are legs laid end to end, unless a save is refused
  pub relay_legs : (gs : List Lent) (s : Search) → SoundSearch letters lengths s → trimmed s.template ≡ s.template → Unrefused s.template gs (relay letters lengths gs s)
      → relay letters lengths gs s ≡ rows_of letters lengths s (legs (walk_of letters lengths s) (map granted gs) s.place)
  unfolding relay legs supports_of weights_of
  relay_legs [] s o t h = refl
  relay_legs (g ∷ gs) s o t h =
      let w = after_stop r.told.answer l.stop (alone r) more (leg_answers s g e) in
      w ∙ go (is_ended l.stop) (rw w at h) (relay_legs gs (moved s l.at) left t)
    where
      l : Stretch
      l = leg (walk_of letters lengths s) (granted g).budget (granted g).room s.place

      r : LegRule
      r = leg_rule letters lengths s g.budget g.motifs g.supports g.weights

      e : first (search_checks letters lengths s) ≡ fine
      e = search_fine letters lengths s o

      left : SoundSearch letters lengths (moved s l.at)
      left = moved_sound letters lengths s o l.at (leg_passing s o (granted g).budget (granted g).room s.place (sound_passing letters lengths s o))

      x : Stretch
      x = legs (walk_of letters lengths s) (map granted gs) l.at

      more : Relayed
      more = resumed (save_rule letters lengths r.told.search g.buffer) (relay letters lengths gs)

      rest : Relayed
      rest = relay letters lengths gs (moved s l.at)

      more_is : Unrefused s.template (g ∷ gs) more → more ≡ rest
      more_is h = rw (leg_leaves s g e) (saved_resumes (moved s l.at) g (relay letters lengths gs) left t (λ u k. h (rw (leg_leaves s g e) u) (λ m. k (m.0, tt))))

      -- what is left after the leg
      goes_on : Unrefused s.template (g ∷ gs) more → (Unrefused s.template gs rest → rest ≡ rows_of letters lengths s x) → followed (alone r) more ≡ rows_of letters lengths s (on l x)
      goes_on h ih =
          let q = more_is h in
          ap (λ k. followed k more) (leg_alone s g e)
          ∙ ap (followed (rows_of letters lengths s l)) (q ∙ ih (λ u k. h (rw q u) (λ m. k m.1)))
          ∙ rows_on s l x

      go : (b : Bool) → let k = if b (alone r) (followed (alone r) more) in Unrefused s.template (g ∷ gs) k → (Unrefused s.template gs rest → rest ≡ rows_of letters lengths s x)
          → k ≡ rows_of letters lengths s (if b l (on l x))
      go true h ih = leg_alone s g e
      go false h ih = goes_on h ih
