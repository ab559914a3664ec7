-- One round of a leg's loop over a search that the checks accept: what holds before it, and how each way through it goes on.
use Rattle.std.specs.Prelude.{Ok}
use mathlib.Core.Path.{◌≡◌, refl, sym, ap, ◌∙◌}
use mathlib.Core.Bool.{Bool, true, false, ◌&&◌, false≢true}
use mathlib.Core.List.{List, map}
use Prim.Native.Nat.{ℕ, ◌+◌, ◌^◌, ◌≤◌, ◌<◌}
use native.Mathlib.Decide.{dec_lt}
use native.Mathlib.Omega.{arith}
use lib.ListN.{length, set, drop, length-append, length-drop, length-map}
use borrow.Author.Tests.{eqb-true, eqb-false, leb-true, ltb-true, lt-leb}
use lib.Dec.{eqb, leb, ltb}
use Rattle.rules.specs.Calls.{moved, motif_parts, stretch, supports_of, weights_of}
use Rattle.rules.specs.Legs.{leg}
use Rattle.rules.specs.declared.Stop.{Stop}
use Rattle.rules.specs.Lists.{put}
use Rattle.rules.specs.Profile.{base_of}
use Rattle.rules.specs.Saved.{meets_place_rule}
use Rattle.rules.specs.Sequences.{sequences}
use Rattle.rules.specs.Support.{support, weight, frequent, parts, valid}
use Rattle.rules.specs.Template.{size}
use Rattle.rules.specs.Told.{told_leg}
use Rattle.rules.specs.Walk.{walk_in, next, motif, walk_of, Candidate, Passing}
use Rattle.rules.specs.declared.Leg.{Leg}
use Rattle.rules.specs.declared.Place.{Place}
use Rattle.rules.specs.declared.Search.{Search}
use Rattle.rules.proofs.EachKind.{frequent_support}
use Rattle.rules.proofs.Passing.{candidate_here, passing_next}
use Rattle.rules.proofs.Places.{sound_passing, passing_rule}
use Rattle.rules.proofs.Searches.{walk_lawful}
use Rattle.rules.proofs.Sound.{SoundSearch}
use Rattle.rules.proofs.Tests.{both}
use Rattle.legs.proofs.Follow.{Following, follow_start, follow_passes, follow_lists}
use Rattle.legs.specs.Kind.{walk_by}
use Rattle.legs.specs.AcceptedLeg.{room_of, told_of}

put_length : (xs table : List ℕ) → length xs ≤ length table → length (put xs table) ≡ length table
unfolding put
put_length xs table h = omega (arith, length-append xs (drop (length xs) table), length-drop (length xs) table)

module _ (letters lengths : List ℕ) (s : Search) (o : SoundSearch letters lengths s) (budget room : ℕ) (motifs₀ supports₀ weights₀ : List ℕ) where
  -- what holds whenever the loop's test is reached
  pub record Running (motifs supports weights : List ℕ) (steps rows : ℕ) (p : Place) : Type 0 where
    pub follow : Following (walk_of letters lengths s) budget room s.place
        (λ m. support (motif_parts s m) (sequences letters lengths)) (λ m. weight (motif_parts s m) (sequences letters lengths)) motifs₀ supports₀ weights₀ motifs supports weights steps rows p
    pub passing : Passing (walk_of letters lengths s) p

  pub run_start : Running motifs₀ supports₀ weights₀ 0 0 s.place
  run_start = record { follow = follow_start _ budget room s.place _ _ motifs₀ supports₀ weights₀; passing = sound_passing letters lengths s o }

  module _ {motifs supports weights : List ℕ} {steps rows : ℕ} {p : Place} (r : Running motifs supports weights steps rows p) where
    here : 1 ≤ p.letters → Candidate (walk_of letters lengths s) p
    here h = candidate_here (walk_of letters lengths s) p r.passing h

    -- its letters are at most K, and are allowed
    ruled : (leb p.letters (size s.template) ≡ true) × (valid s.template p.letters p.number ≡ true)
    unfolding meets_place_rule
    ruled = (both _ _).0 (passing_rule s.template s.quorum (sequences letters lengths) o.template p r.passing)

    pub run_depth : p.letters ≤ size s.template
    run_depth = leb-true p.letters (size s.template) ruled.0

    pub run_valid : valid s.template p.letters p.number ≡ true
    run_valid = ruled.1

    pub run_below : p.number < base_of s.template ^ p.letters
    run_below = ltb-true p.number _ ((both (ltb p.number (base_of s.template ^ p.letters)) _).0 run_valid).0

    module _ (h : 1 ≤ p.letters) (l : steps < budget) {q : Place} (e : next (walk_of letters lengths s) p ≡ q) where
      then_passing : Passing (walk_of letters lengths s) q
      then_passing =
          let t = s.template in let n = s.quorum in let ss = sequences letters lengths in
          rw (← e) (passing_next (walk_of letters lengths s) (walk_lawful t n ss o.template) p (here h))

      pub run_passes : motif (walk_of letters lengths s) p ≡ false → Running motifs supports weights (steps + 1) rows q
      run_passes m = record { follow = follow_passes _ _ _ _ _ _ _ _ _ r.follow h l e m; passing = then_passing }

      pub run_lists : {motifs' supports' weights' : List ℕ} → motif (walk_of letters lengths s) p ≡ true → rows < room
          → rows < length motifs₀ → rows < length supports₀ → rows < length weights₀
          → motifs' ≡ set motifs rows p.number → supports' ≡ set supports rows (support (motif_parts s p.number) (sequences letters lengths)) → weights' ≡ set weights rows (weight (motif_parts s p.number) (sequences letters lengths))
          → Running motifs' supports' weights' (steps + 1) (rows + 1) q
      run_lists m k lm ls lw em es ew = record { follow = follow_lists _ _ _ _ _ _ _ _ _ r.follow h l e m k lm ls lw em es ew; passing = then_passing }

      -- a candidate that is a motif: its row has its number, its support and its weighted support
      pub run_listed : {motifs' supports' weights' : List ℕ} {found : ℕ} → motif (walk_of letters lengths s) p ≡ true → (rows ≡ room → ⊥)
          → room ≤ length motifs₀ → room ≤ length supports₀ → room ≤ length weights₀
          → found ≡ support (parts s.template p.letters p.number) (sequences letters lengths)
          → motifs' ≡ set motifs rows p.number → supports' ≡ set supports rows found → weights' ≡ set weights rows (weight (motif_parts s p.number) (sequences letters lengths))
          → Running motifs' supports' weights' (steps + 1) (rows + 1) q
      unfolding motif walk_in
      run_listed m free lm ls lw f em es ew =
          let u : rows < room = omega (arith, r.follow.rows, free) in
          let d : p.letters ≡ size s.template = eqb-true _ _ ((both _ _).0 m).0 in
          run_lists m u (omega arith) (omega arith) (omega arith) em (rw (rw d at f) at es) ew

    -- the tables keep their lengths
    pub run_lengths : room ≡ room_of motifs₀ supports₀ weights₀ → (length motifs ≡ length motifs₀) × (length supports ≡ length supports₀) × (length weights ≡ length weights₀)
    run_lengths d =
        let f = r.follow in (
          ap length f.motifs_hold ∙ put_length f.listed motifs₀ (omega (arith, f.counted, f.rows)),
          ap length f.supports_hold ∙ put_length (map _ f.listed) supports₀ (omega (arith, f.counted, f.rows, length-map f.listed (λ m. support (motif_parts s m) (sequences letters lengths)))),
          ap length f.weights_hold ∙ put_length (map _ f.listed) weights₀ (omega (arith, f.counted, f.rows, length-map f.listed (λ m. weight (motif_parts s m) (sequences letters lengths)))),
        )

    -- where the leg stops, what it answers and what its tables hold
    pub run_done : {l : Leg} (stop : Stop) → leg (walk_of letters lengths s) budget room s.place ≡ record { stop = stop; steps = steps; motifs = r.follow.listed; at = p }
        → l ≡ record { answer = Ok stop; steps = steps; rows = rows; search = moved s p } → room ≡ room_of motifs₀ supports₀ weights₀
        → let t = stretch letters lengths s budget (room_of motifs₀ supports₀ weights₀) in
        (told_leg l ≡ told_of s t) × ((motifs ≡ put t.motifs motifs₀) × ((supports ≡ put (supports_of letters lengths s t.motifs) supports₀) × (weights ≡ put (weights_of letters lengths s t.motifs) weights₀)))
    unfolding stretch supports_of weights_of
    run_done stop e f d =
        let f' = r.follow in
        rw (← d, e) (rw (f, f'.counted) refl, (f'.motifs_hold, (f'.supports_hold, f'.weights_hold)))

-- a candidate is a listed motif by its letters and by whether it is frequent
pub motif_is : (letters lengths : List ℕ) (s : Search) (p : Place) (depth : ℕ) (good hit : Bool) → depth ≡ size s.template → good ≡ frequent s.template s.quorum (sequences letters lengths) p.letters p.number
    → hit ≡ (eqb p.letters depth && good) → motif (walk_of letters lengths s) p ≡ hit
unfolding motif walk_in
motif_is letters lengths s p depth good hit d g e = rw (← d, ← g) (sym e)

-- the walk is that of its kind of search
pub walk_kind : (letters lengths : List ℕ) (s : Search) (depth : ℕ) → depth ≡ size s.template → walk_by s.template (frequent s.template s.quorum (sequences letters lengths)) depth ≡ walk_of letters lengths s
unfolding walk_in
walk_kind letters lengths s depth d = rw d

-- where the loop goes on to
pub next_is : (letters lengths : List ℕ) (s : Search) (depth : ℕ) (p : Place) {q : Place} → depth ≡ size s.template
    → next (walk_by s.template (frequent s.template s.quorum (sequences letters lengths)) depth) p ≡ q → next (walk_of letters lengths s) p ≡ q
next_is letters lengths s depth p d e = rw (walk_kind letters lengths s depth d) at e

-- a candidate is frequent if its support reaches the quorum: what was found is at least that, and is that where it reaches the quorum
reach_same : (quorum : ℕ) {found n : ℕ} → n ≤ found → (quorum ≤ found → found ≡ n) → leb quorum found ≡ leb quorum n
reach_same quorum {found} {n} l e =
    elim (dec_lt found quorum) [
      | yes u ↦ lt-leb quorum found u ∙ sym (lt-leb quorum n (omega arith))
      | no u ↦ ap (leb quorum) (e (omega arith))
    ]

pub frequent_is : (letters lengths : List ℕ) (s : Search) (p : Place) {found : ℕ} {good : Bool} → 1 ≤ p.letters
    → support (parts s.template p.letters p.number) (sequences letters lengths) ≤ found
    → (s.quorum ≤ found → found ≡ support (parts s.template p.letters p.number) (sequences letters lengths))
    → good ≡ leb s.quorum found → good ≡ frequent s.template s.quorum (sequences letters lengths) p.letters p.number
frequent_is letters lengths s p h l f g =
    g ∙ reach_same s.quorum l f ∙ sym (frequent_support s.template s.quorum (sequences letters lengths) p.letters p.number h)

-- a listed candidate reaches it, and so does each that is frequent
pub hit_reaches : (a : Bool) {hit good : Bool} (quorum found : ℕ) → hit ≡ (a && good) → good ≡ leb quorum found → hit ≡ true → quorum ≤ found
hit_reaches a {good = good} quorum found e g h = leb-true quorum found (sym g ∙ ((both a good).0 (sym e ∙ h)).1)

pub good_reaches : {good : Bool} (quorum found : ℕ) → good ≡ leb quorum found → good ≡ true → quorum ≤ found
good_reaches quorum found g h = leb-true quorum found (sym g ∙ h)

-- a motif that is not one too many has a row
pub row_free : (hit : Bool) (rows room : ℕ) → hit && eqb rows room ≡ false → hit ≡ true → rows ≡ room → ⊥
row_free true rows room e h = eqb-false rows room e
row_free false rows room e h = absurd (false≢true h)
