-- What a loop that follows a leg knows, and how it goes on: the stretch of the walk is what has been passed so far and then
-- the stretch from where it stands; and each table holds its column of the rows listed so far, before what it held.
use mathlib.Core.Path.{◌≡◌, refl, sym, ap, ◌∙◌}
use mathlib.Core.Bool.{true, false}
use mathlib.Core.List.{List, [], ◌∷◌, ◌++◌, map, map-append, append-nil}
use Prim.Native.Nat.{ℕ, suc, ◌+◌, ◌-◌, ◌≤◌, ◌<◌}
use native.Mathlib.Numerals.{add-one}
use native.Mathlib.Omega.{arith}
use lib.ListN.{length, set, length-append, length-map}
use Rattle.rules.proofs.Tables.{put_more}
use Rattle.rules.specs.Legs.{Stretch, halt, then, on, leg}
use Rattle.rules.specs.declared.Stop.{Stop}
use Rattle.rules.specs.declared.Stop.TheVariants.{Ended, Spent, Full}
use Rattle.rules.specs.Lists.{put}
use Rattle.rules.specs.Walk.{Walk, next, motif}
use Rattle.rules.specs.declared.Place.{Place}
use Rattle.rules.proofs.Legs.{so_far, so_far_start, so_far_step, so_far_stop, leg_ended, leg_spent, leg_full, leg_lists, leg_passes}

module _ (W : Walk) (budget room : ℕ) (p : Place) (support weight : ℕ → ℕ) (motifs₀ supports₀ weights₀ : List ℕ) where
  -- s steps are taken, k rows listed, and q is the place
  pub record Following (motifs supports weights : List ℕ) (s k : ℕ) (q : Place) : Type 0 where
    pub listed : List ℕ
    pub same : leg W budget room p ≡ on (so_far s listed q) (leg W (budget - s) (room - k) q)
    pub steps : s ≤ budget
    pub rows : k ≤ room
    pub counted : length listed ≡ k
    pub motifs_hold : motifs ≡ put listed motifs₀
    pub supports_hold : supports ≡ put (map support listed) supports₀
    pub weights_hold : weights ≡ put (map weight listed) weights₀

  pub follow_start : Following motifs₀ supports₀ weights₀ 0 0 p
  unfolding put
  follow_start =
      record {
        listed = [];
        same = (let a : budget - 0 ≡ budget = omega arith in let b : room - 0 ≡ room = omega arith in rw (a, b) (so_far_start p (leg W budget room p)));
        steps = omega arith;
        rows = omega arith;
        counted = refl;
        motifs_hold = refl;
        supports_hold = refl;
        weights_hold = refl;
      }

  module _ {motifs supports weights : List ℕ} {s k : ℕ} {q : Place} (f : Following motifs supports weights s k q) where
    stop_with : (a : Stop) → leg W (budget - s) (room - k) q ≡ halt a q → leg W budget room p ≡ record { stop = a; steps = s; motifs = f.listed; at = q }
    stop_with a e = f.same ∙ ap (on (so_far s f.listed q)) e ∙ so_far_stop s f.listed a q

    went : (ms : List ℕ) (l : Stretch) (q' : Place) → leg W (budget - s) (room - k) q ≡ then ms l → leg W budget room p ≡ on (so_far (s + 1) (f.listed ++ ms) q') l
    went ms l q' e = f.same ∙ ap (on (so_far s f.listed q)) e ∙ so_far_step s f.listed ms q q' l ∙ rw add-one

    pub follow_ended : q.letters ≡ 0 → leg W budget room p ≡ record { stop = Ended; steps = s; motifs = f.listed; at = q }
    follow_ended h = stop_with Ended (leg_ended W (budget - s) (room - k) q h)

    pub follow_spent : 1 ≤ q.letters → s ≡ budget → leg W budget room p ≡ record { stop = Spent; steps = s; motifs = f.listed; at = q }
    follow_spent h e = stop_with Spent (let z : budget - s ≡ 0 = omega arith in rw z (leg_spent W 0 (room - k) q h))

    module _ (h : 1 ≤ q.letters) (l : s < budget) where
      left : budget - s ≡ suc (budget - (s + 1))
      left = omega arith

      pub follow_full : motif W q ≡ true → k ≡ room → leg W budget room p ≡ record { stop = Full; steps = s; motifs = f.listed; at = q }
      follow_full m e = stop_with Full (let z : room - k ≡ 0 = omega arith in rw (left, z) (leg_full W (budget - (s + 1)) 0 q h m))

      -- a candidate that is no motif
      pub follow_passes : {q' : Place} → next W q ≡ q' → motif W q ≡ false → Following motifs supports weights (s + 1) k q'
      follow_passes {q'} n m =
          let e : leg W (budget - s) (room - k) q ≡ then [] (leg W (budget - (s + 1)) (room - k) (next W q)) = rw left (leg_passes W (budget - (s + 1)) (room - k) q h m) in
          record {
            listed = f.listed;
            same = (rw (append-nil f.listed, n) at (went [] _ q' e));
            steps = omega arith;
            rows = f.rows;
            counted = f.counted;
            motifs_hold = f.motifs_hold;
            supports_hold = f.supports_hold;
            weights_hold = f.weights_hold;
          }

      -- a motif, whose row is written
      pub follow_lists : {q' : Place} {motifs' supports' weights' : List ℕ} → next W q ≡ q' → motif W q ≡ true → k < room
          → k < length motifs₀ → k < length supports₀ → k < length weights₀
          → motifs' ≡ set motifs k q.number → supports' ≡ set supports k (support q.number) → weights' ≡ set weights k (weight q.number)
          → Following motifs' supports' weights' (s + 1) (k + 1) q'
      follow_lists {q'} {motifs'} {supports'} {weights'} n m r lm ls lw em es ew =
          let d : room - k ≡ suc (room - (k + 1)) = omega arith in
          let e : leg W (budget - s) (room - k) q ≡ then (q.number ∷ []) (leg W (budget - (s + 1)) (room - (k + 1)) (next W q)) = rw (left, d) (leg_lists W (budget - (s + 1)) (room - (k + 1)) q h m) in
          record {
            listed = f.listed ++ (q.number ∷ []);
            same = (rw n at (went (q.number ∷ []) _ q' e));
            steps = omega arith;
            rows = omega arith;
            counted = rw length-append (omega (arith, f.counted));
            motifs_hold = em ∙ column motifs f.listed motifs₀ q.number f.motifs_hold f.counted lm;
            supports_hold = es ∙ column supports (map support f.listed) supports₀ (support q.number) f.supports_hold (length-map f.listed support ∙ f.counted) ls
                ∙ ap (λ l. put l supports₀) (sym (map-append support f.listed (q.number ∷ [])));
            weights_hold = ew ∙ column weights (map weight f.listed) weights₀ (weight q.number) f.weights_hold (length-map f.listed weight ∙ f.counted) lw
                ∙ ap (λ l. put l weights₀) (sym (map-append weight f.listed (q.number ∷ [])));
          }
        where
          column : (table xs table₀ : List ℕ) (v : ℕ) → table ≡ put xs table₀ → length xs ≡ k → k < length table₀ → set table k v ≡ put (xs ++ (v ∷ [])) table₀
          column table xs table₀ v a b c = rw (a, ← b) (put_more xs table₀ v (rw b c))
