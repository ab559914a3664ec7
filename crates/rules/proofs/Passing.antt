-- The places that a search passes through: its candidates, and the ended place. A step and a leg lead from one to another.
use mathlib.Core.Path.{◌≡◌, refl, ap}
use mathlib.Core.Logic.{◌⊎◌, inl, inr}
use mathlib.Core.Bool.{Bool, true, false, ◌&&◌}
use mathlib.Core.List.Memᴰ
use mathlib.Core.List.{List, [], ◌∷◌, Memᴰ}
use Prim.Native.Nat.{ℕ, zero, suc, ◌/◌, ◌≤◌}
use native.Mathlib.Omega.{arith}
use lib.Dec.{ltb, eqb}
use borrow.Author.Tests.{eqb-false}
use Rattle.rules.specs.Lists.{if}
use Rattle.rules.specs.Walk.{Walk, Lawful, ended_place, choose, children, later, up, next, start, from, motif, Candidate, Passing}
use Rattle.rules.specs.Legs.{leg}
use Rattle.rules.specs.declared.Place.{Place}
use Rattle.rules.proofs.Candidates.{next_candidate, all_candidates, only_candidates}

module _ (W : Walk) where
  open W use {base, may, good, depth}

  choose_ended : (p : Place) (j : ℕ) (ns : List ℕ) → (p.letters ≡ 0 → p ≡ ended_place) → (choose p (suc j) ns).letters ≡ 0 → choose p (suc j) ns ≡ ended_place
  choose_ended p j [] h e = h e
  choose_ended p j (n ∷ ns) h e = absurd (omega arith)

  up_ended : (j m : ℕ) → (up W j m).letters ≡ 0 → up W j m ≡ ended_place
  unfolding up
  up_ended zero m e = refl
  up_ended (suc j) m e = choose_ended (up W j (m / base)) j (later W (suc j) m) (up_ended j (m / base)) e

  -- a step that leaves no letter ends the search
  pub next_ended : (p : Place) → (next W p).letters ≡ 0 → next W p ≡ ended_place
  unfolding next
  next_ended p = go (ltb p.letters depth && good p.letters p.number)
    where
      u : Place
      u = up W p.letters p.number

      go : (b : Bool) → (if b (choose u (suc p.letters) (children W p.letters p.number)) u).letters ≡ 0 → if b (choose u (suc p.letters) (children W p.letters p.number)) u ≡ ended_place
      go true e = choose_ended u p.letters (children W p.letters p.number) (up_ended p.letters p.number) e
      go false e = up_ended p.letters p.number e

  -- a place with letters that a search passes through is a candidate
  pub candidate_here : (p : Place) → Passing W p → 1 ≤ p.letters → Candidate W p
  candidate_here p (inl e) h = absurd (omega (arith, ap (λ (p : Place). p.letters) e))
  candidate_here p (inr c) h = c

  lettered : {n : ℕ} → eqb n 0 ≡ false → 1 ≤ n
  lettered {n} e = omega (arith, eqb-false n 0 e)

  module _ (L : Lawful W) where
    -- a step leads to a place that the search passes through
    pub passing_next : (p : Place) → Candidate W p → Passing W (next W p)
    passing_next p c = go (next W p).letters refl
      where
        go : (n : ℕ) → (next W p).letters ≡ n → Passing W (next W p)
        go zero e = inl (next_ended p e)
        go (suc n) e = inr (next_candidate W L p c (omega arith))

    -- and so does a leg
    pub passing_leg : (b r : ℕ) (p : Place) → Passing W p → Passing W (leg W b r p).at
    unfolding leg
    passing_leg zero r p c = c
    passing_leg (suc b) r p c = go (eqb p.letters 0) (motif W p) r refl refl c (λ k d. passing_leg b k (next W p) d)
      where
        go : (a m : Bool) (r : ℕ) → eqb p.letters 0 ≡ a → motif W p ≡ m → Passing W p → ((k : ℕ) → Passing W (next W p) → Passing W (leg W b k (next W p)).at) → Passing W (leg W (suc b) r p).at
        go true m r e f c ih = rw e c
        go false true zero e f c ih = rw (e, f) c
        go false true (suc r) e f c ih = rw (e, f) (ih r (passing_next p (candidate_here p c (lettered e))))
        go false false r e f c ih = rw (e, f) (ih r (passing_next p (candidate_here p c (lettered e))))

    -- what it lists on the way are the numbers of candidates that are motifs
    pub passing_lists : (b r : ℕ) (p : Place) → Passing W p → (m : ℕ) → Memᴰ m (leg W b r p).motifs → (q : Place) × Candidate W q × (motif W q ≡ true) × (m ≡ q.number)
    unfolding leg
    passing_lists zero r p c m = λ i. absurd (Memᴰ.not-nil i)
    passing_lists (suc b) r p c m = go (eqb p.letters 0) (motif W p) r refl refl (λ k d. passing_lists b k (next W p) d m)
      where
        go : (a h : Bool) (r : ℕ) → eqb p.letters 0 ≡ a → motif W p ≡ h
            → ((k : ℕ) → Passing W (next W p) → Memᴰ m (leg W b k (next W p)).motifs → (q : Place) × Candidate W q × (motif W q ≡ true) × (m ≡ q.number))
            → Memᴰ m (leg W (suc b) r p).motifs → (q : Place) × Candidate W q × (motif W q ≡ true) × (m ≡ q.number)
        go true h r e f ih i = absurd (Memᴰ.not-nil (rw e at i))
        go false true zero e f ih i = absurd (Memᴰ.not-nil (rw (e, f) at i))
        go false true (suc r) e f ih i = first_or (Memᴰ.cases_cons (rw (e, f) at i))
          where
            first_or : (m ≡ p.number) ⊎ Memᴰ m (leg W b r (next W p)).motifs → (q : Place) × Candidate W q × (motif W q ≡ true) × (m ≡ q.number)
            first_or (inl z) = (p, candidate_here p c (lettered e), f, z)
            first_or (inr z) = ih r (passing_next p (candidate_here p c (lettered e))) z
        go false false r e f ih i = ih r (passing_next p (candidate_here p c (lettered e))) (rw (e, f) at i)

    -- the places passed through are those of the walk from its start, and the ended place
    pub passing_from : (p : Place) → Passing W p → (p ≡ ended_place) ⊎ Memᴰ p (from W (start W))
    passing_from p (inl e) = inl e
    passing_from p (inr c) = inr (all_candidates W L p c)

    pub from_passing : (p : Place) → (p ≡ ended_place) ⊎ Memᴰ p (from W (start W)) → Passing W p
    from_passing p (inl e) = inl e
    from_passing p (inr m) = inr (only_candidates W L p m)
