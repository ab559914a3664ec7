-- THE STEPS of a search are its candidates, in the papers' words: prefixes of 1 to K letters that are allowed, whose prefix one letter
-- shorter is frequent. What the walk tests of a place is that sentence; and it passes through each once, since all that stands under a
-- prefix begins with it, and nothing begins with two of one length.
use mathlib.Core.Path.{◌≡◌, refl, sym, ◌∙◌}
use mathlib.Core.Logic.Iff
use mathlib.Core.Logic.{◌↔◌, inl, inr, ⊎_elim}
use mathlib.Core.Bool.{Bool, true, false, false≢true}
use mathlib.Core.List.Memᴰ
use mathlib.Core.List.{List, [], ◌∷◌, ◌++◌, Memᴰ}
use Prim.Native.Nat.{ℕ, zero, suc, ◌-◌, ◌*◌, ◌/◌, ◌^◌, ◌≤◌}
use native.Mathlib.Nat.{pow-zero, pow-suc, div-one, div-div-eq-div-mul}
use native.Mathlib.Omega.{arith}
use lib.Dec.{ltb}
use lib.ListN.{length}
use borrow.Author.Tests.{leb-true, le-leb, lt-ltb}
use Rattle.rules.specs.Lists.{if, each}
use Rattle.rules.specs.Order.{Rising, Once}
use Rattle.rules.specs.Profile.{profile_of, base_of}
use Rattle.rules.specs.Refused.{Frequent, CandidateIn}
use Rattle.rules.specs.Relay.{whole_steps}
use Rattle.rules.specs.Sound.{SoundTemplate}
use Rattle.rules.specs.Support.{allowed_in, frequent, reaches}
use Rattle.rules.specs.Walk.{Walk, Lawful, place, walk_in, walk_over, children, under, from, start, spelled, candidate, Candidate}
use Rattle.rules.specs.declared.Place.{Place}
use Rattle.rules.specs.declared.Template.{Template}
use Rattle.rules.proofs.Candidates.{all_candidates, only_candidates}
use Rattle.rules.proofs.EachKind.{kind_proper, frequent_support}
use Rattle.rules.proofs.Members.{each_out, keep_run_out}
use Rattle.rules.proofs.OccurrenceOrder.{keep_run_rising}
use Rattle.rules.proofs.Profiles.{spelled_in}
use Rattle.rules.proofs.Searches.{walk_lawful}
use Rattle.rules.proofs.Spells.{valid_says}
use Rattle.rules.proofs.Step.{block, whole}
use Rattle.rules.proofs.Tests.{both}
use Rattle.rules.proofs.Whole.{tried}

module _ (t : Template) (quorum : ℕ) (ss : List (List ℕ)) where
  -- a prefix is frequent by its support, and the empty one always
  frequent_says : (j m : ℕ) → (frequent t quorum ss j m ≡ true) ↔ Frequent t quorum ss j m
  unfolding reaches
  frequent_says zero m = (λ q. inl refl, λ h. refl)
  frequent_says (suc j) m = rw (frequent_support t quorum ss (suc j) m (omega arith)) (λ h. inr (leb-true _ _ h), ⊎_elim (λ q. absurd (omega arith)) (le-leb _ _))

  -- what the walk tests of j letters with the number m
  tests : (j m : ℕ) → (candidate (walk_over t quorum ss) j m ≡ true) ↔ ((1 ≤ j) × (allowed_in (profile_of t) t j m ≡ true) × Frequent t quorum ss (j - 1) (m / base_of t))
  unfolding candidate walk_in spelled
  tests zero m = (λ e. absurd (false≢true e), λ h. absurd (omega (arith, h.0)))
  tests (suc j) m =
      let z : suc j - 1 ≡ j = omega arith in
      let whole = spelled_in (profile_of t) (kind_proper t.profile) t quorum ss j m in
      let may = allowed_in (profile_of t) t (suc j) m in
      let before = spelled (walk_over t quorum ss) j (m / base_of t) in
      rw z (
        λ e. let r = (both may _).0 e in (omega arith, r.0, (frequent_says j (m / base_of t)).0 ((both before _).0 r.1).1),
        λ h. (both may _).1 (h.1, (both before _).1 (((both may before).0 (whole ∙ h.1)).1, (frequent_says j (m / base_of t)).1 h.2)),
      )

  -- a place is a candidate of the walk exactly if it is one of the search
  pub candidate_in : (p : Place) → Candidate (walk_over t quorum ss) p ↔ CandidateIn t quorum ss p
  unfolding walk_in
  candidate_in p =
      let v = valid_says t p.letters p.number in (
        λ c. let r = (tests p.letters p.number).0 c.is in
            record { some = r.0; most = c.most; spells = v.0 ((both _ _).1 (lt-ltb _ _ c.below, r.1)); shorter = r.2 },
        λ c. record { most = c.most; below = c.spells.below; is = (tests p.letters p.number).1 (c.some, ((both (ltb p.number _) _).0 (v.1 c.spells)).1, c.shorter) },
      )

  -- the search passes through exactly these
  pub passes_candidates : SoundTemplate t → (p : Place) → Memᴰ p (from (walk_over t quorum ss) (start (walk_over t quorum ss))) ↔ CandidateIn t quorum ss p
  passes_candidates o p =
      let W = walk_over t quorum ss in
      let L = walk_lawful t quorum ss o in
      Iff.trans (only_candidates W L p, all_candidates W L p) (candidate_in p)

  -- so many as it counts
  pub passes_counted : SoundTemplate t → length (from (walk_over t quorum ss) (start (walk_over t quorum ss))) ≡ whole_steps t quorum ss
  unfolding whole_steps walk_in
  passes_counted o = tried (walk_over t quorum ss) (walk_lawful t quorum ss o)

-- ---- each once

once_append : (ps qs : List Place) → Once ps → Once qs → ((p : Place) → Memᴰ p ps → Memᴰ p qs → ⊥) → Once (ps ++ qs)
once_append [] qs a b h = b
once_append (p ∷ ps) qs a b h = (λ m. ⊎_elim a.0 (h p (Memᴰ.head refl)) (Memᴰ.append_cases ps m), once_append ps qs a.1 b (λ q m. h q (Memᴰ.tail m)))

once_each : (f : ℕ → List Place) → ((x : ℕ) → Once (f x)) → ((x y : ℕ) (p : Place) → Memᴰ p (f x) → Memᴰ p (f y) → x ≡ y) → (xs : List ℕ) → Rising xs → Once (each f xs)
unfolding each
once_each f o h [] rise = tt
once_each f o h (x ∷ xs) rise =
    once_append (f x) (each f xs) (o x) (once_each f o h xs rise.1) (λ p m n. let k = each_out f xs n in omega (arith, h x k.0 p m k.2, rise.0 k.0 k.1))

module _ (W : Walk) where
  open W use {base, may, good, depth}

  -- a place begins with (i, n)
  abbrev Begins : ℕ → ℕ → Place → Type 0
  Begins i n p = (i ≤ p.letters) × (p.number / base ^ (p.letters - i) ≡ n)

  begins_self : (i n : ℕ) (p : Place) → p ≡ place i n → Begins i n p
  begins_self i n p e = let z : i - i ≡ 0 = omega arith in rw e (omega arith, rw (z, pow-zero, div-one))

  -- and so with the prefix of that
  begins_less : (i n c : ℕ) (p : Place) → c / base ≡ n → Begins (suc i) c p → Begins i n p
  begins_less i n c p q b =
      let z : p.letters - i ≡ suc (p.letters - suc i) = omega (arith, b.0) in
      (omega (arith, b.0), rw (z, pow-suc, ← (div-div-eq-div-mul p.number (base ^ (p.letters - suc i)) base), b.1) q)

  -- what stands under (i, n) begins with it
  under_begins : (d i n : ℕ) (p : Place) → Memᴰ p (under W d i n) → Begins i n p
  unfolding under children
  under_begins zero i n p m = begins_self i n p (Memᴰ.eq_of_singleton m)
  under_begins (suc d) i n p m = ⊎_elim (begins_self i n p) (go (good i n) (λ c. under_begins d (suc i) c p)) (Memᴰ.cases_cons m)
    where
      go : (b : Bool) → ((c : ℕ) → Memᴰ p (under W d (suc i) c) → Begins (suc i) c p) → Memᴰ p (if b (each (under W d (suc i)) (children W i n)) []) → Begins i n p
      go true ih m =
          let k = each_out (under W d (suc i)) (children W i n) m in
          let o = keep_run_out (may (suc i)) (n * base) base k.0 k.1 in
          begins_less i n k.0 p (block base n k.0 o.0 o.1) (ih k.0 k.2)
      go false ih m = absurd (Memᴰ.not-nil m)

  once_under : (d i n : ℕ) → Once (under W d i n)
  unfolding under children
  once_under zero i n = (Memᴰ.not-nil, tt)
  once_under (suc d) i n = go (good i n) (once_under d (suc i))
    where
      go : (b : Bool) → ((x : ℕ) → Once (under W d (suc i) x)) → Once (place i n ∷ if b (each (under W d (suc i)) (children W i n)) [])
      go true ih = (
        λ m. let k = each_out (under W d (suc i)) (children W i n) m in omega (arith, (under_begins d (suc i) k.0 (place i n) k.2).0),
        once_each (under W d (suc i)) ih (λ x y p a b. sym (under_begins d (suc i) x p a).1 ∙ (under_begins d (suc i) y p b).1) (children W i n) (keep_run_rising (may (suc i)) (n * base) base),
      )
      go false ih = (Memᴰ.not-nil, tt)

  -- so the search passes through each place once
  pub passes_once : Lawful W → Once (from W (start W))
  passes_once L = (rw (whole W L.pos L.lettered L.root) at (once_under depth 0 0)).1
