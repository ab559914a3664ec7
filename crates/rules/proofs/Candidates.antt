-- A search examines exactly the candidates.
use mathlib.Core.Path.{◌≡◌, refl, sym, ap, ◌∙◌, subst}
use mathlib.Core.Logic.{◌⊎◌, inl, inr}
use mathlib.Core.Bool.{Bool, true, false, ◌&&◌, false≢true}
use mathlib.Core.List.Memᴰ
use mathlib.Core.List.{List, [], ◌∷◌, ◌++◌, Memᴰ, head-eq_of_cons-eq, tail-eq_of_cons-eq, nil≢cons}
use Prim.Native.Nat.{ℕ, zero, suc, ◌+◌, ◌*◌, ◌/◌, ◌^◌, ◌≤◌, ◌<◌}
use native.Mathlib.Nat.{div-add-mod', mod-lt, pow-zero, pow-suc, mul-le-mul_right, div-lt_iff_lt-mul}
use native.Mathlib.Omega.{arith}
use Rattle.rules.specs.Lists.{run, if, keep, each}
use Rattle.rules.specs.Walk.{Walk, Lawful, place, first_place, choose, children, under, from, next, start, spelled, candidate, Candidate}
use Rattle.rules.specs.declared.Place.{Place}
use Rattle.rules.proofs.Tests.{both}
use Rattle.rules.proofs.Step.{block, whole, step_at, at_end}
use Rattle.rules.proofs.Legs.{next_size, start_size}
use Rattle.rules.proofs.Members.{each_in, each_out, keep_run_in, keep_run_out}

module _ (W : Walk) (L : Lawful W) where
  open W use {base, may, good, depth}

  -- a search starts at A, which is a candidate
  pub start_first : start W ≡ first_place
  unfolding start children keep run
  start_first = go base L.pos
    where
      go : (n : ℕ) → 1 ≤ n → choose (place 0 0) 1 (keep (may 1) (run (0 * base) n)) ≡ place 1 0
      go zero h = absurd (omega arith)
      go (suc n) h = let q : 0 * base ≡ 0 = omega arith in rw (q, L.first)

  pub first_candidate : Candidate W first_place
  unfolding candidate spelled
  first_candidate =
      let q : 0 / base ≡ 0 = block base 0 0 (omega arith) (omega (arith, L.pos)) in
      record { most = L.lettered; below = rw (pow-suc, pow-zero) (omega (arith, L.pos)); is = rw (L.first, q, L.root) }

  -- the letters of a candidate may stand there
  pub candidate_may : (p : Place) → Candidate W p → may p.letters p.number ≡ true
  unfolding candidate
  candidate_may p c = go p.letters c.is
    where
      go : (j : ℕ) → candidate W j p.number ≡ true → may j p.number ≡ true
      go zero e = absurd (false≢true e)
      go (suc j) e = ((both (may (suc j) p.number) _).0 e).0

  self_in : (d j m : ℕ) → Memᴰ (place j m) (under W d j m)
  unfolding under
  self_in zero j m = Memᴰ.head refl
  self_in (suc d) j m = Memᴰ.head refl

  -- with a good prefix shorter than d + i letters its children are there too
  child : (d i n j m c : ℕ) → Memᴰ (place j m) (under W d i n) → good j m ≡ true → j < d + i → Memᴰ c (children W j m) → Memᴰ (place (suc j) c) (under W d i n)
  unfolding under
  child zero i n j m c h g l k = absurd (omega (arith, ap (λ (p : Place). p.letters) (Memᴰ.eq_of_singleton h)))
  child (suc d) i n j m c h g l k = go (good i n) refl (Memᴰ.cases_cons h) (λ y h. child d (suc i) y j m c h g (omega arith) k)
    where
      go : (b : Bool) → good i n ≡ b → (place j m ≡ place i n) ⊎ Memᴰ (place j m) (if b (each (under W d (suc i)) (children W i n)) [])
          → ((y : ℕ) → Memᴰ (place j m) (under W d (suc i) y) → Memᴰ (place (suc j) c) (under W d (suc i) y))
          → Memᴰ (place (suc j) c) (place i n ∷ if b (each (under W d (suc i)) (children W i n)) [])
      go true f (inl e) ih = let ei : j ≡ i = ap (λ p. p.letters) e in let em : m ≡ n = ap (λ p. p.number) e in
          Memᴰ.tail (each_in (under W d (suc i)) (children W i n) {x = c} (rw (ei, em) at k) (rw ei (self_in d (suc i) c)))
      go false f (inl e) ih = let ei : j ≡ i = ap (λ p. p.letters) e in let em : m ≡ n = ap (λ p. p.number) e in absurd (false≢true (sym f ∙ (rw (ei, em) at g)))
      go true f (inr h) ih = let o = each_out (under W d (suc i)) (children W i n) h in Memᴰ.tail (each_in (under W d (suc i)) (children W i n) o.1 (ih o.0 o.2))
      go false f (inr h) ih = absurd (Memᴰ.not-nil h)

  -- what is known of a child
  record Kid (i n c : ℕ) : Type 0 where
    of : c / base ≡ n
    under : c < base ^ suc i
    spelt : spelled W (suc i) c ≡ true

  kid : (i n c : ℕ) → spelled W i n ≡ true → n < base ^ i → Memᴰ c (children W i n) → Kid i n c
  unfolding children spelled
  kid i n c s l k =
      let o = keep_run_out (may (suc i)) (n * base) base c k in
      let q : c / base ≡ n = block base n c o.0 o.1 in
      record { of = q; under = rw pow-suc (omega (arith, o.1, mul-le-mul_right base l)); spelt = rw (o.2, q) s }

  candidate_kid : (i n c : ℕ) → suc i ≤ depth → good i n ≡ true → spelled W i n ≡ true → n < base ^ i → Memᴰ c (children W i n) → Candidate W (place (suc i) c)
  unfolding candidate spelled
  candidate_kid i n c h g s l k = let o = kid i n c s l k in let e = (both (may (suc i) c) (spelled W i (c / base))).0 o.spelt in record { most = h; below = o.under; is = rw (e.0, o.of, s) g }

  settle : (p q : Place) → Candidate W q → (p ≡ q) ⊎ Candidate W p → Candidate W p
  settle p q k (inl e) = subst (Candidate W) (sym e) k
  settle p q k (inr c) = c

  -- what stands under a prefix are candidates
  members : (d i n : ℕ) (p : Place) → d + i ≡ depth → spelled W i n ≡ true → n < base ^ i → Memᴰ p (under W d i n) → (p ≡ place i n) ⊎ Candidate W p
  unfolding under
  members zero i n p e s l h = inl (Memᴰ.eq_of_singleton h)
  members (suc d) i n p e s l h = go (good i n) refl (Memᴰ.cases_cons h) (λ c k h. members d (suc i) c p (omega arith) k.spelt k.under h)
    where
      go : (b : Bool) → good i n ≡ b → (p ≡ place i n) ⊎ Memᴰ p (if b (each (under W d (suc i)) (children W i n)) [])
          → ((c : ℕ) → Kid i n c → Memᴰ p (under W d (suc i) c) → (p ≡ place (suc i) c) ⊎ Candidate W p) → (p ≡ place i n) ⊎ Candidate W p
      go b f (inl q) ih = inl q
      go true f (inr h) ih = let o = each_out (under W d (suc i)) (children W i n) h in inr (settle p _ (candidate_kid i n o.0 (omega arith) f s l o.1) (ih o.0 (kid i n o.0 s l o.1) o.2))
      go false f (inr h) ih = absurd (Memᴰ.not-nil h)

  -- what a search from q examines later it would be left with from there
  pub reach : (l : List Place) (q p : Place) → q.letters ≤ depth → from W q ≡ l → Memᴰ p l → (taken : List Place) × (from W q ≡ taken ++ from W p)
  reach [] q p h e m = absurd (Memᴰ.not-nil m)
  reach (y ∷ l) q p h e m = go q.letters refl (Memᴰ.cases_cons m) (λ e m. reach l (next W q) p (next_size W q h) e m)
    where
      go : (n : ℕ) → q.letters ≡ n → (p ≡ y) ⊎ Memᴰ p l → (from W (next W q) ≡ l → Memᴰ p l → (taken : List Place) × (from W (next W q) ≡ taken ++ from W p)) → (taken : List Place) × (from W q ≡ taken ++ from W p)
      go zero f c ih = absurd (nil≢cons (sym (at_end W L.pos q f) ∙ e))
      go (suc n) f (inl c) ih = ([], ap (from W) (head-eq_of_cons-eq (sym (step_at W L.pos q (omega arith) h) ∙ e) ∙ sym c))
      go (suc n) f (inr c) ih = let s = step_at W L.pos q (omega arith) h in let r = ih (tail-eq_of_cons-eq (sym s ∙ e)) c in (q ∷ r.0, s ∙ ap (λ ps. q ∷ ps) r.1)

  -- the prefix one letter shorter is good
  abbrev Hope : ℕ → ℕ → Type 0
  Hope zero m = Unit {0}
  Hope (suc j) m = good j (m / base) ≡ true

  hope : (j m : ℕ) → good j m ≡ true → Hope j m
  hope zero m g = tt
  hope (suc j) m g = L.anti j m g

  visited : (j m : ℕ) → j ≤ depth → m < base ^ j → spelled W j m ≡ true → Hope j m → Memᴰ (place j m) (under W depth 0 0)
  unfolding spelled children
  visited zero m l b s g = let e : m ≡ 0 = omega (arith, pow-zero base) in rw e (self_in depth 0 0)
  visited (suc j) m l b s g =
      let e = (both (may (suc j) m) (spelled W j (m / base))).0 s in
      let b' : m / base < base ^ j = (div-lt_iff_lt-mul {x = m} {y = base ^ j} L.pos).1 (rw pow-suc at b) in
      child depth 0 0 j (m / base) m (visited j (m / base) (omega arith) b' e.1 (hope j (m / base) g)) g (omega arith)
      (keep_run_in (may (suc j)) (m / base * base) base m (omega (arith, div-add-mod' m base)) (omega (arith, div-add-mod' m base, mod-lt m {m = base} L.pos)) e.0)

  -- T6
  pub all_candidates : (p : Place) → Candidate W p → Memᴰ p (from W (start W))
  unfolding candidate spelled
  all_candidates p c = go p.letters p.number c.most c.below c.is
    where
      in_tail : (j m : ℕ) → (place (suc j) m ≡ place 0 0) ⊎ Memᴰ (place (suc j) m) (from W (start W)) → Memᴰ (place (suc j) m) (from W (start W))
      in_tail j m (inl e) = absurd (omega (arith, ap (λ (p : Place). p.letters) e))
      in_tail j m (inr h) = h

      go : (j m : ℕ) → j ≤ depth → m < base ^ j → candidate W j m ≡ true → Memᴰ (place j m) (from W (start W))
      go zero m l b e = absurd (false≢true e)
      go (suc j) m l b e = let f = (both (may (suc j) m) (spelled W j (m / base) && good j (m / base))).0 e in let g = (both (spelled W j (m / base)) (good j (m / base))).0 f.1 in
          in_tail j m (Memᴰ.cases_cons (rw (whole W L.pos L.lettered L.root) at (visited (suc j) m l b (rw f.0 g.0) g.1)))

  pub only_candidates : (p : Place) → Memᴰ p (from W (start W)) → Candidate W p
  unfolding under spelled
  only_candidates p h = go depth refl L.lettered (whole W L.pos L.lettered L.root)
    where
      go : (D : ℕ) → D ≡ depth → 1 ≤ D → under W D 0 0 ≡ place 0 0 ∷ from W (start W) → Candidate W p
      go zero e l w = absurd (omega arith)
      go (suc d) e l w =
          let o = each_out (under W d 1) (children W 0 0) (rw L.root at (subst (λ ps. Memᴰ p ps) (sym (tail-eq_of_cons-eq w)) h)) in
          let b : 0 < base ^ 0 = omega (arith, pow-zero base) in
          let k = kid 0 0 o.0 refl b o.1 in
          settle p _ (candidate_kid 0 0 o.0 L.lettered L.root refl b o.1) (members d 1 o.0 p (omega arith) k.spelt k.under o.2)

  -- T6 once more: the search passes through a candidate, and is left with what is from there on
  pub passes : (p : Place) → Candidate W p → (taken : List Place) × (from W (start W) ≡ taken ++ from W p)
  passes p c = reach (from W (start W)) (start W) p (start_size W L.lettered) refl (all_candidates p c)

  pub some : (p : Place) → Candidate W p → 1 ≤ p.letters
  unfolding candidate
  some p c = go p.letters c.is
    where
      go : (j : ℕ) → candidate W j p.number ≡ true → 1 ≤ j
      go zero e = absurd (false≢true e)
      go (suc j) e = omega arith

  -- a search that stands at a candidate goes on to another, or ends
  pub next_candidate : (p : Place) → Candidate W p → 1 ≤ (next W p).letters → Candidate W (next W p)
  next_candidate p c h =
      let r = passes p c in
      let s = step_at W L.pos (next W p) h (next_size W p c.most) in
      only_candidates (next W p) (rw (r.1, step_at W L.pos p (some p c) c.most, s) (Memᴰ.append_right r.0 (Memᴰ.tail (Memᴰ.head refl))))
