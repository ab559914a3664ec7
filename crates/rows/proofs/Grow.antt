-- A prefix with one letter more: what there is for it, flags or counts, from what there is for the prefix. Inside a component that
-- is kept where the letter fits; at a component's first letter the gap before it is opened first; at the very first there is one way
-- everywhere.
use mathlib.Core.Bool.{Bool}
use mathlib.Core.List.{List, [], ◌∷◌, ◌++◌}
use mathlib.Core.Path.{◌≡◌, refl, ◌∙◌}
use Prim.Native.Nat.{ℕ, zero, suc, ◌+◌, ◌≤◌, ◌<◌}
use native.Mathlib.Nat.{add-zero}
use native.Mathlib.Omega.{arith}
use lib.ListN.{length, take, drop, get_or, replicate, length-append, length-drop, drop_of_length-le}
use lib.Seq.{take_all, take-append-le, drop-append-le}
use Rattle.rules.specs.Template.{Reading, none, distance, part_of, deal}
use Rattle.rules.specs.declared.Component.{Component}
use Rattle.rows.specs.Flags.{kept_flags, matched, following, last_by}
use Rattle.rows.specs.NextLetter.{letters_before, At, before_letter}

-- every component has a letter
abbrev pub Lettered : List Component → Type 0
Lettered cs = (m : ℕ) → m < length cs → 1 ≤ (get_or cs m none).length

-- the letters of the component before component k, or n before the first
unfoldable length_before : ℕ → List Component → ℕ → ℕ
length_before n cs zero = n
length_before n [] (suc k) = n
length_before n (c ∷ cs) (suc k) = length_before c.length cs k

length_before_at : (c : Component) (cs : List Component) (k : ℕ) → k ≤ length cs → length_before c.length cs k ≡ (get_or (c ∷ cs) k none).length
unfolding length_before
length_before_at c cs zero h = refl
length_before_at c [] (suc k) h = absurd (omega arith)
length_before_at c (d ∷ cs) (suc k) h = length_before_at d cs k (omega arith)

-- a word with a letter more
pub matched_more : (f : ℕ → ℕ → Bool) (w : List ℕ) (x j : ℕ) (s ks : List ℕ) → matched f (w ++ (x ∷ [])) j s ks ≡ kept_flags f x (j + length w) s (matched f w j s ks)
unfolding matched
matched_more f [] x j s ks = rw (add-zero j)
matched_more f (y ∷ w) x j s ks = let e : suc j + length w ≡ j + suc (length w) = omega arith in matched_more f w x (suc j) s (kept_flags f y j s ks) ∙ rw e

deal_none : (R : Reading) (n : ℕ) (cs : List Component) → deal R n cs [] ≡ []
unfolding deal
deal_none R n [] = refl
deal_none R n (c ∷ cs) = refl

-- the first component takes the first letters, if there are any
pub deal_some : (R : Reading) (n : ℕ) (c : Component) (cs : List Component) (w : List ℕ) → 0 < length w
    → deal R n (c ∷ cs) w ≡ part_of R n c (take c.length w) ∷ deal R c.length cs (drop c.length w)
unfolding deal
deal_some R n c cs [] h = absurd (omega arith)
deal_some R n c cs (x ∷ w) h = refl

module _ (R : Reading) (n : ℕ) (c : Component) (cs : List Component) (w : List ℕ) where
  -- all letters in one component
  pub deal_one : 0 < length w → length w ≤ c.length → deal R n (c ∷ cs) w ≡ part_of R n c w ∷ []
  deal_one some fits = deal_some R n c cs w some ∙ rw (take_all c.length w fits, drop_of_length-le w {i = c.length} fits, deal_none R c.length cs)

  -- a component full, and more after it
  deal_more : (x : ℕ) → c.length ≤ length w → 1 ≤ c.length
      → deal R n (c ∷ cs) (w ++ (x ∷ [])) ≡ part_of R n c (take c.length w) ∷ deal R c.length cs (drop c.length w ++ (x ∷ []))
  deal_more x full one =
      deal_some R n c cs (w ++ (x ∷ [])) (simp length-append (omega arith))
      ∙ rw (take-append-le c.length w (x ∷ []) full, drop-append-le c.length w (x ∷ []) full)

module _ (G : ℕ → ℕ → List ℕ → List ℕ) (R : Reading) (x : ℕ) (s : List ℕ) where
  -- INSIDE A COMPONENT, at its letter i
  inside : (cs : List Component) (n : ℕ) (w ks : List ℕ) (k i : ℕ) → Lettered cs → k < length cs
      → i < (get_or cs k none).length → 1 ≤ i → length w ≡ letters_before cs k + i
      → following G (deal R n cs (w ++ (x ∷ []))) s ks ≡ kept_flags R.fits x i s (following G (deal R n cs w) s ks)
  unfolding letters_before following
  inside [] n w ks k i f h l o e = absurd (omega arith)
  inside (c ∷ cs) n w ks zero i f h l o e =
      let z : 0 + length w ≡ i = omega arith in
      let m : length (w ++ (x ∷ [])) ≡ length w + 1 = length-append w (x ∷ []) in
      rw (deal_one R n c cs w (omega arith) (omega arith), deal_one R n c cs (w ++ (x ∷ [])) (omega arith) (omega arith))
      (matched_more R.fits w x 0 s (G (distance n c.low) (distance n c.high) ks) ∙ rw z)
  inside (c ∷ cs) n w ks (suc k) i f h l o e =
      let u : 1 ≤ c.length = f 0 (omega arith) in
      let d : length (drop c.length w) ≡ letters_before cs k + i = length-drop c.length w ∙ omega arith in
      rw (deal_more R n c cs w x (omega arith) u, deal_some R n c cs w (omega arith))
      (inside cs c.length (drop c.length w) _ k i (λ m v. f (suc m) (omega arith)) (omega arith) l o d)

  -- A COMPONENT'S FIRST LETTER
  first : (cs : List Component) (n : ℕ) (w ks : List ℕ) (k : ℕ) → Lettered cs → k < length cs → length w ≡ letters_before cs k
      → following G (deal R n cs (w ++ (x ∷ []))) s ks
      ≡ kept_flags R.fits x 0 s (G (distance (length_before n cs k) (get_or cs k none).low) (distance (length_before n cs k) (get_or cs k none).high) (following G (deal R n cs w) s ks))
  unfolding letters_before length_before following matched
  first [] n w ks k f h e = absurd (omega arith)
  first (c ∷ cs) n [] ks zero f h e =
      let u : 1 ≤ c.length = f 0 (omega arith) in
      rw (deal_one R n c cs (x ∷ []) (omega arith) u, deal_none R n (c ∷ cs))
  first (c ∷ cs) n (y ∷ w) ks zero f h e = absurd (omega arith)
  first (c ∷ cs) n w ks (suc k) f h e =
      let u : 1 ≤ c.length = f 0 (omega arith) in
      let d : length (drop c.length w) ≡ letters_before cs k = length-drop c.length w ∙ omega arith in
      rw (deal_more R n c cs w x (omega arith) u, deal_some R n c cs w (omega arith))
      (first cs c.length (drop c.length w) _ k (λ m v. f (suc m) (omega arith)) (omega arith) d)

  -- OF A WHOLE PREFIX w, which x follows. The first letter of all
  grow_none : (cs : List Component) → Lettered cs → 0 < length cs → last_by G (deal R 0 cs (x ∷ [])) s ≡ kept_flags R.fits x 0 s (replicate (length s) 1)
  unfolding last_by following matched
  grow_none [] f h = absurd (omega arith)
  grow_none (c ∷ cs) f h = rw (deal_one R 0 c cs (x ∷ []) (omega arith) (f 0 (omega arith)))

  -- letter i of component k
  grow_inside : (cs : List Component) → Lettered cs → (w : List ℕ) (k i : ℕ) → k < length cs → i < (get_or cs k none).length → 1 ≤ i
      → length w ≡ letters_before cs k + i → last_by G (deal R 0 cs (w ++ (x ∷ []))) s ≡ kept_flags R.fits x i s (last_by G (deal R 0 cs w) s)
  unfolding last_by following letters_before
  grow_inside [] f w k i h l o e = absurd (omega arith)
  grow_inside (c ∷ cs) f w zero i h l o e =
      let z : 0 + length w ≡ i = omega arith in
      let m : length (w ++ (x ∷ [])) ≡ length w + 1 = length-append w (x ∷ []) in
      rw (deal_one R 0 c cs w (omega arith) (omega arith), deal_one R 0 c cs (w ++ (x ∷ [])) (omega arith) (omega arith))
      (matched_more R.fits w x 0 s (replicate (length s) 1) ∙ rw z)
  grow_inside (c ∷ cs) f w (suc k) i h l o e =
      let u : 1 ≤ c.length = f 0 (omega arith) in
      let d : length (drop c.length w) ≡ letters_before cs k + i = length-drop c.length w ∙ omega arith in
      rw (deal_more R 0 c cs w x (omega arith) u, deal_some R 0 c cs w (omega arith))
      (inside cs c.length (drop c.length w) _ k i (λ m v. f (suc m) (omega arith)) (omega arith) l o d)

  -- the first letter of component k + 1
  grow_first : (cs : List Component) → Lettered cs → (w : List ℕ) (k : ℕ) → suc k < length cs → length w ≡ letters_before cs (suc k)
      → last_by G (deal R 0 cs (w ++ (x ∷ []))) s ≡ kept_flags R.fits x 0 s (before_letter G R cs (suc k) 0 w s)
  unfolding last_by letters_before before_letter
  grow_first [] f w k h e = absurd (omega arith)
  grow_first (c ∷ cs) f w k h e =
      let u : 1 ≤ c.length = f 0 (omega arith) in
      let d : length (drop c.length w) ≡ letters_before cs k = length-drop c.length w ∙ omega arith in
      rw (deal_more R 0 c cs w x (omega arith) u, deal_some R 0 c cs w (omega arith), ← (length_before_at c cs k (omega arith)))
      (first cs c.length (drop c.length w) _ k (λ m v. f (suc m) (omega arith)) (omega arith) d)

no_letter : (cs : List Component) (n : ℕ) → suc n ≡ letters_before cs 0 + 0 → ⊥
unfolding letters_before
no_letter cs n e = omega arith

-- IN ONE: letter i of component k, after the letters w
pub grow : (G : ℕ → ℕ → List ℕ → List ℕ) (R : Reading) (x : ℕ) (s : List ℕ) (cs : List Component) → ((m : ℕ) → m < length cs → 1 ≤ (get_or cs m none).length)
    → (w : List ℕ) (k i : ℕ) → At cs (length w) k i → last_by G (deal R 0 cs (w ++ (x ∷ []))) s ≡ kept_flags R.fits x i s (before_letter G R cs k i w s)
unfolding before_letter
grow G R x s cs f w k (suc i) a = grow_inside G R x s cs f w k (suc i) a.there a.inside (omega arith) a.counted
grow G R x s cs f (y ∷ w) zero zero a = absurd (no_letter cs (length w) a.counted)
grow G R x s cs f [] zero zero a = grow_none G R x s cs f a.there
grow G R x s cs f w (suc k) zero a = grow_first G R x s cs f w k a.there (a.counted ∙ add-zero (letters_before cs (suc k)))
