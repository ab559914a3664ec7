-- Rows go out one after the other: those of two lists as those of the two end to end, those before the first one asked for all
-- at once, and none once the buffer is full.
use mathlib.Core.Path.{◌≡◌, refl, sym, ap, ◌∙◌}
use mathlib.Core.List.{List, [], ◌∷◌, ◌++◌, map, append_assoc, map-append}
use Prim.Native.Nat.{ℕ, zero, suc, ◌+◌, ◌-◌, ◌≤◌, ◌<◌}
use native.Mathlib.Nat.{sub-zero, zero-sub}
use native.Mathlib.Omega.{arith}
use lib.ListN.{length, take, drop, length-map, drop_of_length-le}
use lib.Seq.{drop-nil}
use borrow.Author.Tests.{lt-ltb, le-ltb, le-leb, lt-leb}
use Rattle.descent.specs.Buffer.{Buffer, buffer, progress, emit, emits, with_front}
use Rattle.descent.specs.declared.Progress.{Progress}

-- ---- one row

module _ (w : ℕ) (row : List ℕ) (g : Progress) (l : List ℕ) where
  -- it is passed over,
  pub emit_passed : 0 < g.skip → buffer (progress (g.skip - 1) g.rows g.at) l ≡ emit w row (buffer g l)
  unfolding emit
  emit_passed h = rw (lt-ltb 0 g.skip h)

  -- or written,
  pub emit_written : g.skip ≡ 0 → g.at + w ≤ length l → {l' : List ℕ} → l' ≡ take g.at l ++ (row ++ drop (g.at + w) l)
      → buffer (progress g.skip (g.rows + 1) (g.at + w)) l' ≡ emit w row (buffer g l)
  unfolding emit
  emit_written e h q = let z : g.skip ≤ 0 = omega arith in rw (le-ltb 0 g.skip z, le-leb (g.at + w) (length l) h, q)

  -- or left out
  pub emit_left : g.skip ≡ 0 → length l < g.at + w → buffer g l ≡ emit w row (buffer g l)
  unfolding emit
  emit_left e h = let z : g.skip ≤ 0 = omega arith in rw (le-ltb 0 g.skip z, lt-leb (g.at + w) (length l) h)

-- ---- many rows

module _ (w : ℕ) where
  -- none and one
  pub emits_none : (s : Buffer) → emits w [] s ≡ s
  unfolding emits
  emits_none s = refl

  pub emits_one : (row : List ℕ) (s : Buffer) → emits w (row ∷ []) s ≡ emit w row s
  unfolding emits
  emits_one row s = refl

  -- those of a list and then those of another
  pub emits_append : (xs ys : List (List ℕ)) (s : Buffer) → emits w (xs ++ ys) s ≡ emits w ys (emits w xs s)
  unfolding emits
  emits_append [] ys s = refl
  emits_append (x ∷ xs) ys s = emits_append xs ys (emit w x s)

  -- into a full buffer goes none
  pub emits_full : (xs : List (List ℕ)) (g : Progress) (l : List ℕ) → g.skip ≡ 0 → length l < g.at + w → buffer g l ≡ emits w xs (buffer g l)
  unfolding emits
  emits_full [] g l e h = refl
  emits_full (x ∷ xs) g l e h = rw (← (emit_left w x g l e h)) (emits_full xs g l e h)

  -- the rows before the first one asked for are passed over
  pub emits_passed : (xs : List (List ℕ)) (k r a : ℕ) (l : List ℕ) → emits w xs (buffer (progress k r a) l) ≡ emits w (drop k xs) (buffer (progress (k - length xs) r a) l)
  unfolding emits
  emits_passed [] k r a l = rw (drop-nil {A = List ℕ} k, sub-zero k)
  emits_passed (x ∷ xs) zero r a l = rw (zero-sub (suc (length xs)))
  emits_passed (x ∷ xs) (suc k) r a l =
      let e : suc k - 1 ≡ k = omega arith in
      let n : suc k - suc (length xs) ≡ k - length xs = omega arith in
      rw (← (emit_passed w x (progress (suc k) r a) l (omega arith)), e, n) (emits_passed xs k r a l)

-- ---- rows that begin alike

module _ (front : List ℕ) where
  -- none and one
  pub with_front_none : with_front front [] ≡ []
  unfolding with_front
  with_front_none = refl

  pub with_front_one : (row : List ℕ) → with_front front (row ∷ []) ≡ (front ++ row) ∷ []
  unfolding with_front
  with_front_one row = refl

  -- those of a list and then those of another
  pub with_front_append : (xs ys : List (List ℕ)) → with_front front (xs ++ ys) ≡ with_front front xs ++ with_front front ys
  unfolding with_front
  with_front_append xs ys = map-append (λ t. front ++ t) xs ys

  -- a number more that they begin with
  pub with_front_more : (p : ℕ) (xs : List (List ℕ)) → with_front front (map (λ t. p ∷ t) xs) ≡ with_front (front ++ (p ∷ [])) xs
  unfolding with_front
  with_front_more p [] = refl
  with_front_more p (x ∷ xs) = rw (append_assoc front (p ∷ []) x) (ap (λ l. (front ++ (p ∷ x)) ∷ l) (unfold with_front in with_front_more p xs))

  -- all of them at once, where none is asked for: u is how many there are
  pub passed_over : (w : ℕ) (xs : List (List ℕ)) (g : Progress) (l : List ℕ) {u : ℕ} → u ≡ length xs → u ≤ g.skip
      → buffer (progress (g.skip - u) g.rows g.at) l ≡ emits w (with_front front xs) (buffer g l)
  passed_over w xs g l {u} e h =
      let n : length (with_front front xs) ≡ u = unfold with_front in length-map xs (λ t. front ++ t) ∙ sym e in
      sym (emits_passed w (with_front front xs) g.skip g.rows g.at l ∙ rw (drop_of_length-le (with_front front xs) {i = g.skip} (rw n h), n) (emits_none w _))
