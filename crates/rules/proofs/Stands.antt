-- Where letters stand and where the next part may start: what `found` and `reach` find is what the sentences `Found` and
-- `Follows` say. Letters are compared one by one from the front, and a reach is a run of numbers between its two ends.
use mathlib.Core.Path.{◌≡◌, refl}
use mathlib.Core.Logic.{◌↔◌, ◌⊎◌, inl, inr}
use mathlib.Core.Bool.{Bool, true, false, false≢true}
use mathlib.Core.List.Memᴰ
use mathlib.Core.List.{List, [], ◌∷◌, Memᴰ}
use Prim.Native.Nat.{ℕ, zero, suc, ◌+◌, ◌-◌, ◌≤◌, ◌<◌}
use native.Mathlib.Omega.{arith}
use lib.Dec.{ltb}
use lib.ListN.{length, drop, get_or, length-drop}
use lib.Seq.{get_or-drop}
use borrow.Author.Tests.{ltb-true, ltb-false}
use Rattle.rules.specs.Lists.{run, if}
use Rattle.rules.specs.Occurrence.{spare, front_by, stands_by, found, reach, misses, StandsBy, Found, Stands, Follows}
use Rattle.rules.specs.Template.{Part}

-- ---- letters at the front, but for k of them

module _ (f : ℕ → ℕ → Bool) where
  -- a list that w fits has room for it
  front_room : (k : ℕ) (w s : List ℕ) → front_by f k w s ≡ true → length w ≤ length s
  unfolding front_by
  front_room k [] s e = omega arith
  front_room k (x ∷ w) [] e = absurd (false≢true e)
  front_room k (x ∷ w) (y ∷ s) e = go (f x y) k e (λ k. front_room k w s)
    where
      go : (b : Bool) (k : ℕ) → if b (front_by f k w s) (spare k false (λ k. front_by f k w s)) ≡ true → ((k : ℕ) → front_by f k w s ≡ true → length w ≤ length s) → suc (length w) ≤ suc (length s)
      go true k e ih = omega (arith, ih k e)
      go false zero e ih = absurd (false≢true e)
      go false (suc k) e ih = let h = ih _ e in omega arith

  -- and at most k do not fit
  front_close : (k : ℕ) (w s : List ℕ) → front_by f k w s ≡ true → misses f w s ≤ k
  unfolding front_by misses
  front_close k [] s e = omega arith
  front_close k (x ∷ w) [] e = omega arith
  front_close k (x ∷ w) (y ∷ s) e = go (f x y) k e (λ k. front_close k w s)
    where
      go : (b : Bool) (k : ℕ) → if b (front_by f k w s) (spare k false (λ k. front_by f k w s)) ≡ true → ((k : ℕ) → front_by f k w s ≡ true → misses f w s ≤ k) → if b (misses f w s) (suc (misses f w s)) ≤ k
      go true k e ih = ih k e
      go false zero e ih = absurd (false≢true e)
      go false (suc k) e ih = let h = ih _ e in omega arith

  front_all : (k : ℕ) (w s : List ℕ) → length w ≤ length s → misses f w s ≤ k → front_by f k w s ≡ true
  unfolding front_by misses
  front_all k [] s l h = refl
  front_all k (x ∷ w) [] l h = absurd (omega arith)
  front_all k (x ∷ w) (y ∷ s) l h = go (f x y) k h (λ k. front_all k w s (omega arith))
    where
      go : (b : Bool) (k : ℕ) → if b (misses f w s) (suc (misses f w s)) ≤ k → ((k : ℕ) → misses f w s ≤ k → front_by f k w s ≡ true) → if b (front_by f k w s) (spare k false (λ k. front_by f k w s)) ≡ true
      go true k h ih = ih k h
      go false zero h ih = absurd (omega arith)
      go false (suc k) h ih = ih k (omega arith)

  -- letters, at least one, are found at a position exactly if they stand there
  pub stands_by_is : (k : ℕ) (w s : List ℕ) (p : ℕ) → 1 ≤ length w → (stands_by f k w s p ≡ true) ↔ StandsBy f k w s p
  unfolding stands_by
  stands_by_is k w s zero some = (λ e. absurd (false≢true e), λ h. absurd (omega (arith, h.counted)))
  stands_by_is k w s (suc o) some = (there, found)
    where
      at : suc o - 1 ≡ o
      at = omega arith

      there : front_by f k w (drop o s) ≡ true → StandsBy f k w s (suc o)
      there e = record { counted = omega arith; room = omega (arith, front_room k w (drop o s) e, length-drop o s); close = rw at (front_close k w (drop o s) e) }

      found : StandsBy f k w s (suc o) → front_by f k w (drop o s) ≡ true
      found h = front_all k w (drop o s) (omega (arith, h.room, length-drop o s)) (rw at at h.close)

  -- where none may fail to, each letter fits
  none_missed : (w s : List ℕ) → length w ≤ length s → misses f w s ≤ 0 → (i : ℕ) → i < length w → f (get_or w i 0) (get_or s i 0) ≡ true
  unfolding misses
  none_missed [] s l h i k = absurd (omega arith)
  none_missed (x ∷ w) [] l h i k = absurd (omega arith)
  none_missed (x ∷ w) (y ∷ s) l h i k = go (f x y) refl h i k (none_missed w s (omega arith))
    where
      go : (b : Bool) → f x y ≡ b → if b (misses f w s) (suc (misses f w s)) ≤ 0 → (i : ℕ) → i < suc (length w) → (misses f w s ≤ 0 → (i : ℕ) → i < length w → f (get_or w i 0) (get_or s i 0) ≡ true) → f (get_or (x ∷ w) i 0) (get_or (y ∷ s) i 0) ≡ true
      go true e h zero k ih = e
      go true e h (suc i) k ih = ih h i (omega arith)
      go false e h i k ih = absurd (omega arith)

  all_fit : (w s : List ℕ) → length w ≤ length s → ((i : ℕ) → i < length w → f (get_or w i 0) (get_or s i 0) ≡ true) → misses f w s ≤ 0
  unfolding misses
  all_fit [] s l h = omega arith
  all_fit (x ∷ w) [] l h = omega arith
  all_fit (x ∷ w) (y ∷ s) l h = rw (h 0 (omega arith)) (all_fit w s (omega arith) (λ i k. h (suc i) (omega arith)))

-- a part is found exactly where it stands
pub found_is : (c : Part) (s : List ℕ) (p : ℕ) → 1 ≤ length c.word → (found c s p ≡ true) ↔ Found c s p
found_is c s p some = stands_by_is c.fits c.slack c.word s p some

-- where none may fail to, letters stand where each fits the one there
pub stands_fitting : (f : ℕ → ℕ → Bool) (w s : List ℕ) (p : ℕ) → StandsBy f 0 w s p ↔ Stands (λ x y. f x y ≡ true) w s p
stands_fitting f w s p = (
  λ h. record { counted = h.counted; room = h.room; each = λ i l. rw get_or-drop at (none_missed f w (drop (p - 1) s) (omega (arith, h.counted, h.room, length-drop (p - 1) s)) h.close i l) },
  λ h. record { counted = h.counted; room = h.room; close = all_fit f w (drop (p - 1) s) (omega (arith, h.counted, h.room, length-drop (p - 1) s)) (λ i l. rw get_or-drop (h.each i l)) },
)

-- a run holds the numbers between its ends, and nothing else
pub run_in : (a n x : ℕ) → a ≤ x → x < a + n → Memᴰ x (run a n)
unfolding run
run_in a zero x h l = absurd (omega arith)
run_in a (suc n) x h l = go (ltb a x) refl (λ h. run_in (suc a) n x h (omega arith))
  where
    go : (b : Bool) → ltb a x ≡ b → (suc a ≤ x → Memᴰ x (run (suc a) n)) → Memᴰ x (a ∷ run (suc a) n)
    go true q ih = Memᴰ.tail (ih (ltb-true a x q))
    go false q ih = let k : x ≡ a = omega (arith, ltb-false) in Memᴰ.head k

pub run_out : (a n x : ℕ) → Memᴰ x (run a n) → (a ≤ x) × (x < a + n)
unfolding run
run_out a zero x m = absurd (Memᴰ.not-nil m)
run_out a (suc n) x m = go (Memᴰ.cases_cons m) (run_out (suc a) n x)
  where
    go : (x ≡ a) ⊎ Memᴰ x (run (suc a) n) → (Memᴰ x (run (suc a) n) → (suc a ≤ x) × (x < suc a + n)) → (a ≤ x) × (x < a + suc n)
    go (inl e) ih = omega arith
    go (inr m) ih = let r = ih m in omega arith

-- the next part may start at q exactly if q follows within its distances
pub reach_is : (near far p q : ℕ) → Memᴰ q (reach near far p) ↔ Follows near far p q
unfolding reach
reach_is near far p q = (
  λ m. let r = run_out (p + near) (far + 1 - near) q m in record { least = r.0; most = omega arith },
  λ g. run_in (p + near) (far + 1 - near) q g.least (omega (arith, g.least, g.most)),
)
