-- A table that a loop fills from the front, with f at each position, and sums over neighbouring positions.
use mathlib.Core.Path.{◌≡◌, ap, ◌∙◌}
use mathlib.Core.List.{List, map}
use Prim.Native.Nat.{ℕ, zero, suc, ◌+◌, ◌*◌, ◌≤◌}
use native.Mathlib.Nat.{add-zero, suc-add, suc-mul}
use native.Mathlib.Numerals.{add-one}
use native.Mathlib.Decide.{dec_lt}
use native.Mathlib.Omega.{arith}
use lib.ListN.{length, get_or, get_or-eq_default}
use Rattle.rules.specs.Lists.{run, sum, over}
use Rattle.rules.proofs.Over.{length_map_run, getd_map_run, map_shift, over_keeps, over_all}
use Rattle.ways.specs.Counts.{at_position}

-- a table made so is bounded as f is
pub over_most : (f : ℕ → ℕ) (b : ℕ) → ((p : ℕ) → f p ≤ b) → (n : ℕ) {y : List ℕ} → y ≡ map f (run 1 n) → (p : ℕ) → at_position y p ≤ b
unfolding at_position
over_most f b h n e zero = omega arith
over_most f b h n e (suc o) = rw e (go 1 n o)
  where
    go : (a n i : ℕ) → get_or (map f (run a n)) i 0 ≤ b
    go a n i = elim (dec_lt i n) [
      | yes l ↦ rw (getd_map_run f 0 a n i l) (h (a + i))
      | no l ↦ rw (get_or-eq_default (map f (run a n)) 0 {n = i} (rw (length_map_run f a n) (omega arith))) (omega arith)
    ]

-- ---- sums over a run

sum_last : (f : ℕ → ℕ) (a n : ℕ) → sum (map f (run a (suc n))) ≡ sum (map f (run a n)) + f (a + n)
unfolding run sum
sum_last f a zero = rw (add-zero a) (omega arith)
sum_last f a (suc n) =
    let ih = sum_last f (suc a) n in
    let e : f (suc a + n) ≡ f (a + suc n) = ap f (omega arith) in
    omega arith

-- a sum from the offset a on, with one number more
pub window_more : (f : ℕ → ℕ) (a n : ℕ) → sum (map f (run (suc a) n)) + f (suc (a + n)) ≡ sum (map f (run (suc a) (n + 1)))
window_more f a n = rw (add-one n, sum_last f (suc a) n, suc-add a n)

-- and one offset on: one number comes in, one goes out
pub window_slide : (f : ℕ → ℕ) (a n : ℕ) → sum (map f (run (suc a) n)) + f (suc (a + n)) ≡ f (suc a) + sum (map f (run (suc (a + 1)) n))
unfolding run sum
window_slide f a n = window_more f a n ∙ rw (add-one n, add-one a)

-- n numbers add up to at most n times their bound
pub window_most : (f : ℕ → ℕ) (b : ℕ) → ((p : ℕ) → f p ≤ b) → (a n : ℕ) → sum (map f (run a n)) ≤ n * b
unfolding run sum
window_most f b h a zero = omega arith
window_most f b h a (suc n) = rw suc-mul (omega (arith, h a, window_most f b h (suc a) n))

-- ---- the table: f at the first o positions, and past them what was there

-- f by offset
unfoldable pub by_offset : (ℕ → ℕ) → ℕ → ℕ
by_offset f o = f (suc o)

module _ (f : ℕ → ℕ) (o : ℕ) (l : List ℕ) {x : List ℕ} (e : x ≡ over (by_offset f) o l) where
  -- what stands past the front is as it was
  pub entry_keeps : (i : ℕ) → o ≤ i → at_position x (suc i) ≡ at_position l (suc i)
  unfolding at_position
  entry_keeps i h = over_keeps (by_offset f) o l e i h

  -- past the last turn the table is f of all positions
  pub entry_all : {n : ℕ} → length l ≤ o → o ≡ n → x ≡ map f (run 1 n)
  unfolding by_offset
  entry_all {n} h k = over_all (by_offset f) o l e k (omega arith) ∙ map_shift f 0 n
