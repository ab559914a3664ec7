-- Counts over places: those that a row lets stand, and the sum of those in a window, one place after another.
use mathlib.Core.List.{List, map}
use mathlib.Core.Path.{◌≡◌, refl, sym, ap, ◌∙◌}
use Prim.Native.Nat.{ℕ, zero, suc, ◌+◌, ◌-◌, ◌*◌, ◌/◌, ◌%◌, ◌^◌, ◌≤◌, ◌<◌, min}
use native.Mathlib.Decide.{dec_lt}
use native.Mathlib.Nat.{zero-add}
use native.Mathlib.Numerals.{add-one}
use native.Mathlib.Omega.{arith}
use lib.Bits.{bit_and, and_step, and_zero_r}
use lib.Dec.{eqb}
use lib.ListN.{length, get_or, get_or-eq_default}
use borrow.Author.Tests.{ne_eqb}
use Rattle.rules.proofs.Over.{getd_map_run, length_map_run, map_agree}
use Rattle.rules.specs.Lists.{if, run, sum}
use Rattle.rows.specs.Bits.{held}
use Rattle.rows.specs.Flags.{ago, recent, masked_at, masked}
use Rattle.rows.proofs.Bits.{held_at}
use Rattle.rows.proofs.Dark.{same_zero}
use Rattle.rows.proofs.Digits.{digit}
use Rattle.rows.proofs.Gaps.{ago_in, ago_out, recent_last}

-- the lowest digit, as the code reads it
pub and_one : (w : ℕ) → bit_and w 1 ≡ w % 2
and_one w = let e : bit_and w 1 ≡ bit_and (w / 2) 0 * 2 + min (w % 2) 1 = and_step w 1 in omega (arith, and_zero_r (w / 2))

-- a digit is 0 or 1
digit_lt : (w b : ℕ) → digit w b < 2
unfolding digit
digit_lt w b = omega arith

-- a flag's two cases, in either order
either_case : (x v : ℕ) → x < 2 → if (eqb x 1) v 0 ≡ if (eqb x 0) 0 v
either_case zero v l = refl
either_case (suc zero) v l = refl
either_case (suc (suc x)) v l = absurd (omega arith)

-- COUNTS that a row lets stand: at each place, and at one so far before another
module _ (ks vs : List ℕ) where
  pub length_masked : length (masked ks vs) ≡ length vs
  unfolding masked
  length_masked = length_map_run (masked_at ks vs) 0 (length vs)

  pub getd_masked : (o : ℕ) → get_or (masked ks vs) o 0 ≡ masked_at ks vs o
  unfolding masked masked_at
  getd_masked o =
      elim (dec_lt o (length vs)) [
        | yes l ↦ (getd_map_run (masked_at ks vs) 0 0 (length vs) o l ∙ ap (masked_at ks vs) (zero-add o))
        | no l ↦ (let z : get_or vs o 0 ≡ 0 = get_or-eq_default vs 0 {n = o} (omega arith) in
            get_or-eq_default (map (masked_at ks vs) (run 0 (length vs))) 0 {n = o} (rw length_map_run (omega arith))
            ∙ sym (rw z (same_zero (eqb (get_or ks o 0) 0))))
      ]

  -- where there is no bit, none
  pub masked_off : (o : ℕ) → get_or ks o 0 ≡ 0 → masked_at ks vs o ≡ 0
  unfolding masked_at
  masked_off o e = rw e

  -- and where there is one, the count
  pub masked_on : (o : ℕ) → 0 < get_or ks o 0 → masked_at ks vs o ≡ get_or vs o 0
  unfolding masked_at
  masked_on o h = rw (ne_eqb (get_or ks o 0) 0 (λ z. omega arith))

  ago_masked : (o d : ℕ) → ago (masked ks vs) o d ≡ if (eqb (ago ks o d) 0) 0 (ago vs o d)
  unfolding masked_at
  ago_masked o d =
      elim (dec_lt o d) [
        | yes l ↦ rw (ago_out (masked ks vs) o d l, ago_out ks o d l)
        | no l ↦ (let h : d ≤ o = omega arith in rw (ago_in (masked ks vs) o d h, ago_in ks o d h, ago_in vs o d h) (getd_masked (o - d)))
      ]

  pub ago_dark : (o d : ℕ) → ago ks o d ≡ 0 → ago (masked ks vs) o d ≡ 0
  ago_dark o d e = ago_masked o d ∙ ap (λ (x : ℕ). if (eqb x 0) 0 (ago vs o d)) e

  -- the same counts, where there is a bit
  pub masked_at_same : (ws : List ℕ) (o : ℕ) → get_or vs o 0 ≡ get_or ws o 0 → masked_at ks vs o ≡ masked_at ks ws o
  unfolding masked_at
  masked_at_same ws o e = rw e

  pub masked_same : (ws : List ℕ) → length vs ≡ length ws → ((o : ℕ) → o < length vs → masked_at ks vs o ≡ masked_at ks ws o) → masked ks vs ≡ masked ks ws
  unfolding masked
  masked_same ws n h =
      map_agree (masked_at ks vs) (masked_at ks ws) 0 (length vs) (λ o _ l. h o (omega arith))
      ∙ ap (λ (k : ℕ). map (masked_at ks ws) (run 0 k)) n

-- what is masked already by more bits is masked as it was
pub masked_inner : (ks hs vs : List ℕ) → ((o : ℕ) → o < length vs → get_or hs o 0 ≡ 0 → get_or ks o 0 ≡ 0) → masked ks (masked hs vs) ≡ masked ks vs
masked_inner ks hs vs h =
    masked_same ks (masked hs vs) vs (length_masked hs vs)
    (λ o l.
    elim (dec_lt 0 (get_or hs o 0)) [
      | yes u ↦ masked_at_same ks (masked hs vs) vs o (getd_masked hs vs o ∙ masked_on hs vs o u)
      | no u ↦ (let z : get_or ks o 0 ≡ 0 = h o (omega (arith, length_masked hs vs)) (omega arith) in
          masked_off ks (masked hs vs) o z ∙ sym (masked_off ks vs o z))
    ])

-- A COUNT as the code picks it, by a digit of a word
module _ (row counts : List ℕ) (o d : ℕ) where
  pub ago_picked : (word b : ℕ) {x r : ℕ} → digit word b ≡ ago (held row) o d → x ≡ ago counts o d
      → r ≡ if (eqb (bit_and (word / 2 ^ b) 1) 1) x 0 → r ≡ ago (masked (held row) counts) o d
  unfolding digit
  ago_picked word b e f q =
      q
      ∙ rw (f, and_one (word / 2 ^ b)) (either_case (word / 2 ^ b % 2) (ago counts o d) (digit_lt word b))
      ∙ ap (λ (y : ℕ). if (eqb y 0) 0 (ago counts o d)) e
      ∙ sym (ago_masked (held row) counts o d)

  -- the digit of its own word
  pub ago_held : {x r : ℕ} → d ≤ o → x ≡ get_or counts (o - d) 0 → r ≡ if (eqb (bit_and (get_or row ((o - d) / 64) 0 / 2 ^ ((o - d) % 64)) 1) 1) x 0
      → r ≡ ago (masked (held row) counts) o d
  ago_held h e q =
      ago_picked (get_or row ((o - d) / 64) 0) ((o - d) % 64) (sym (held_at row (o - d)) ∙ sym (ago_in (held row) o d h)) (e ∙ sym (ago_in counts o d h)) q

-- A WINDOW that grows by one
module _ (ks : List ℕ) (o d : ℕ) where
  pub recent_zero : 0 ≡ recent ks o d 0
  unfolding recent run sum
  recent_zero = refl

  pub recent_more : (k : ℕ) {t a : ℕ} → t ≡ recent ks o d k → a ≡ ago ks o (d + k) → t + a ≡ recent ks o d (k + 1)
  recent_more k e q = rw (e, q, add-one) (sym (recent_last ks o d k))
