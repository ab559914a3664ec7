-- The lowest set digit of a word stands where its trailing zeros end: halving an even word takes one zero off, and an odd word has none.
use mathlib.Core.Path.{◌≡◌, refl, sym, ap, ◌∙◌}
use Prim.Native.Nat.{ℕ, zero, suc, ◌+◌, ◌-◌, ◌*◌, ◌/◌, ◌%◌, ◌^◌, ◌≤◌, ◌<◌}
use native.Mathlib.Nat.{pow-suc, div-one}
use native.Mathlib.Decide.{dec_lt}
use native.Mathlib.Omega.{arith}
use lib.Bits.{bit_and, and_le_r}
use lib.Count.{count_trailing_zeros, under}
use Rattle.std.proofs.lemmas.Nat.Bits.{bit_at-trailing_zeros}
use Rattle.std.specs.Int.{w64}
use Rattle.rows.proofs.Digits.{digit, digit_shr, digit_and}

pub digit_zero : (w : ℕ) → digit w 0 ≡ w % 2
unfolding digit
digit_zero w = rw div-one

pub digit_suc : (w b : ℕ) → digit w (suc b) ≡ digit (w / 2) b
digit_suc w b = let e : 1 + b ≡ suc b = omega arith in sym (digit_shr w 1 b ∙ ap (digit w) e)

-- below where the zeros end there is none, in any word
below : (k w b : ℕ) → b < count_trailing_zeros k w → digit w b ≡ 0
unfolding count_trailing_zeros
below zero w b h = absurd (omega arith)
below (suc k) w b h = go (w % 2) refl (λ c l. below k (w / 2) c l) b h
  where
    go : (r : ℕ) → w % 2 ≡ r → ((c : ℕ) → c < count_trailing_zeros k (w / 2) → digit (w / 2) c ≡ 0) → (c : ℕ) → c < under r (count_trailing_zeros k (w / 2)) → digit w c ≡ 0
    go zero e ih zero l = digit_zero w ∙ e
    go zero e ih (suc c) l = digit_suc w c ∙ ih c (omega arith)
    go (suc r) e ih c l = absurd (omega arith)

-- half of a word that is even and not 0
half : (k w : ℕ) → 0 < w → w < 2 ^ suc k → w % 2 ≡ 0 → (0 < w / 2) × (w / 2 < 2 ^ k)
half k w p l e = let q : 2 ^ suc k ≡ 2 ^ k * 2 = pow-suc 2 k in (omega arith, omega arith)

-- one less: the lowest set digit goes, and those above it stay
gone : (k w : ℕ) → 0 < w → w < 2 ^ k → digit (w - 1) (count_trailing_zeros k w) ≡ 0
unfolding count_trailing_zeros
gone zero w p l = absurd (omega arith)
gone (suc k) w p l = go (w % 2) refl (λ e. gone k (w / 2) (half k w p l e).0 (half k w p l e).1)
  where
    go : (r : ℕ) → w % 2 ≡ r → (w % 2 ≡ 0 → digit (w / 2 - 1) (count_trailing_zeros k (w / 2)) ≡ 0) → digit (w - 1) (under r (count_trailing_zeros k (w / 2))) ≡ 0
    go zero e ih = let h : (w - 1) / 2 ≡ w / 2 - 1 = omega arith in digit_suc (w - 1) (count_trailing_zeros k (w / 2)) ∙ ap (λ (x : ℕ). digit x (count_trailing_zeros k (w / 2))) h ∙ ih e
    go (suc r) e ih = digit_zero (w - 1) ∙ omega arith

above : (k w : ℕ) → 0 < w → w < 2 ^ k → (b : ℕ) → count_trailing_zeros k w < b → digit (w - 1) b ≡ digit w b
unfolding count_trailing_zeros
above zero w p l b u = absurd (omega arith)
above (suc k) w p l b u = go (w % 2) refl (λ e. above k (w / 2) (half k w p l e).0 (half k w p l e).1) b u
  where
    go : (r : ℕ) → w % 2 ≡ r → (w % 2 ≡ 0 → (c : ℕ) → count_trailing_zeros k (w / 2) < c → digit (w / 2 - 1) c ≡ digit (w / 2) c)
        → (c : ℕ) → under r (count_trailing_zeros k (w / 2)) < c → digit (w - 1) c ≡ digit w c
    go zero e ih zero v = absurd (omega arith)
    go zero e ih (suc c) v =
        let h : (w - 1) / 2 ≡ w / 2 - 1 = omega arith in
        digit_suc (w - 1) c ∙ ap (λ (x : ℕ). digit x c) h ∙ ih e c (omega arith) ∙ sym (digit_suc w c)
    go (suc r) e ih zero v = absurd (omega arith)
    go (suc r) e ih (suc c) v = let h : (w - 1) / 2 ≡ w / 2 = omega arith in digit_suc (w - 1) c ∙ ap (λ (x : ℕ). digit x c) h ∙ sym (digit_suc w c)

-- as `u64::trailing_zeros` counts them
pub zeros_below : (w b : ℕ) → b < count_trailing_zeros 64 w → digit w b ≡ 0
zeros_below w b h = below 64 w b h

module _ (w : ℕ) (p : 0 < w) (l : w < 2 ^ 64) where
  pub zeros_at : digit w (count_trailing_zeros 64 w) ≡ 1
  unfolding digit
  zeros_at = (bit_at-trailing_zeros w64 w p l).1

  pub zeros_least : count_trailing_zeros 64 w < 64
  zeros_least = (bit_at-trailing_zeros w64 w p l).0

  -- the word without its lowest set digit
  pub cleared_to : (b : ℕ) → b ≤ count_trailing_zeros 64 w → digit (bit_and w (w - 1)) b ≡ 0
  cleared_to b h =
      digit_and w (w - 1) b
      ∙ elim (dec_lt b (count_trailing_zeros 64 w)) [
        | yes u ↦ omega (arith, zeros_below w b u)
        | no u ↦ (let e : b ≡ count_trailing_zeros 64 w = omega arith in
            let z : digit (w - 1) b ≡ 0 = ap (digit (w - 1)) e ∙ gone 64 w p l in
            omega (arith, z))
      ]

  pub cleared_past : (b : ℕ) → count_trailing_zeros 64 w < b → digit (bit_and w (w - 1)) b ≡ digit w b
  cleared_past b h = digit_and w (w - 1) b ∙ omega (arith, above 64 w p l b h)

  pub cleared_less : bit_and w (w - 1) < w
  cleared_less = omega (arith, and_le_r w (w - 1))
