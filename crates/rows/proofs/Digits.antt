-- A binary digit of a number, and of what the bit operations and the shifts make.
use mathlib.Core.Path.{◌≡◌, sym, ap, ◌∙◌}
use Prim.Native.Nat.{ℕ, zero, suc, ◌+◌, ◌-◌, ◌*◌, ◌/◌, ◌%◌, ◌^◌, ◌≤◌, ◌<◌, min, max}
use native.Mathlib.Nat.{max-zero, zero-max, div-one, div-eq_of_lt, mul_assoc, mul_right_comm, add-mul, pow-succ'}
use native.Mathlib.Decide.{dec_lt}
use native.Mathlib.Omega.{arith}
use lib.Bits.{bit_and, bit_or, bit_xor, differ, and_step, or_step, xor_step, and_shr, or_shr, xor_shr, or_zero_r, shifted_even}
use lib.Pow.{pow_mono, pow-add, shl-shr, shr-shr, field, mod-mod-pow}
use Rattle.rows.specs.Words.{shifted_down, shifted_up}

-- digit b of a number
unfoldable pub digit : ℕ → ℕ → ℕ
digit w b = w / 2 ^ b % 2

pub digit_and : (a b k : ℕ) → digit (bit_and a b) k ≡ min (digit a k) (digit b k)
unfolding digit
digit_and a b k = rw (and_shr a b k) (omega (arith, and_step (a / 2 ^ k) (b / 2 ^ k)))

pub digit_or : (a b k : ℕ) → digit (bit_or a b) k ≡ max (digit a k) (digit b k)
unfolding digit
digit_or a b k = rw (or_shr a b k) (omega (arith, or_step (a / 2 ^ k) (b / 2 ^ k)))

pub digit_xor : (a b k : ℕ) → digit (bit_xor a b) k ≡ differ (digit a k) (digit b k)
unfolding digit
digit_xor a b k = rw (xor_shr a b k) (halved (a / 2 ^ k) (b / 2 ^ k))
  where
    small : (x y : ℕ) → x < 2 → y < 2 → differ x y < 2
    small zero y h l = l
    small (suc zero) zero h l = omega arith
    small (suc zero) (suc zero) h l = omega arith
    small (suc zero) (suc (suc y)) h l = absurd (omega arith)
    small (suc (suc x)) y h l = absurd (omega arith)

    halved : (x y : ℕ) → bit_xor x y % 2 ≡ differ (x % 2) (y % 2)
    halved x y = omega (arith, xor_step x y, small (x % 2) (y % 2) (omega arith) (omega arith))

pub digit_shr : (a i k : ℕ) → digit (a / 2 ^ i) k ≡ digit a (i + k)
unfolding digit
digit_shr a i k = rw (shr-shr a i k)

-- a number of n digits has no digit n, nor one further up
pub digit_past : (n a k : ℕ) → a < 2 ^ n → n ≤ k → digit a k ≡ 0
unfolding digit
digit_past n a k h l =
    let p : 2 ^ n ≤ 2 ^ k = pow_mono l in
    let z : a / 2 ^ k ≡ 0 = div-eq_of_lt (omega arith) in
    rw z

-- a digit below w is one of the w lowest
pub digit_mod : (w n k : ℕ) → k < w → digit (n % 2 ^ w) k ≡ digit n k
unfolding digit
digit_mod w n k h =
    let j = w - suc k in
    let e : w ≡ suc j + k = omega arith in
    let s : suc j ≡ j + 1 = omega arith in
    rw (e, field n (suc j) k, s) (mod-mod-pow (n / 2 ^ k) j 1)

pub digit_shl_in : (a i k : ℕ) → i ≤ k → digit (a * 2 ^ i) k ≡ digit a (k - i)
unfolding digit
digit_shl_in a i k h =
    let e : k ≡ i + (k - i) = omega arith in
    ap (λ (x : ℕ). a * 2 ^ i / 2 ^ x % 2) e ∙ rw (← (shr-shr (a * 2 ^ i) i (k - i)), shl-shr a i)

pub digit_shl_out : (a i k : ℕ) → k < i → digit (a * 2 ^ i) k ≡ 0
unfolding digit
digit_shl_out a i k h =
    let j = i - suc k in
    let e : 2 ^ i ≡ 2 ^ suc j * 2 ^ k = ap (λ (x : ℕ). 2 ^ x) (omega arith) ∙ pow-add 2 (suc j) k in
    let m : a * (2 ^ suc j * 2 ^ k) ≡ a * 2 ^ suc j * 2 ^ k = sym (mul_assoc a (2 ^ suc j) (2 ^ k)) in
    rw (e, m, shl-shr (a * 2 ^ suc j) k) (shifted_even a j)

-- the bits of two words, the lower shifted down by i
module _ (i low high b : ℕ) (small : i < 64) (inside : b < 64) where
  from_high : ℕ
  from_high = ((high * 2) % 2 ^ 64 * 2 ^ (63 - i)) % 2 ^ 64

  from_high_out : b + i < 64 → digit from_high b ≡ 0
  unfolding from_high
  from_high_out h =
      digit_mod 64 ((high * 2) % 2 ^ 64 * 2 ^ (63 - i)) b inside
      ∙ elim (dec_lt b (63 - i)) [
        | yes l ↦ digit_shl_out ((high * 2) % 2 ^ 64) (63 - i) b l
        | no n ↦ (let e : b - (63 - i) ≡ 0 = omega arith in
            digit_shl_in ((high * 2) % 2 ^ 64) (63 - i) b (omega arith) ∙ ap (digit ((high * 2) % 2 ^ 64)) e ∙ digit_mod 64 (high * 2) 0 (omega arith) ∙ digit_shl_out high 1 0 (omega arith))
      ]

  from_high_in : 64 ≤ b + i → digit from_high b ≡ digit high (b + i - 64)
  unfolding from_high
  from_high_in h =
      let e : b - (63 - i) - 1 ≡ b + i - 64 = omega arith in
      digit_mod 64 ((high * 2) % 2 ^ 64 * 2 ^ (63 - i)) b inside
      ∙ digit_shl_in ((high * 2) % 2 ^ 64) (63 - i) b (omega arith)
      ∙ digit_mod 64 (high * 2) (b - (63 - i)) (omega arith)
      ∙ digit_shl_in high 1 (b - (63 - i)) (omega arith)
      ∙ ap (digit high) e

  pub down_low : b + i < 64 → digit (shifted_down i low high) b ≡ digit low (b + i)
  unfolding shifted_down from_high
  down_low h =
      let e : i + b ≡ b + i = omega arith in
      digit_or (low / 2 ^ i) from_high b ∙ rw (from_high_out h, max-zero, digit_shr low i b, e)

  pub down_high : low < 2 ^ 64 → 64 ≤ b + i → digit (shifted_down i low high) b ≡ digit high (b + i - 64)
  unfolding shifted_down from_high
  down_high l h =
      digit_or (low / 2 ^ i) from_high b ∙ rw (from_high_in h, digit_shr low i b, digit_past 64 low (i + b) l (omega arith), zero-max)

-- shifted down by none, the lower is as it was: of the upper nothing is left
even : (k : ℕ) → (k * 2 * 2 ^ 63) % 2 ^ 64 ≡ 0
even k = omega arith

pub down_none : (low high : ℕ) → shifted_down 0 low high ≡ low
unfolding shifted_down
down_none low high =
    let k = (high * 2) % 2 ^ 64 / 2 in
    let e : (high * 2) % 2 ^ 64 ≡ k * 2 = omega arith in
    let z : ((high * 2) % 2 ^ 64 * 2 ^ (63 - 0)) % 2 ^ 64 ≡ 0 = rw e (even k) in
    rw (z, or_zero_r, div-one)

-- shifted down by some, the upper may be shifted at once: what its first shift loses the second would lose too
pub down_at_once : (i low high : ℕ) → 1 ≤ i → i < 64 → bit_or (low / 2 ^ i) ((high * 2 ^ (64 - i)) % 2 ^ 64) ≡ shifted_down i low high
unfolding shifted_down
down_at_once i low high h l = ap (bit_or (low / 2 ^ i)) (ap (λ (x : ℕ). x % 2 ^ 64) whole ∙ less (high * 2 / 2 ^ 64 * 2 ^ (63 - i)) ((high * 2) % 2 ^ 64 * 2 ^ (63 - i)))
  where
    less : (k z : ℕ) → (k * 2 ^ 64 + z) % 2 ^ 64 ≡ z % 2 ^ 64
    less k z = omega arith

    whole : high * 2 ^ (64 - i) ≡ high * 2 / 2 ^ 64 * 2 ^ (63 - i) * 2 ^ 64 + (high * 2) % 2 ^ 64 * 2 ^ (63 - i)
    whole =
        let e : 64 - i ≡ suc (63 - i) = omega arith in
        let p : high * 2 ^ (64 - i) ≡ high * 2 * 2 ^ (63 - i) = ap (λ (x : ℕ). high * 2 ^ x) e ∙ ap (◌*◌ high) (pow-succ' 2 (63 - i)) ∙ sym (mul_assoc high 2 (2 ^ (63 - i))) in
        let q : high * 2 ≡ high * 2 / 2 ^ 64 * 2 ^ 64 + (high * 2) % 2 ^ 64 = omega arith in
        p ∙ ap (λ (x : ℕ). x * 2 ^ (63 - i)) q ∙ add-mul (high * 2 / 2 ^ 64 * 2 ^ 64) ((high * 2) % 2 ^ 64) (2 ^ (63 - i))
        ∙ ap (λ (x : ℕ). x + (high * 2) % 2 ^ 64 * 2 ^ (63 - i)) (mul_right_comm (high * 2 / 2 ^ 64) (2 ^ 64) (2 ^ (63 - i)))

-- and the upper shifted up by i
module _ (i low high b : ℕ) (small : i < 64) (inside : b < 64) where
  from_low : digit (low / 2 / 2 ^ (63 - i)) b ≡ digit low (64 - i + b)
  from_low = let e : 1 + (63 - i + b) ≡ 64 - i + b = omega arith in digit_shr (low / 2) (63 - i) b ∙ digit_shr low 1 (63 - i + b) ∙ ap (digit low) e

  pub up_high : low < 2 ^ 64 → i ≤ b → digit (shifted_up i low high) b ≡ digit high (b - i)
  unfolding shifted_up
  up_high l h =
      digit_or ((high * 2 ^ i) % 2 ^ 64) (low / 2 / 2 ^ (63 - i)) b
      ∙ rw (from_low, digit_past 64 low (64 - i + b) l (omega arith), max-zero, digit_mod 64 (high * 2 ^ i) b inside, digit_shl_in high i b h)

  pub up_low : b < i → digit (shifted_up i low high) b ≡ digit low (64 - i + b)
  unfolding shifted_up
  up_low h =
      digit_or ((high * 2 ^ i) % 2 ^ 64) (low / 2 / 2 ^ (63 - i)) b
      ∙ rw (from_low, digit_mod 64 (high * 2 ^ i) b inside, digit_shl_out high i b h, zero-max)
