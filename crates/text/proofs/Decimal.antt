-- A number's digits are those of its tenth part, and the last one.
use mathlib.Core.Path.{◌≡◌}
use mathlib.Core.List.{[], ◌∷◌, ◌++◌}
use Prim.Native.Nat.{ℕ, zero, suc, ◌+◌, ◌/◌, ◌%◌, ◌^◌, ◌≤◌, ◌<◌}
use native.Mathlib.Omega.{arith}
use lib.ListN.{length, length-append}
use borrow.Author.Tests.{lt-ltb, le-ltb}
use Rattle.rules.specs.Text.{digits_of, decimal}
use Rattle.rules.proofs.TextNumbers.{decimal_number}

tenth : (d n : ℕ) → n < 10 ^ suc d → n / 10 < 10 ^ d
tenth d n h = omega (arith, h)

-- a number that d digits hold has no others
digits_same : (d n : ℕ) → n < 10 ^ suc d → digits_of (suc d) n ≡ digits_of (suc (suc d)) n
unfolding digits_of
digits_same zero n h = rw (lt-ltb n 10 (omega arith))
digits_same (suc d) n h = rw (digits_same d (n / 10) (tenth (suc d) n h))

-- a number below ten is one digit
pub decimal_one : (n : ℕ) → n < 10 → (48 + n % 10) ∷ [] ≡ decimal n
unfolding decimal digits_of
decimal_one n h = rw (lt-ltb n 10 h)

last_digit : (d n : ℕ) → 10 ≤ n → digits_of d (n / 10) ++ ((48 + n % 10) ∷ []) ≡ digits_of (suc d) n
unfolding digits_of
last_digit d n h = rw (le-ltb n 10 h)

-- any other has those of its tenth part before its last
pub decimal_more : (n : ℕ) → 10 ≤ n → n < 10 ^ 20 → decimal (n / 10) ++ ((48 + n % 10) ∷ []) ≡ decimal n
unfolding decimal
decimal_more n h k = rw (← digits_same 18 (n / 10) (tenth 19 n k)) (last_digit 19 n h)

-- and so one more than that has
pub decimal_longer : (n : ℕ) → 10 ≤ n → n < 10 ^ 20 → length (decimal n) ≡ length (decimal (n / 10)) + 1
decimal_longer n h k = rw (← decimal_more n h k) (length-append (decimal (n / 10)) ((48 + n % 10) ∷ []))

-- a number below ten to the power of d has at most d digits
pub decimal_short : (d k n : ℕ) → suc (d + k) ≡ 20 → n < 10 ^ suc d → length (decimal n) ≤ suc d
decimal_short d k n e h = (decimal_number d n (omega (arith, e)) h).0.few
