-- Bits in words: a digit set in a word is one bit set, and the ones of the words are the bits.
use mathlib.Core.Bool.{Bool, true, false}
use mathlib.Core.List.{List, [], ◌∷◌, ◌++◌}
use mathlib.Core.Path.{◌≡◌, refl, sym, ap, ◌∙◌}
use Prim.Native.Nat.{ℕ, zero, suc, ◌+◌, ◌*◌, ◌/◌, ◌%◌, ◌^◌, ◌≤◌, ◌<◌, max}
use native.Mathlib.Nat.{one-mul, zero-mul, pow-suc, zero-add, suc-add}
use native.Mathlib.Numerals.{add-one}
use native.Mathlib.Omega.{arith}
use lib.Bits.{bit_or, or_step, or_zero_r}
use lib.Count.{ones, ones_in, ones_step}
use lib.ListN.{length, get_or, set, drop, length-append, drop_of_length-le}
use lib.Pow.{shl_exact}
use lib.Seq.{drop-cons, set-append_left, set-get_or}
use Rattle.rules.proofs.Tables.{sum_append}
use Rattle.rules.specs.Lists.{sum}
use Rattle.rows.specs.Flags.{bit}
use Rattle.rows.specs.Bits.{binary_digits, held}

length_digits : (k w : ℕ) → length (binary_digits k w) ≡ k
unfolding binary_digits
length_digits zero w = refl
length_digits (suc k) w = ap suc (length_digits k (w / 2))

-- a word holds 64 marks
pub length_held : (ws : List ℕ) → length (held ws) ≡ 64 * length ws
unfolding held
length_held [] = refl
length_held (w ∷ ws) = length-append (binary_digits 64 w) (held ws) ∙ rw (length_digits, length_held ws) (omega arith)

-- a digit set: the lowest, and one further up
or_one : (w : ℕ) → (bit_or w 1 % 2 ≡ 1) × (bit_or w 1 / 2 ≡ w / 2)
or_one w =
    let e : bit_or w 1 ≡ w / 2 * 2 + max (w % 2) 1 = or_step w 1 ∙ rw or_zero_r in
    (omega arith, omega arith)

or_shift : (w b : ℕ) → (bit_or w (2 ^ suc b) % 2 ≡ w % 2) × (bit_or w (2 ^ suc b) / 2 ≡ bit_or (w / 2) (2 ^ b))
or_shift w b =
    let p : 2 ^ suc b ≡ 2 ^ b * 2 = pow-suc 2 b in
    let h : 2 ^ suc b / 2 ≡ 2 ^ b = omega arith in
    let r : 2 ^ suc b % 2 ≡ 0 = omega arith in
    let e : bit_or w (2 ^ suc b) ≡ bit_or (w / 2) (2 ^ b) * 2 + max (w % 2) 0 = or_step w (2 ^ suc b) ∙ rw (h, r) in
    (omega arith, omega arith)

digits_set : (k w b : ℕ) → b < k → binary_digits k (bit_or w (2 ^ b)) ≡ set (binary_digits k w) b 1
unfolding binary_digits
digits_set zero w b h = absurd (omega arith)
digits_set (suc k) w zero h = rw ((or_one w).0, (or_one w).1)
digits_set (suc k) w (suc b) h = rw ((or_shift w b).0, (or_shift w b).1, digits_set k (w / 2) b (omega arith))

set_past : (xs ys : List ℕ) (n a : ℕ) → set (xs ++ ys) (length xs + n) a ≡ xs ++ set ys n a
set_past [] ys n a = rw zero-add
set_past (x ∷ xs) ys n a = rw suc-add (ap (λ (l : List ℕ). x ∷ l) (set_past xs ys n a))

held_set : (ws : List ℕ) (q b : ℕ) → q < length ws → b < 64 → held (set ws q (bit_or (get_or ws q 0) (2 ^ b))) ≡ set (held ws) (q * 64 + b) 1
unfolding held
held_set [] q b h l = absurd (omega arith)
held_set (w ∷ ws) zero b h l =
    let e : 0 * 64 + b ≡ b = omega arith in
    let l' : b < length (binary_digits 64 w) = rw length_digits l in
    rw (e, digits_set 64 w b l, set-append_left (binary_digits 64 w) (held ws) b 1 l')
held_set (w ∷ ws) (suc q) b h l =
    let e : suc q * 64 + b ≡ length (binary_digits 64 w) + (q * 64 + b) = rw length_digits (omega arith) in
    rw (e, set_past (binary_digits 64 w) (held ws) (q * 64 + b) 1, held_set ws q b (omega arith) l)

-- as the code writes it: where the prefix was found the mark is set, and else nothing changes
module _ (ws : List ℕ) (i : ℕ) (h : i < 64 * length ws) (free : get_or (held ws) i 0 ≡ 0) where
  pub held_mark : (found : Bool) {v : ℕ} → v ≡ bit found
      → held (set ws (i / 64) (bit_or (get_or ws (i / 64) 0) ((v * 2 ^ (i % 64)) % 2 ^ 64))) ≡ set (held ws) i (bit found)
  held_mark true e =
      let z : (1 * 2 ^ (i % 64)) % 2 ^ 64 ≡ 1 * 2 ^ (i % 64) = shl_exact 1 (i % 64) 64 (omega arith) (omega arith) in
      let p : i / 64 * 64 + i % 64 ≡ i = omega arith in
      rw (e, z, one-mul) (held_set ws (i / 64) (i % 64) (omega arith) (omega arith) ∙ rw p)
  held_mark false {v} e =
      let z : (v * 2 ^ (i % 64)) % 2 ^ 64 ≡ 0 = rw (e, zero-mul) in
      rw (z, or_zero_r, set-get_or) (sym (ap (set (held ws) i) (sym free) ∙ set-get_or (held ws) i 0))

-- COUNTING
ones_zero : 0 ≡ ones 0
unfolding ones ones_in
ones_zero = refl

sum_digits : (k w : ℕ) → w < 2 ^ k → sum (binary_digits k w) ≡ ones w
unfolding binary_digits sum
sum_digits zero w h = let e : w ≡ 0 = omega arith in rw e ones_zero
sum_digits (suc k) w h =
    let p : 2 ^ suc k ≡ 2 ^ k * 2 = pow-suc 2 k in
    rw (ones_step w, sum_digits k (w / 2) (omega arith))

module _ (ws : List ℕ) (i : ℕ) where
  -- a turn counts the ones of the next word
  pub held_step : i < length ws → get_or ws i 0 < 2 ^ 64 → sum (held (drop i ws)) ≡ ones (get_or ws i 0) + sum (held (drop (i + 1) ws))
  unfolding held
  held_step h l = rw (add-one i, drop-cons ws i 0 h, sum_append, sum_digits 64 (get_or ws i 0) l)

  -- after the last word none is left to count
  pub held_end : length ws ≤ i → sum (held (drop i ws)) ≡ 0
  unfolding held sum
  held_end h = rw (drop_of_length-le ws {i = i} h)
