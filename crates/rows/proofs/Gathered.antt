-- Eight bytes in a word: its digits are those of the bytes, one byte after another. And the lowest digits of its bytes moved together: the
-- masks leave so few that of the two places which a step joins one has 0.
use mathlib.Core.List.{List, [], ◌∷◌}
use mathlib.Core.Path.{◌≡◌, refl, sym, ap, ◌∙◌}
use Prim.Native.Nat.{ℕ, zero, suc, ◌+◌, ◌*◌, ◌/◌, ◌%◌, ◌^◌, ◌<◌}
use native.Mathlib.Nat.{max-zero, zero-max, min-zero, pow-suc, mul_assoc}
use native.Mathlib.Omega.{arith}
use lib.Bits.{bit_and, bit_or, and_le_r}
use lib.ListN.{get_or, drop}
use lib.Seq.{get_or-drop}
use Rattle.std.specs.Int.{from_le_bytes, w64}
use Rattle.rules.specs.Saved.{read_low, Bytes}
use Rattle.rules.proofs.LowFirst.{bytes_drop}
use Rattle.rows.specs.Bits.{held}
use Rattle.rows.proofs.Bits.{word_bit}
use Rattle.rows.proofs.Digits.{digit, digit_and, digit_or, digit_shr, digit_mod}

-- EIGHT BYTES. One more is put past those that are read
next : (bs : List ℕ) (n : ℕ) → get_or (drop 1 bs) n 0 ≡ get_or bs (suc n) 0
next bs n = let e : 1 + n ≡ suc n = omega arith in get_or-drop 1 bs n 0 ∙ ap (λ (i : ℕ). get_or bs i 0) e

read_last : (n : ℕ) (bs : List ℕ) → read_low (suc n) bs ≡ get_or bs n 0 * 256 ^ n + read_low n bs
unfolding read_low
read_last zero bs = omega arith
read_last (suc n) bs =
    let e : get_or (drop 1 bs) n 0 ≡ get_or bs (suc n) 0 = next bs n in
    let m : get_or bs (suc n) 0 * 256 ^ suc n ≡ get_or (drop 1 bs) n 0 * 256 ^ n * 256 =
    rw (pow-suc, ← e) (sym (mul_assoc (get_or (drop 1 bs) n 0) (256 ^ n) 256)) in
    omega (arith, m, read_last n (drop 1 bs))

-- what `from_le_bytes` makes of eight bytes
pub read_eight : (bs : List ℕ) → from_le_bytes w64 bs ≡ read_low 8 bs
unfolding read_low
read_eight bs =
    omega (arith, read_last 0 bs, read_last 1 bs, read_last 2 bs, read_last 3 bs, read_last 4 bs, read_last 5 bs, read_last 6 bs, read_last 7 bs)

-- digit i of byte p
pub read_digit : (n : ℕ) (bs : List ℕ) → Bytes bs → (p i : ℕ) → p < n → i < 8 → digit (read_low n bs) (8 * p + i) ≡ digit (get_or bs p 0) i
unfolding read_low
read_digit zero bs bytes p i h l = absurd (omega arith)
read_digit (suc n) bs bytes zero i h l =
    let w = read_low (suc n) bs in
    let e : 8 * 0 + i ≡ i = omega arith in
    let f : w % 2 ^ 8 ≡ get_or bs 0 0 = omega (arith, bytes 0) in
    rw e (sym (digit_mod 8 w i l) ∙ ap (λ (x : ℕ). digit x i) f)
read_digit (suc n) bs bytes (suc p) i h l =
    let w = read_low (suc n) bs in
    let e : 8 * suc p + i ≡ 8 + (8 * p + i) = omega arith in
    let f : w / 2 ^ 8 ≡ read_low n (drop 1 bs) = omega (arith, bytes 0) in
    rw e
    (sym (digit_shr w 8 (8 * p + i))
    ∙ ap (λ (x : ℕ). digit x (8 * p + i)) f
    ∙ read_digit n (drop 1 bs) (bytes_drop 1 bs bytes) p i (omega arith) l
    ∙ ap (λ (x : ℕ). digit x i) (next bs p))

-- THE LOWEST DIGITS. What a mask lets stand
module _ (x m p : ℕ) where
  in_mask : digit m p ≡ 1 → digit (bit_and x m) p ≡ digit x p
  unfolding digit
  in_mask e = digit_and x m p ∙ omega (arith, e)

  out_mask : digit m p ≡ 0 → digit (bit_and x m) p ≡ 0
  out_mask e = digit_and x m p ∙ rw (e, min-zero)

-- a step joins place p and the one k further up, of a word that has a mask n already, under its own mask m: here the digit stays, and
-- here it comes from further up
module _ (k m y n p : ℕ) (e : digit m p ≡ 1) where
  abbrev stepped : ℕ
  stepped = bit_and (bit_or (bit_and y n) (bit_and y n / 2 ^ k)) m

  joined : digit stepped p ≡ digit (bit_or (bit_and y n) (bit_and y n / 2 ^ k)) p
  joined = in_mask (bit_or (bit_and y n) (bit_and y n / 2 ^ k)) m p e

  stays : digit n (k + p) ≡ 0 → digit stepped p ≡ digit (bit_and y n) p
  stays z = joined ∙ digit_or (bit_and y n) (bit_and y n / 2 ^ k) p ∙ rw (digit_shr (bit_and y n) k p, out_mask y n (k + p) z, max-zero)

  comes : digit n p ≡ 0 → digit stepped p ≡ digit (bit_and y n) (k + p)
  comes z = joined ∙ digit_or (bit_and y n) (bit_and y n / 2 ^ k) p ∙ rw (digit_shr (bit_and y n) k p, out_mask y n p z, zero-max)

module _ (z : ℕ) where
  -- the masks of the code: one digit in eight, two in sixteen, four in thirty-two
  abbrev ones : ℕ
  ones = 72340172838076673

  abbrev pairs : ℕ
  pairs = 844437815230467

  abbrev fours : ℕ
  fours = 64424509455

  abbrev alone : ℕ
  alone = bit_and z ones

  abbrev joined_two : ℕ
  joined_two = bit_or alone (alone / 2 ^ 7)

  abbrev two : ℕ
  two = bit_and joined_two pairs

  abbrev joined_four : ℕ
  joined_four = bit_or two (two / 2 ^ 14)

  abbrev four : ℕ
  four = bit_and joined_four fours

  abbrev all : ℕ
  all = bit_and (bit_or four (four / 2 ^ 28)) 255

  all_digit : (p : ℕ) → p < 8 → digit all p ≡ digit z (8 * p)
  unfolding digit
  all_digit zero h =
      stays 28 255 joined_four fours 0 refl refl ∙ stays 14 fours joined_two pairs 0 refl refl ∙ stays 7 pairs z ones 0 refl refl
      ∙ in_mask z ones 0 refl
  all_digit (suc zero) h =
      stays 28 255 joined_four fours 1 refl refl ∙ stays 14 fours joined_two pairs 1 refl refl ∙ comes 7 pairs z ones 1 refl refl
      ∙ in_mask z ones 8 refl
  all_digit (suc (suc zero)) h =
      stays 28 255 joined_four fours 2 refl refl ∙ comes 14 fours joined_two pairs 2 refl refl ∙ stays 7 pairs z ones 16 refl refl
      ∙ in_mask z ones 16 refl
  all_digit (suc (suc (suc zero))) h =
      stays 28 255 joined_four fours 3 refl refl ∙ comes 14 fours joined_two pairs 3 refl refl ∙ comes 7 pairs z ones 17 refl refl
      ∙ in_mask z ones 24 refl
  all_digit (suc (suc (suc (suc zero)))) h =
      comes 28 255 joined_four fours 4 refl refl ∙ stays 14 fours joined_two pairs 32 refl refl ∙ stays 7 pairs z ones 32 refl refl
      ∙ in_mask z ones 32 refl
  all_digit (suc (suc (suc (suc (suc zero))))) h =
      comes 28 255 joined_four fours 5 refl refl ∙ stays 14 fours joined_two pairs 33 refl refl ∙ comes 7 pairs z ones 33 refl refl
      ∙ in_mask z ones 40 refl
  all_digit (suc (suc (suc (suc (suc (suc zero)))))) h =
      comes 28 255 joined_four fours 6 refl refl ∙ comes 14 fours joined_two pairs 34 refl refl ∙ stays 7 pairs z ones 48 refl refl
      ∙ in_mask z ones 48 refl
  all_digit (suc (suc (suc (suc (suc (suc (suc zero))))))) h =
      comes 28 255 joined_four fours 7 refl refl ∙ comes 14 fours joined_two pairs 35 refl refl ∙ comes 7 pairs z ones 49 refl refl
      ∙ in_mask z ones 56 refl
  all_digit (suc (suc (suc (suc (suc (suc (suc (suc p)))))))) h = absurd (omega arith)

  pub gathered : (all < 256) × ((p : ℕ) → p < 8 → get_or (held (all ∷ [])) p 0 ≡ get_or (held (z ∷ [])) (8 * p) 0)
  gathered = (
    omega (arith, and_le_r (bit_or four (four / 2 ^ 28)) 255),
    λ p h. word_bit all p (omega arith) ∙ all_digit p h ∙ sym (word_bit z (8 * p) (omega arith)),
  )
