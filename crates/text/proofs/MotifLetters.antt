-- The letters of a motif, read off its number.
use mathlib.Core.Path.{◌≡◌, refl}
use mathlib.Core.List.{[], ◌∷◌, ◌++◌, map-append}
use Prim.Native.Nat.{ℕ, zero, suc, ◌+◌, ◌-◌, ◌*◌, ◌/◌, ◌%◌, ◌^◌, ◌≤◌, ◌<◌}
use native.Mathlib.Numerals.{add-one}
use native.Mathlib.Omega.{arith}
use lib.ListN.{length, length-take, length-map}
use lib.Seq.{take-suc}
use Rattle.rules.specs.Letters.{letter}
use Rattle.rules.specs.Motif.{spell}
use Rattle.rules.proofs.Spelling.{length_spell, spell_at}
use Rattle.text.specs.Printed.{motif_letters}

-- four to the power of k as a shift
fours : (k : ℕ) → 4 ^ k ≡ 2 ^ (2 * k)
fours zero = refl
fours (suc k) = let e : 2 * suc k ≡ suc (suc (2 * k)) = omega arith in rw e (omega (arith, fours k))

-- no letter
pub letters_none : (j m : ℕ) → [] ≡ motif_letters 0 j m
unfolding motif_letters
letters_none j m = refl

-- one letter more, read off by a shift
pub letters_more : (i j m : ℕ) {b : ℕ} → i < j → b ≡ letter ((m / 2 ^ (2 * (j - 1 - i))) % 4) → motif_letters i j m ++ (b ∷ []) ≡ motif_letters (i + 1) j m
unfolding motif_letters
letters_more i j m {b} h e =
    let l : i < length (spell 4 j m) = rw length_spell h in
    rw (e, add-one, take-suc (spell 4 j m) i 0 l, spell_at 4 j m i h, fours (j - 1 - i), map-append)

-- so many letters are so many bytes
pub length_letters : (i j m : ℕ) → i ≤ j → length (motif_letters i j m) ≡ i
unfolding motif_letters
length_letters i j m h = simp (length-map, length-take, length_spell) (omega arith)
