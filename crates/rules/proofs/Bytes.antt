-- Bytes in the place of values: a letter's byte equals a byte exactly if its value equals that byte's, so letters stand in the
-- bytes of a sequence just where they stand in its values.
use mathlib.Core.Bool.{Bool, true, false}
use mathlib.Core.List.{List, [], ◌∷◌, map}
use mathlib.Core.Path.{◌≡◌, refl, sym}
use Prim.Native.Nat.{ℕ, zero, suc, ◌<◌}
use native.Mathlib.Omega.{arith}
use lib.Dec.{eqb}
use lib.ListN.{drop, get_or}
use borrow.Author.Tests.{eqb-true, eqb-false, eq-eqb, ne_eqb}
use Rattle.rules.specs.Letters.{letter, value}
use Rattle.rules.specs.Limits.{letter_bases}
use Rattle.rules.specs.Lists.{if}
use Rattle.rules.specs.Occurrence.{front, front_by, stands, stands_by}
use Rattle.rules.proofs.Tables.{map_drop}

-- ---- one letter

value_letter : (d : ℕ) → d < letter_bases → value (letter d) ≡ d
unfolding value letter
value_letter zero h = refl
value_letter (suc zero) h = refl
value_letter (suc (suc zero)) h = refl
value_letter (suc (suc (suc zero))) h = refl
value_letter (suc (suc (suc (suc d)))) h = absurd (omega arith)

letter_value : (b : ℕ) → value b < letter_bases → letter (value b) ≡ b
unfolding value letter
letter_value b h = go (eqb b 65) (eqb b 67) (eqb b 71) (eqb b 84) (eqb-true b 65) (eqb-true b 67) (eqb-true b 71) (eqb-true b 84) h
  where
    go : (a c g t : Bool) → (a ≡ true → b ≡ 65) → (c ≡ true → b ≡ 67) → (g ≡ true → b ≡ 71) → (t ≡ true → b ≡ 84) → if a 0 (if c 1 (if g 2 (if t 3 4))) < 4 → letter (if a 0 (if c 1 (if g 2 (if t 3 4)))) ≡ b
    go true c g t A C G T h = sym (A refl)
    go false true g t A C G T h = sym (C refl)
    go false false true t A C G T h = sym (G refl)
    go false false false true A C G T h = sym (T refl)
    go false false false false A C G T h = absurd (omega arith)

same_letter : (d b : ℕ) → d < letter_bases → eqb (letter d) b ≡ eqb d (value b)
same_letter d b h = go (eqb (letter d) b) refl
  where
    go : (x : Bool) → eqb (letter d) b ≡ x → x ≡ eqb d (value b)
    go true e = sym (eq-eqb d (value b) (rw (← (eqb-true (letter d) b e)) (sym (value_letter d h))))
    go false e = sym (ne_eqb d (value b) (λ q. eqb-false (letter d) b e (rw q (letter_value b (rw (← q) h)))))

-- ---- letters that stand

-- letters, each below the base
abbrev pub Digits : List ℕ → Type 0
Digits w = (i : ℕ) → get_or w i 0 < letter_bases

front_bytes : (w s : List ℕ) → Digits w → front (map letter w) s ≡ front w (map value s)
unfolding front_by
front_bytes [] s h = refl
front_bytes (x ∷ w) [] h = refl
front_bytes (x ∷ w) (y ∷ s) h = rw (same_letter x y (h 0), front_bytes w s (λ i. h (suc i)))

pub stands_bytes : (w s : List ℕ) → Digits w → (p : ℕ) → stands (map letter w) s p ≡ stands w (map value s) p
unfolding stands_by
stands_bytes w s h zero = refl
stands_bytes w s h (suc o) = rw (map_drop value o s) (front_bytes w (drop o s) h)
