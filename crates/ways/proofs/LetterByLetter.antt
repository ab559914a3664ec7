-- Whether letters stand at an offset, letter by letter: the letters from the j-th on stand where those before them do.
use mathlib.Core.Path.{◌≡◌, refl, sym, ap}
use mathlib.Core.Bool.{Bool, true, false, ◌&&◌}
use mathlib.Core.List.{List, [], ◌∷◌}
use Prim.Native.Nat.{ℕ, zero, suc, ◌-◌, ◌≤◌, ◌<◌}
use native.Mathlib.Omega.{arith}
use lib.ListN.{length, take, drop, length-drop}
use Rattle.std.specs.List.{list_all, zip}
use Rattle.rules.specs.Letters.{value}
use Rattle.rules.specs.Lists.{if}
use Rattle.rules.specs.Occurrence.{spare, stands_by, front_by}
use Rattle.rules.proofs.BaseSets.{value_most}
use Rattle.ways.specs.Counts.{fits_byte, stands_in_bytes, cell}

front_short : (f : ℕ → ℕ → Bool) (k : ℕ) (w s : List ℕ) → length s < length w → front_by f k w s ≡ false
unfolding front_by
front_short f k [] s h = absurd (omega arith)
front_short f k (x ∷ w) [] h = refl
front_short f k (x ∷ w) (y ∷ s) h = go (f x y) k (λ k. front_short f k w s (omega arith))
  where
    go : (b : Bool) (k : ℕ) → ((k : ℕ) → front_by f k w s ≡ false) → if b (front_by f k w s) (spare k false (λ k. front_by f k w s)) ≡ false
    go true k ih = ih k
    go false zero ih = refl
    go false (suc k) ih = ih k

-- letters that are more than what is left do not stand there
pub stands_by_short : (f : ℕ → ℕ → Bool) (k : ℕ) (w s : List ℕ) (o : ℕ) → length s - o < length w → false ≡ stands_by f k w s (suc o)
unfolding stands_by
stands_by_short f k w s o h = sym (front_short f k w (drop o s) (simp length-drop h))

pub stands_short : (w s : List ℕ) (o : ℕ) → length s - o < length w → false ≡ stands_in_bytes w s (suc o)
stands_short w s o h = stands_by_short fits_byte 0 w s o h

-- a value is one that can be looked up in a base set
pub value_small : (b : ℕ) {v : ℕ} → v ≡ value b → v < 8
value_small b e = rw e (omega (arith, value_most b))

-- what is past as many bytes as there are letters is beside none
pub zip_front : (w s : List ℕ) → zip w (take (length w) s) ≡ zip w s
zip_front [] s = refl
zip_front (x ∷ w) [] = refl
zip_front (x ∷ w) (y ∷ s) = ap (λ l. (x, y) ∷ l) (zip_front w s)

-- letters stand at the front if each fits the byte beside it
front_each : (w s : List ℕ) → length w ≤ length s → list_all (λ p. fits_byte p.0 p.1) (zip w s) ≡ front_by fits_byte 0 w s
unfolding front_by
front_each [] s h = refl
front_each (x ∷ w) [] h = absurd (omega arith)
front_each (x ∷ w) (y ∷ s) h = rw (front_each w s (omega arith)) (go (fits_byte x y))
  where
    go : (b : Bool) → b && front_by fits_byte 0 w s ≡ if b (front_by fits_byte 0 w s) false
    go true = refl
    go false = refl

-- and at an offset
pub stands_each : (w s : List ℕ) (o : ℕ) (left : List ℕ) → left ≡ drop o s → length w ≤ length left → list_all (λ p. fits_byte p.0 p.1) (zip w left) ≡ stands_in_bytes w s (suc o)
unfolding stands_by
stands_each w s o left e h = rw e (front_each w (drop o s) (rw (← e) h))

-- a cell has v where the letters stand
pub cell_true : (w s : List ℕ) (p v : ℕ) → true ≡ stands_in_bytes w s p → v ≡ cell w s p v
unfolding cell
cell_true w s p v e = simp (← e)

-- and where they do not
pub cell_false : (w s : List ℕ) (p v : ℕ) → false ≡ stands_in_bytes w s p → 0 ≡ cell w s p v
unfolding cell
cell_false w s p v e = simp (← e)

-- and where there is nothing to have
pub cell_none : (w s : List ℕ) (p v : ℕ) → v ≡ 0 → 0 ≡ cell w s p v
unfolding cell
cell_none w s p v e = rw e (go (stands_in_bytes w s p))
  where
    go : (b : Bool) → ◌≡◌ {A = ℕ} 0 (if b 0 0)
    go true = refl
    go false = refl
