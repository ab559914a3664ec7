-- Lists that rise. Read from the front, each position is tested against the one before it; so none is above a later one.
use mathlib.Core.Path.{◌≡◌}
use mathlib.Core.Bool.{true, false}
use mathlib.Core.List.{List, [], ◌∷◌}
use Prim.Native.Nat.{ℕ, zero, suc, ◌+◌, ◌≤◌, ◌<◌}
use native.Mathlib.Numerals.{add-one}
use native.Mathlib.Omega.{arith}
use lib.Dec.{leb, ltb}
use lib.ListN.{length, drop, get_or, drop_of_length-le}
use lib.Seq.{drop-cons}
use borrow.Author.Tests.{ltb-true, leb-true}
use Rattle.rules.specs.Join.{is_rising}
use Rattle.rules.specs.Limits.{sequence_set_letters}
use Rattle.rules.proofs.Tests.{both}
use Rattle.joins.specs.Pass.{is_following}

module _ (xs : List ℕ) (last i : ℕ) where
  -- from i on a list does not rise after a position that the next may not follow
  pub rises_not : i < length xs → is_following last (get_or xs i 0) ≡ false → is_rising last (drop i xs) ≡ false
  unfolding is_rising
  rises_not h e = rw (drop-cons xs i 0 h, e)

  -- after one that it may follow, the list rises if it does so after the next
  pub rises_on : i < length xs → is_following last (get_or xs i 0) ≡ true → is_rising last (drop i xs) ≡ is_rising (get_or xs i 0) (drop (i + 1) xs)
  unfolding is_rising
  rises_on h e = rw (drop-cons xs i 0 h, e, add-one i)

  -- where nothing is left it rises
  pub rises_end : length xs ≤ i → is_rising last (drop i xs) ≡ true
  unfolding is_rising
  rises_end h = rw (drop_of_length-le xs {i = i} h)

-- a list that rises, taken apart
rising_parts : (last p : ℕ) (ps : List ℕ) → is_rising last (p ∷ ps) ≡ true → (last < p) × (p ≤ sequence_set_letters) × (is_rising p ps ≡ true)
unfolding is_rising
rising_parts last p ps r =
    let t = (both (is_following last p) (is_rising p ps)).0 r in
    let s = (both (ltb last p) (leb p sequence_set_letters)).0 t.0 in
    (ltb-true _ _ s.0, leb-true _ _ s.1, t.1)

-- every position of a list that rises is above the one that it rises from, and none is past the last letter
pub rising_at : (last : ℕ) (xs : List ℕ) → is_rising last xs ≡ true → (i : ℕ) → i < length xs → (last < get_or xs i 0) × (get_or xs i 0 ≤ sequence_set_letters)
rising_at last [] r i h = absurd (omega arith)
rising_at last (p ∷ ps) r zero h = let t = rising_parts last p ps r in (t.0, t.1)
rising_at last (p ∷ ps) r (suc i) h =
    let t = rising_parts last p ps r in
    let later = rising_at p ps t.2 i (omega arith) in
    (omega arith, later.1)

-- no position is above a later one
pub rising_order : (last : ℕ) (xs : List ℕ) → is_rising last xs ≡ true → (i j : ℕ) → i ≤ j → j < length xs → get_or xs i 0 ≤ get_or xs j 0
rising_order last [] r i j l h = absurd (omega arith)
rising_order last (p ∷ ps) r zero zero l h = omega arith
rising_order last (p ∷ ps) r zero (suc j) l h = omega (arith, rising_at p ps (rising_parts last p ps r).2 j (omega arith))
rising_order last (p ∷ ps) r (suc i) zero l h = absurd (omega arith)
rising_order last (p ∷ ps) r (suc i) (suc j) l h = rising_order p ps (rising_parts last p ps r).2 i j (omega arith) (omega arith)
