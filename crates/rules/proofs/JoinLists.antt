-- A JOIN'S LIST rises from above 0 exactly if it is not bad: it goes from its front, each position above the one before it.
use mathlib.Core.Path.{◌≡◌, sym}
use mathlib.Core.Logic.Iff
use mathlib.Core.Logic.{◌↔◌, ◌⊎◌, inl, inr, ⊎_elim}
use mathlib.Core.Bool.{false, ◌&&◌, false≢true}
use mathlib.Core.List.{List, [], ◌∷◌}
use Prim.Native.Nat.{ℕ, zero, suc, ◌≤◌, ◌<◌}
use native.Mathlib.Omega.{arith}
use lib.Dec.{leb, ltb}
use lib.ListN.{length, get_or}
use borrow.Author.Tests.{ltb-false, leb-false, le-ltb, lt-leb}
use Rattle.rules.specs.Join.{is_rising}
use Rattle.rules.specs.Limits.{sequence_set_letters}
use Rattle.rules.specs.Refused.{Outside, BadList}
use Rattle.rules.proofs.Tests.{and_false, of_three_fails}

-- a list that does not rise from above l begins at l or below it, or is bad
not_rising : (l : ℕ) (xs : List ℕ) → is_rising l xs ≡ false → ((0 < length xs) × (get_or xs 0 0 ≤ l)) ⊎ BadList xs
unfolding is_rising
not_rising l [] e = absurd (false≢true (sym e))
not_rising l (x ∷ xs) e = go ((of_three_fails _ _ _ Iff.rfl Iff.rfl Iff.rfl).0 e) (not_rising x xs)
  where
    later : ((0 < length xs) × (get_or xs 0 0 ≤ x)) ⊎ BadList xs → BadList (x ∷ xs)
    later (inl h) = inl (0, omega (arith, h.0), h.1)
    later (inr (inl (i, h, b))) = inl (suc i, omega arith, b)
    later (inr (inr (i, h, b))) = inr (suc i, omega arith, b)

    go : (ltb l x ≡ false) ⊎ (leb x sequence_set_letters ≡ false) ⊎ (is_rising x xs ≡ false) → (is_rising x xs ≡ false → ((0 < length xs) × (get_or xs 0 0 ≤ x)) ⊎ BadList xs)
        → ((0 < suc (length xs)) × (x ≤ l)) ⊎ BadList (x ∷ xs)
    go (inl q) ih = inl (omega arith, ltb-false l x q)
    go (inr (inl q)) ih = inr (inr (0, omega arith, inr (leb-false x sequence_set_letters q)))
    go (inr (inr q)) ih = inr (later (ih q))

-- a list with two positions that do not rise does not rise
pair_falls : (l : ℕ) (xs : List ℕ) (i : ℕ) → suc i < length xs → get_or xs (suc i) 0 ≤ get_or xs i 0 → is_rising l xs ≡ false
unfolding is_rising
pair_falls l [] i h b = absurd (omega arith)
pair_falls l (x ∷ []) i h b = absurd (omega arith)
pair_falls l (x ∷ y ∷ ys) zero h b = rw (le-ltb x y b) (and_false (ltb l x && leb x sequence_set_letters))
pair_falls l (x ∷ y ∷ ys) (suc i) h b = rw (pair_falls x (y ∷ ys) i (omega arith) b) (and_false (ltb l x && leb x sequence_set_letters))

-- nor does one with a position outside 1 to 65,536
one_misplaced : (l : ℕ) (xs : List ℕ) (i : ℕ) → i < length xs → Outside 1 sequence_set_letters (get_or xs i 0) → is_rising l xs ≡ false
unfolding is_rising
one_misplaced l [] i h b = absurd (omega arith)
one_misplaced l (x ∷ xs) zero h (inl b) = rw (le-ltb l x (omega arith))
one_misplaced l (x ∷ xs) zero h (inr b) = rw (lt-leb x sequence_set_letters b, and_false (ltb l x))
one_misplaced l (x ∷ xs) (suc i) h b = rw (one_misplaced x xs i (omega arith) b) (and_false (ltb l x && leb x sequence_set_letters))

-- so a list rises from above 0 exactly if it is not bad
pub rising_says : (xs : List ℕ) → (is_rising 0 xs ≡ false) ↔ BadList xs
rising_says xs = (
  λ e. ⊎_elim (λ h. inr (0, h.0, inl (omega (arith, h.1)))) (λ b. b) (not_rising 0 xs e),
  ⊎_elim (λ h. pair_falls 0 xs h.0 h.1 h.2) (λ h. one_misplaced 0 xs h.0 h.1 h.2),
)
