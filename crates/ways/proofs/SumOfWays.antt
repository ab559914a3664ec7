-- The library's sum of a list is that of the rules.
use mathlib.Core.Path.{◌≡◌, refl, ◌∙◌}
use mathlib.Core.List.{List, [], ◌∷◌, map}
use Prim.Native.Nat.{ℕ, zero, suc, ◌+◌, ◌<◌}
use Rattle.std.specs.List as std
use Rattle.std.proofs.lemmas.List.Sums.{sum_by-cons}
use native.Mathlib.Numerals.{add-one}
use Rattle.rules.specs.Lists.{run, sum}

pub total : (xs : List ℕ) → std.sum xs ≡ sum xs
unfolding sum
total [] = refl
total (x ∷ xs) = sum_by-cons (λ x. x) x xs ∙ rw (total xs)

pub total_is : (xs : List ℕ) {n : ℕ} → n ≡ std.sum xs → n ≡ sum xs
total_is xs e = e ∙ total xs

pub total_fits : (xs : List ℕ) {n : ℕ} → sum xs < n → std.sum xs < n
total_fits xs h = rw (total xs) h

-- the library's range, mapped by offset, is the rules' run of positions
pub mapped : (f : ℕ → ℕ) (a n : ℕ) → map (λ i. f (suc i)) (std.range_with_len a n) ≡ map f (run (suc a) n)
unfolding run
mapped f a zero = refl
mapped f a (suc n) = rw (mapped f (a + 1) n, add-one a)
