-- Mixed letters as sets of bases, in one number each, which is how the code has them: 1 for A, 2 for C, 4 for G, 8 for T, added. What is
-- said of each letter and each base is computed, by one test of the table.
use mathlib.Core.Bool.{Bool, true, false, ◌&&◌, ◌||◌, not, or-false}
use mathlib.Core.List.{List, [], ◌∷◌, map}
use mathlib.Core.Path.{◌≡◌, refl, sym, ◌∙◌}
use Prim.Native.Nat.{ℕ, zero, suc, ◌/◌, ◌%◌, ◌^◌, ◌≤◌, ◌<◌}
use native.Mathlib.Omega.{arith}
use lib.Dec.{eqb}
use lib.ListN.{get_or, get_or-eq_default, get_or-map}
use borrow.Author.Tests.{eqb-true}
use Rattle.rules.specs.Letters.{A, C, G, T, value}
use Rattle.rules.specs.Limits.{letter_bases, letter_mark, letter_symbols}
use Rattle.rules.specs.Lists.{if, all_pass, is_member, run, sum}
use Rattle.rules.specs.Profile.{bases, base_sets, has_base, stands_for}
use Rattle.rules.proofs.All.{all_members}
use Rattle.rules.proofs.Stands.{run_in}
use Rattle.rules.proofs.Tests.{both, not_passes, and_true, and_false}

-- a value is at most the mark
pub value_most : (b : ℕ) → value b ≤ letter_mark
unfolding value
value_most b = go (eqb b 65) (eqb b 67) (eqb b 71) (eqb b 84)
  where
    go : (a c g t : Bool) → if a A (if c C (if g G (if t T letter_mark))) ≤ letter_mark
    go true c g t = omega arith
    go false true g t = omega arith
    go false false true t = omega arith
    go false false false true = omega arith
    go false false false false = omega arith

-- past the letters the set is empty
pub no_set : (x : ℕ) → letter_symbols ≤ x → get_or base_sets x 0 ≡ 0
unfolding base_sets bases
no_set x h = get_or-eq_default base_sets 0 h

-- THE TABLE. The number of a set has the bit of each base that is in it, and no other
abbrev set_of : List ℕ → ℕ
set_of ys = sum (map (λ y. 2 ^ y) ys)

right : List ℕ → ℕ → Bool
right ys y = eqb (set_of ys / 2 ^ y % 2) (if (is_member y ys) 1 0)

all_right : all_pass (λ ys. all_pass (right ys) (run 0 5)) bases ≡ true
unfolding all_pass right bases is_member run sum
all_right = refl

none_right : all_pass (right []) (run 0 5) ≡ true
unfolding all_pass right is_member run sum
none_right = refl

-- what passes a test wherever it stands in a list, and past it, passes at any place
at_any : {A : Type 0} (f : A → Bool) (d : A) (l : List A) → f d ≡ true → all_pass f l ≡ true → (i : ℕ) → f (get_or l i d) ≡ true
unfolding all_pass
at_any f d [] h e i = h
at_any f d (x ∷ l) h e zero = ((both (f x) _).0 e).0
at_any f d (x ∷ l) h e (suc i) = at_any f d l h ((both (f x) _).0 e).1 i

-- the mark is in none
pub no_mark : (x : ℕ) → stands_for x letter_mark ≡ false
unfolding all_pass bases is_member stands_for
no_mark x = (not_passes _).0 (at_any (λ ys. not (is_member letter_mark ys)) [] bases refl refl x)

module _ (x y : ℕ) (small : y ≤ 4) where
  right_at : right (get_or bases x []) y ≡ true
  right_at =
      (all_members (right (get_or bases x [])) (run 0 5)).0
      (at_any (λ ys. all_pass (right ys) (run 0 5)) [] bases none_right all_right x) y (run_in 0 5 y (omega arith) (omega arith))

  set_at : get_or base_sets x 0 ≡ set_of (get_or bases x [])
  unfolding base_sets sum
  set_at = get_or-map (λ ys. set_of ys) bases x []

  set_bit : get_or base_sets x 0 / 2 ^ y % 2 ≡ if (stands_for x y) 1 0
  unfolding stands_for right
  set_bit = rw set_at (eqb-true _ _ right_at)

  -- a letter stands for the bases that are in its set
  pub stands_for_has : stands_for x y ≡ has_base (get_or base_sets x 0) y
  unfolding has_base
  stands_for_has = go (stands_for x y) set_bit
    where
      go : (b : Bool) {n : ℕ} → n ≡ if b 1 0 → b ≡ eqb n 1
      go true e = rw e
      go false e = rw e

-- so it fits what one of these fits
pub stands_for_or : (x y : ℕ) → y ≤ 4
    → stands_for x y
    ≡ (has_base (get_or base_sets x 0) A && eqb A y) || (has_base (get_or base_sets x 0) C && eqb C y) || (has_base (get_or base_sets x 0) G && eqb G y) || (has_base (get_or base_sets x 0) T && eqb T y)
stands_for_or x zero h = stands_for_has x 0 h ∙ sym (simp (and_true, and_false, or-false))
stands_for_or x (suc zero) h = stands_for_has x 1 h ∙ sym (simp (and_true, and_false, or-false))
stands_for_or x (suc (suc zero)) h = stands_for_has x 2 h ∙ sym (simp (and_true, and_false, or-false))
stands_for_or x (suc (suc (suc zero))) h = stands_for_has x 3 h ∙ sym (simp (and_true, and_false))
stands_for_or x (suc (suc (suc (suc zero)))) h = no_mark x ∙ sym (simp and_false)
stands_for_or x (suc (suc (suc (suc (suc y))))) h = absurd (omega arith)

same_if : (b : Bool) → if b true false ≡ b
same_if true = refl
same_if false = refl

-- the first four letters stand for themselves alone
pub base_alone : (x y : ℕ) → x < letter_bases → stands_for x y ≡ eqb y x
unfolding stands_for bases is_member
base_alone zero y l = same_if (eqb y 0)
base_alone (suc zero) y l = same_if (eqb y 1)
base_alone (suc (suc zero)) y l = same_if (eqb y 2)
base_alone (suc (suc (suc zero))) y l = same_if (eqb y 3)
base_alone (suc (suc (suc (suc x)))) y l = absurd (omega arith)
