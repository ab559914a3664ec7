-- A test of every byte, and a number read digit by digit.
use mathlib.Core.Path.{◌≡◌, refl, sym, ap, ◌∙◌}
use mathlib.Core.Bool.{Bool, true, false, ◌&&◌, ◌||◌, not}
use mathlib.Core.List.{List, [], ◌∷◌}
use Prim.Native.Nat.{ℕ, suc, ◌+◌, ◌-◌, ◌*◌, ◌^◌, ◌≤◌, ◌<◌}
use native.Mathlib.Nat.{le_trans, pow-succ', pow-le-pow_right}
use native.Mathlib.Numerals.{add-one}
use native.Mathlib.Omega.{arith}
use lib.Dec.{eqb, leb}
use lib.ListN.{length, drop, get_or, length-drop, drop_of_length-le}
use lib.Seq.{drop-cons}
use borrow.Author.Tests.{eq-eqb, ne_eqb, eqb-true, eqb-false}
use Rattle.std.specs.List.{list_all, starts_with}
use Rattle.rules.proofs.All.{member_at}
use Rattle.rules.proofs.Tests.{and_true}
use Rattle.rules.proofs.TextNumbers.{digits_all, number_says, digits_cons}
use Rattle.rules.specs.Lists.{all_pass, has_some}
use Rattle.rules.specs.Motif.{number}
use Rattle.rules.specs.Text.{is_in_range, is_number_text, digits, is_run}

-- ---- every byte

-- the rule's word for it, and the library's
all_is : (f : ℕ → Bool) (l : List ℕ) → list_all f l ≡ all_pass f l
unfolding all_pass
all_is f [] = refl
all_is f (x ∷ xs) = ap (λ t. f x && t) (all_is f xs)

-- a run of N is a text that is not empty and has nothing else
pub run_is : (l : List ℕ) {z r : Bool} → z ≡ eqb (length l) 0 → r ≡ list_all (λ b. eqb b 78) l → not z && r ≡ is_run l
unfolding is_run has_some
run_is [] z e = rw z
run_is (x ∷ xs) z e = rw (z, ne_eqb (suc (length xs)) 0 (λ w. omega (arith, w))) (e ∙ all_is (λ b. eqb b 78) (x ∷ xs))

-- ---- a number

-- no digit is left
pub digits_none : (i : ℕ) (l : List ℕ) → length l ≤ i → digits (drop i l) ≡ 0
unfolding digits number
digits_none i l h = rw (drop_of_length-le l {i = i} h)

-- a digit more of those that are read: v is what the first i make
module _ (i v : ℕ) (l : List ℕ) (h : i < length l) where
  digits_at : digits (drop i l) ≡ (get_or l i 0 - 48) * 10 ^ (length l - (i + 1)) + digits (drop (i + 1) l)
  digits_at = rw (drop-cons l i 0 h, digits_cons, length-drop, add-one)

  -- ten times what was read, and the digit
  pub digits_more : digits l ≡ v * 10 ^ (length l - i) + digits (drop i l) → digits l ≡ (10 * v + (get_or l i 0 - 48)) * 10 ^ (length l - (i + 1)) + digits (drop (i + 1) l)
  digits_more e =
      let j : length l - i ≡ suc (length l - (i + 1)) = omega arith in
      e ∙ rw (j, pow-succ', digits_at) (omega arith)

  -- a digit is from 0 to 9
  pub digit_low : all_pass (is_in_range 48 57) l ≡ true → 48 ≤ get_or l i 0
  digit_low e = ((digits_all l).0 e (get_or l i 0) (member_at l i 0 h)).0

  -- and at most 9
  pub digit_high : all_pass (is_in_range 48 57) l ≡ true → get_or l i 0 ≤ 57
  digit_high e = ((digits_all l).0 e (get_or l i 0) (member_at l i 0 h)).1

-- ---- the rule of a number

eqb_comm : (x y : ℕ) → eqb x y ≡ eqb y x
eqb_comm x y = go (eqb y x) refl
  where
    go : (t : Bool) → eqb y x ≡ t → eqb x y ≡ t
    go true e = eq-eqb x y (sym (eqb-true y x e))
    go false e = ne_eqb x y (λ w. eqb-false y x e (sym w))

-- whether the first digit is 0
leading_is : (l : List ℕ) → starts_with eqb l (48 ∷ []) ≡ eqb (get_or l 0 0) 48
leading_is [] = refl
leading_is (x ∷ xs) = and_true (eqb 48 x) ∙ eqb_comm 48 x

-- the four tests are those of the rule
pub number_is : (most : ℕ) (l : List ℕ) {r z : Bool} → r ≡ list_all (is_in_range 48 57) l → z ≡ starts_with eqb l (48 ∷ [])
    → leb 1 (length l) && leb (length l) most && r && (eqb (length l) 1 || not z) ≡ is_number_text most l
unfolding is_number_text
number_is most l d z = rw (d, all_is (is_in_range 48 57) l, z, leading_is l)

module _ (most : ℕ) (l : List ℕ) (e : is_number_text most l ≡ true) where
  -- its bytes are digits
  pub number_digits : all_pass (is_in_range 48 57) l ≡ true
  number_digits = (digits_all l).1 ((number_says most l).0 e).all_digits

  -- it has no more digits than it may
  pub number_long : length l ≤ most
  number_long = ((number_says most l).0 e).few

  -- so what the digits make is below ten to that power
  pub number_below : {v : ℕ} → v < 10 ^ length l → v < 10 ^ most
  number_below h = le_trans h (pow-le-pow_right (omega arith) number_long)
