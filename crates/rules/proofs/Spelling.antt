-- Letters and numbers: a motif is spelled from its number, and its number is read off its letters.
use mathlib.Core.List.{List, [], ◌∷◌, ◌++◌, map}
use mathlib.Core.Path.{◌≡◌, refl, sym, ap, ◌∙◌}
use Prim.Native.Nat.{ℕ, zero, suc, ◌+◌, ◌-◌, ◌*◌, ◌/◌, ◌%◌, ◌^◌, ◌≤◌, ◌<◌}
use native.Mathlib.Nat.{zero-add, suc-add, pow-zero, pow-suc, pow-succ', div-one, div-div-eq-div-mul, div-add-mod', div-lt_iff_lt-mul, mod-lt, mod-eq_of_lt, one-le-pow, mul-add-div_right, mul-add-mod_self_right, div-eq_of_lt, mul-le-mul_right}
use native.Mathlib.Numerals.{add-one}
use native.Mathlib.Omega.{arith}
use lib.ListN.{length, get_or, drop, set, length-append, length-set, drop_of_length-le}
use lib.Seq.{drop-cons, drop-set-lt, get_or-set_same}
use Rattle.rules.specs.Motif.{number, spell}

-- a letter more is the lowest digit
pub spell_more : (base j m : ℕ) → spell base (suc j) m ≡ spell base j (m / base) ++ (m % base ∷ [])
unfolding spell
spell_more base zero m = rw (pow-zero, div-one)
spell_more base (suc j) m = rw (pow-succ', ← (div-div-eq-div-mul m base (base ^ j))) (ap (λ w. (m / base / base ^ j) % base ∷ w) (spell_more base j m))

-- the number without its last letters, taken off one by one
pub rest_more : (base m i : ℕ) {rest : ℕ} → rest ≡ m / base ^ i → rest / base ≡ m / base ^ (i + 1)
rest_more base m i e = rw (e, add-one, pow-suc, div-div-eq-div-mul)

-- a number is spelt in as many letters as are asked for
pub length_spell : (base j m : ℕ) → length (spell base j m) ≡ j
unfolding spell
length_spell base zero m = refl
length_spell base (suc j) m = ap suc (length_spell base j m)

-- each letter lies below the base
pub spell_below : (base j m : ℕ) → 1 ≤ base → (i : ℕ) → get_or (spell base j m) i 0 < base
unfolding spell
spell_below base zero m h i = h
spell_below base (suc j) m h zero = mod-lt (m / base ^ j) h
spell_below base (suc j) m h (suc i) = spell_below base j m h i

-- with a letter more the number goes up a digit
pub number_more : (base : ℕ) (w : List ℕ) (x : ℕ) → number base (w ++ (x ∷ [])) ≡ number base w * base + x
unfolding number
number_more base [] x = rw pow-zero (omega arith)
number_more base (y ∷ w) x =
    let e : base ^ length (w ++ (x ∷ [])) ≡ base ^ length w * base = ap (λ n. base ^ n) (length-append w (x ∷ []) ∙ add-one (length w)) ∙ pow-suc base (length w) in
    omega (arith, ap (λ n. y * n) e, number_more base w x)

-- the letters of a number have that number
pub number_spell : (base j m : ℕ) → 1 ≤ base → m < base ^ j → number base (spell base j m) ≡ m
unfolding spell number
number_spell base zero m h l = omega (arith, pow-zero base)
number_spell base (suc j) m h l =
    let ih = number_spell base j (m / base) h ((div-lt_iff_lt-mul {x = m} {y = base ^ j} h).1 (rw pow-suc at l)) in
    ap (number base) (spell_more base j m) ∙ number_more base (spell base j (m / base)) (m % base) ∙ rw ih (div-add-mod' m base)

-- n letters below the base have a number below base ^ n
pub number_below : (base : ℕ) (w : List ℕ) → ((i : ℕ) → i < length w → get_or w i 0 < base) → number base w < base ^ length w
unfolding number
number_below base [] h = omega (arith, pow-zero base)
number_below base (x ∷ w) h = rw pow-suc (omega (arith, mul-le-mul_right (base ^ length w) (h 0 (omega arith)), number_below base w (λ i l. h (suc i) (omega arith))))

-- what stands above the j lowest letters does not show in them
spell_skip : (base j c m : ℕ) → 1 ≤ base → spell base j (c * base ^ j + m) ≡ spell base j m
unfolding spell
spell_skip base zero c m h = refl
spell_skip base (suc j) c m h =
    let e : c * base ^ suc j + m ≡ c * base * base ^ j + m = rw pow-suc (omega arith) in
    rw (e, mul-add-div_right (one-le-pow j base h) (c * base) m, mul-add-mod_self_right c base (m / base ^ j), spell_skip base j (c * base) m h)

-- and the letters of their number are they themselves
pub spell_number : (base : ℕ) (w : List ℕ) → ((i : ℕ) → i < length w → get_or w i 0 < base) → spell base (length w) (number base w) ≡ w
unfolding spell number
spell_number base [] h = refl
spell_number base (x ∷ w) h =
    let p : 1 ≤ base = omega (arith, h 0 (omega arith)) in
    let tail : (i : ℕ) → i < length w → get_or w i 0 < base = λ i l. h (suc i) (omega arith) in
    let top : (x * base ^ length w + number base w) / base ^ length w ≡ x = mul-add-div_right (one-le-pow (length w) base p) x (number base w) ∙ omega (arith, div-eq_of_lt (number_below base w tail)) in
    rw (top, mod-eq_of_lt (h 0 (omega arith)), spell_skip base (length w) x (number base w) p, spell_number base w tail)

-- past its first n letters stand the others
pub spell_drop : (base n j m : ℕ) → drop n (spell base (n + j) m) ≡ spell base j m
unfolding spell
spell_drop base zero j m = rw zero-add
spell_drop base (suc n) j m = rw suc-add (spell_drop base n j m)

-- letter i of j
pub spell_at : (base j m i : ℕ) → i < j → get_or (spell base j m) i 0 ≡ (m / base ^ (j - 1 - i)) % base
unfolding spell
spell_at base zero m i h = absurd (omega arith)
spell_at base (suc j) m zero h = let e : suc j - 1 - 0 ≡ j = omega arith in rw e
spell_at base (suc j) m (suc i) h = let e : suc j - 1 - suc i ≡ j - 1 - i = omega arith in rw e (spell_at base j m i (omega arith))

-- ---- a loop that writes what f makes of each letter, from the last on

-- before the first letter nothing is spelled, and all of the number is left
pub spelled_none : (f : ℕ → ℕ) (base m : ℕ) (l : List ℕ) → (m ≡ m / base ^ (length l - length l)) × (drop (length l) l ≡ map f (spell base (length l - length l) m))
unfolding spell
spelled_none f base m l =
    let e : length l - length l ≡ 0 = omega arith in
    rw (e, pow-zero, drop_of_length-le l {i = length l} (omega arith)) (sym (div-one m), refl)

-- one letter more, before those that are spelled
module _ (f : ℕ → ℕ) (base m : ℕ) (l : List ℕ) (i n : ℕ) (some : 0 < i) (inside : i ≤ length l) (few : i ≤ n) {rest : ℕ} (e : rest ≡ m / base ^ (n - i)) where
  one_more : n - (i - 1) ≡ suc (n - i)
  one_more = omega arith

  -- what is left of the number
  pub spelled_rest : rest / base ≡ m / base ^ (n - (i - 1))
  spelled_rest = rw (one_more, e, div-div-eq-div-mul, pow-suc)

  -- and the letters that stand
  pub spelled_more : {v : ℕ} → v ≡ f (rest % base) → drop i l ≡ map f (spell base (n - i) m)
      → drop (i - 1) (set l (i - 1) v) ≡ map f (spell base (n - (i - 1)) m)
  unfolding spell
  spelled_more {v} ev el =
      let h : i - 1 < length l = omega arith in
      let h' : i - 1 < length (set l (i - 1) v) = rw length-set h in
      let k : suc (i - 1) ≡ i = omega arith in
      rw (one_more, drop-cons (set l (i - 1) v) (i - 1) 0 h', get_or-set_same l (i - 1) v 0 h, drop-set-lt (suc (i - 1)) l (i - 1) v (omega arith), k, ev, e, el)
