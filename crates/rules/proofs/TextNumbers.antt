-- A number in a text. The digits of a number are its letters in base ten, as many as it needs: so a text of digits with no
-- leading zero is the decimal text of the number that the digits make, and of no other.
use mathlib.Core.Path.{◌≡◌, refl, sym, ap, ◌∙◌}
use mathlib.Core.Logic.Iff
use mathlib.Core.Logic.{◌↔◌, ◌⊎◌, inl, inr, ⊎_elim}
use mathlib.Core.Bool.{Bool, true, false, ◌&&◌, ◌||◌, not, false≢true}
use mathlib.Core.List.Memᴰ
use mathlib.Core.List.{List, [], ◌∷◌, ◌++◌, map, map-append, Memᴰ}
use Prim.Native.Nat.{ℕ, zero, suc, ◌+◌, ◌-◌, ◌*◌, ◌/◌, ◌%◌, ◌^◌, ◌≤◌, ◌<◌}
use native.Mathlib.Nat.{le_trans, pow-suc, pow-le-pow_right, mod-eq_of_lt, mul-le-mul_right, one-le-pow, one-mul, le-div_iff_mul-le, div-lt_iff_lt-mul}
use native.Mathlib.Omega.{arith}
use lib.Dec.{eqb, leb, ltb}
use lib.ListN.{length, get_or, length-map, get_or-map}
use borrow.Author.Tests.{leb-true, le-leb, eqb-true, eqb-false, eq-eqb, ltb-true, ltb-false, lt-ltb, le-ltb, not-true}
use Rattle.rules.specs.Lists.{if, all_pass}
use Rattle.rules.specs.Motif.{number, spell}
use Rattle.rules.specs.Text.{Parsed, parsed, malformed, is_well_formed, is_in_range, is_number_text, digits, parse_number, digits_of, decimal}
use Rattle.rules.specs.TextRefused.{NumberText}
use Rattle.rules.proofs.All.{all_members, member_at}
use Rattle.rules.proofs.Spelling.{spell_more, length_spell, number_spell, number_below, spell_number}
use Rattle.rules.proofs.Tests.{both, fails, or_cases, or_true}

-- a test of every byte for the digits says that each is one
pub digits_all : (text : List ℕ) → (all_pass (is_in_range 48 57) text ≡ true) ↔ ((b : ℕ) → Memᴰ b text → (48 ≤ b) × (b ≤ 57))
digits_all text =
    let a = all_members (is_in_range 48 57) text in (
      λ e b m. let h = (both (leb 48 b) (leb b 57)).0 (a.0 e b m) in (leb-true 48 b h.0, leb-true b 57 h.1),
      λ h. a.1 (λ b m. (both (leb 48 b) (leb b 57)).1 (le-leb 48 b (h b m).0, le-leb b 57 (h b m).1)),
    )

-- the test of the rule says what the sentence says
pub number_says : (most : ℕ) (text : List ℕ) → (is_number_text most text ≡ true) ↔ NumberText most text
unfolding is_number_text
number_says most text = (
  λ e. let p = (both (leb 1 (length text) && leb (length text) most && all_pass (is_in_range 48 57) text) (eqb (length text) 1 || not (eqb (get_or text 0 0) 48))).0 e in
      let q = (both (leb 1 (length text) && leb (length text) most) (all_pass (is_in_range 48 57) text)).0 p.0 in
      let r = (both (leb 1 (length text)) (leb (length text) most)).0 q.0 in
      record {
        some = leb-true 1 (length text) r.0;
        few = leb-true (length text) most r.1;
        all_digits = (digits_all text).0 q.1;
        no_leading_zero = leading (or_cases _ _ p.1);
      },
  λ h. (both _ _).1 (
    (both _ _).1 ((both _ _).1 (le-leb 1 (length text) h.some, le-leb (length text) most h.few), (digits_all text).1 h.all_digits),
    back (eqb (get_or text 0 0) 48) refl h.no_leading_zero,
  ),
)
  where
    leading : (eqb (length text) 1 ≡ true) ⊎ (not (eqb (get_or text 0 0) 48) ≡ true) → get_or text 0 0 ≡ 48 → length text ≡ 1
    leading (inl e) z = eqb-true (length text) 1 e
    leading (inr e) z = absurd (eqb-false (get_or text 0 0) 48 (not-true _ e) z)

    back : (t : Bool) → eqb (get_or text 0 0) 48 ≡ t → (get_or text 0 0 ≡ 48 → length text ≡ 1) → eqb (length text) 1 || not t ≡ true
    back true e h = rw (eq-eqb (length text) 1 (h (eqb-true (get_or text 0 0) 48 e)))
    back false e h = or_true (eqb (length text) 1)

-- ---- the digits of a number

-- every one is a digit
digits_in : (d n : ℕ) {b : ℕ} → Memᴰ b (digits_of d n) → (48 ≤ b) × (b ≤ 57)
unfolding digits_of
digits_in zero n m = absurd (Memᴰ.not-nil m)
digits_in (suc d) n {b} m = go (ltb n 10) m (digits_in d (n / 10))
  where
    one : Memᴰ b ((48 + n % 10) ∷ []) → (48 ≤ b) × (b ≤ 57)
    one m = let e = Memᴰ.eq_of_singleton m in (omega (arith, e), omega (arith, e))

    go : (t : Bool) → Memᴰ b (if t [] (digits_of d (n / 10)) ++ ((48 + n % 10) ∷ [])) → (Memᴰ b (digits_of d (n / 10)) → (48 ≤ b) × (b ≤ 57)) → (48 ≤ b) × (b ≤ 57)
    go true m ih = one m
    go false m ih = ⊎_elim ih one (Memᴰ.append_cases (digits_of d (n / 10)) m)

-- and so is every byte of its decimal text
pub decimal_digits : (n b : ℕ) → Memᴰ b (decimal n) → (48 ≤ b) × (b ≤ 57)
unfolding decimal
decimal_digits n b m = digits_in 20 n m

-- a number that has digits at places 0 to j, and none above
abbrev Places : ℕ → ℕ → Type 0
Places zero n = n < 10 ^ 1
Places (suc j) n = (10 ^ suc j ≤ n) × (n < 10 ^ suc (suc j))

-- it lies below the next power of ten, and its tenth has a place less
places_below : (j n : ℕ) → Places j n → n < 10 ^ suc j
places_below zero n p = p
places_below (suc j) n p = p.1

places_tenth : (j n : ℕ) → Places (suc j) n → Places j (n / 10)
places_tenth zero n p = omega (arith, p.1)
places_tenth (suc j) n p = (omega (arith, p.0), omega (arith, p.1))

-- every number has its places
places : (m n : ℕ) → n < 10 ^ suc m → (j : ℕ) × (j ≤ m) × Places j n
places zero n h = (0, omega arith, h)
places (suc m) n h = go (ltb n (10 ^ suc m)) refl (places m n)
  where
    go : (t : Bool) → ltb n (10 ^ suc m) ≡ t → (n < 10 ^ suc m → (j : ℕ) × (j ≤ m) × Places j n) → (j : ℕ) × (j ≤ suc m) × Places j n
    go true e ih = let r = ih (ltb-true n (10 ^ suc m) e) in (r.0, omega (arith, r.1), r.2)
    go false e ih = (suc m, omega arith, (ltb-false n (10 ^ suc m) e, h))

-- a digit as a byte
abbrev digit : ℕ → ℕ
digit x = 48 + x

last_digit : (n : ℕ) → spell 10 1 n ≡ n % 10 ∷ []
unfolding spell
last_digit n = spell_more 10 0 n

-- the digits of such a number are its j + 1 letters in base ten
digits_spelled : (j d n : ℕ) → j ≤ d → Places j n → digits_of (suc d) n ≡ map digit (spell 10 (suc j) n)
unfolding digits_of
digits_spelled zero d n l p = rw (lt-ltb n 10 (omega (arith, p)), last_digit n)
digits_spelled (suc j) zero n l p = absurd (omega arith)
digits_spelled (suc j) (suc d) n l p =
    rw (le-ltb n 10 (omega (arith, p.0, one-le-pow j 10 (omega arith), pow-suc 10 j)), digits_spelled j d (n / 10) (omega arith) (places_tenth j n p), spell_more 10 (suc j) n, map-append)

decimal_spelled : (j n : ℕ) → j < 20 → Places j n → decimal n ≡ map digit (spell 10 (suc j) n)
unfolding decimal
decimal_spelled j n l p = digits_spelled j 19 n (omega arith) p

-- ---- the decimal text of a number is a number's text

-- the first of several digits is not 0
first_digit : (j n : ℕ) → Places j n → get_or (map digit (spell 10 (suc j) n)) 0 0 ≡ 48 → suc j ≡ 1
unfolding spell
first_digit zero n p e = refl
first_digit (suc j) n p e =
    let some : 1 ≤ 10 ^ suc j = one-le-pow (suc j) 10 (omega arith) in
    let low : 1 ≤ n / 10 ^ suc j = (le-div_iff_mul-le some).1 (rw one-mul p.0) in
    let high : n / 10 ^ suc j < 10 = (div-lt_iff_lt-mul some).1 (omega (arith, p.1, pow-suc 10 (suc j))) in
    absurd (omega (arith, e, mod-eq_of_lt high, low))

-- digits written as bytes are read back
read_back : (w : List ℕ) → map (λ b. b - 48) (map digit w) ≡ w
read_back [] = refl
read_back (x ∷ w) = let e : 48 + x - 48 ≡ x = omega arith in rw (e, read_back w)

-- a number below a power of ten has no more digits than that, and they make that number
pub decimal_number : (most n : ℕ) → most < 20 → n < 10 ^ suc most → NumberText (suc most) (decimal n) × (digits (decimal n) ≡ n)
unfolding digits
decimal_number most n l h =
    let r = places most n h in
    let j : ℕ = r.0 in
    let e : decimal n ≡ map digit (spell 10 (suc j) n) = decimal_spelled j n (omega (arith, r.1)) r.2 in
    let k : length (decimal n) ≡ suc j = rw (e, length-map, length_spell) in (
      record {
        some = omega (arith, k);
        few = omega (arith, k, r.1);
        all_digits = decimal_digits n;
        no_leading_zero = λ z. k ∙ first_digit j n r.2 (rw e at z);
      },
      rw (e, read_back, number_spell 10 (suc j) n (omega arith) (places_below j n r.2)),
    )

-- ---- and a number's text is the decimal text of what its digits make

-- a number between two powers of ten has the places between them
places_of : (j n : ℕ) → n < 10 ^ suc j → (1 ≤ j → 10 ^ j ≤ n) → Places j n
places_of zero n h k = h
places_of (suc j) n h k = (k (omega arith), h)

-- bytes that are digits are written back
write_back : (l : List ℕ) → ((b : ℕ) → Memᴰ b l → (48 ≤ b) × (b ≤ 57)) → map digit (map (λ b. b - 48) l) ≡ l
write_back [] h = refl
write_back (x ∷ l) h = let e : 48 + (x - 48) ≡ x = omega (arith, (h x (Memᴰ.head refl)).0) in rw (e, write_back l (λ b m. h b (Memᴰ.tail m)))

-- what the digits make has no more places than there are digits
module _ (most : ℕ) (text : List ℕ) (t : NumberText most text) where
  below_ten : (i : ℕ) → i < length (map (λ b. b - 48) text) → get_or (map (λ b. b - 48) text) i 0 < 10
  below_ten i l =
      let h = t.all_digits (get_or text i 0) (member_at text i 0 (rw length-map at l)) in
      omega (arith, get_or-map (λ (b : ℕ). b - 48) text i 0, h.0, h.1)

  digits_below : digits text < 10 ^ length text
  unfolding digits
  digits_below = rw length-map at (number_below 10 (map (λ b. b - 48) text) below_ten)

  digits_small : digits text < 10 ^ most
  digits_small = le_trans digits_below (pow-le-pow_right (omega arith) t.few)

-- what the first digit adds
pub digits_cons : (b : ℕ) (l : List ℕ) → digits (b ∷ l) ≡ (b - 48) * 10 ^ length l + digits l
unfolding digits number
digits_cons b l = rw (length-map l (λ (b : ℕ). b - 48))

-- more than one digit has no leading zero, and so makes no less than its first place
digits_large : (most b : ℕ) (l : List ℕ) → NumberText most (b ∷ l) → 1 ≤ length l → 10 ^ length l ≤ digits (b ∷ l)
digits_large most b l t h = rw digits_cons (omega (arith, mul-le-mul_right (10 ^ length l) (some (ltb 48 b) refl)))
  where
    some : (z : Bool) → ltb 48 b ≡ z → 1 ≤ b - 48
    some true e = omega (arith, ltb-true 48 b e)
    some false e = absurd (omega (arith, t.no_leading_zero (omega (arith, ltb-false 48 b e, (t.all_digits b (Memᴰ.head refl)).0))))

-- so it is the text
digits_decimal : (most : ℕ) (text : List ℕ) → most ≤ 20 → NumberText most text → decimal (digits text) ≡ text
unfolding digits
digits_decimal most [] l t = absurd (omega (arith, t.some))
digits_decimal most (b ∷ text) l t =
    let w : List ℕ = map (λ b. b - 48) (b ∷ text) in
    let p : Places (length text) (number 10 w) = places_of (length text) (number 10 w) (digits_below most (b ∷ text) t) (digits_large most b text t) in
    let e : spell 10 (suc (length text)) (number 10 w) ≡ w = rw length-map at (spell_number 10 w (below_ten most (b ∷ text) t)) in
    decimal_spelled (length text) (number 10 w) (omega (arith, t.few)) p ∙ ap (map digit) e ∙ write_back (b ∷ text) t.all_digits

-- ---- what is parsed

-- a text comes to one thing, and a malformed one to nothing
pub parsed_is : {A : Type 0} {a b : A} → parsed a ≡ parsed b → a ≡ b
parsed_is e = cc

pub no_value : {A B : Type 0} {a : A} → malformed ≡ parsed a → B
no_value e = let z : ◌≡◌ {A = ℕ} 0 1 = cc in absurd (omega arith)

-- a text is well formed exactly if it comes to something, and else malformed
pub well_parsed : {A : Type 0} (p : Parsed A) → (is_well_formed p ≡ true) ↔ ((a : A) × (p ≡ parsed a))
well_parsed (parsed a) = (λ e. (a, refl), λ h. refl)
well_parsed malformed = (λ e. absurd (false≢true e), λ h. no_value h.1)

pub malformed_fails : {A : Type 0} (p : Parsed A) → (p ≡ malformed) ↔ (is_well_formed p ≡ false)
malformed_fails (parsed a) = (λ e. no_value (sym e), λ e. absurd (false≢true (sym e)))
malformed_fails malformed = (λ e. refl, λ e. refl)

module _ (most : ℕ) (text : List ℕ) where
  -- a number is what its digits make
  pub number_yes : is_number_text most text ≡ true → parse_number most text ≡ parsed (digits text)
  unfolding parse_number
  number_yes e = rw e

  -- any other text is malformed
  pub number_no : is_number_text most text ≡ false → parse_number most text ≡ malformed
  unfolding parse_number
  number_no e = rw e

-- the test is whether the text is well formed
pub number_tested : (most : ℕ) (text : List ℕ) → is_number_text most text ≡ is_well_formed (parse_number most text)
number_tested most text = go (is_number_text most text) refl
  where
    go : (t : Bool) → is_number_text most text ≡ t → is_number_text most text ≡ is_well_formed (parse_number most text)
    go true e = e ∙ sym (ap is_well_formed (number_yes most text e))
    go false e = e ∙ sym (ap is_well_formed (number_no most text e))

module _ (most : ℕ) (text : List ℕ) where
  -- a text is parsed as a number exactly if it is the decimal text of that number, which has no more digits than it may
  pub number_parsed : (n : ℕ) → 1 ≤ most → most ≤ 20 → (parse_number most text ≡ parsed n) ↔ ((text ≡ decimal n) × (n < 10 ^ most))
  unfolding parse_number
  number_parsed n h l = (λ e. out (is_number_text most text) refl e, λ k. back most h l k.0 k.1)
    where
      out : (z : Bool) → is_number_text most text ≡ z → if z (parsed (digits text)) malformed ≡ parsed n → (text ≡ decimal n) × (n < 10 ^ most)
      out true z e =
          let t = (number_says most text).0 z in
          let v : digits text ≡ n = parsed_is e in
          rw (← v) (sym (digits_decimal most text l t), digits_small most text t)
      out false z e = no_value e

      back : (m : ℕ) → 1 ≤ m → m ≤ 20 → text ≡ decimal n → n < 10 ^ m → if (is_number_text m text) (parsed (digits text)) malformed ≡ parsed n
      back zero h l e k = absurd (omega arith)
      back (suc m) h l e k =
          let r = decimal_number m n (omega arith) k in
          rw (e, (number_says (suc m) (decimal n)).1 r.0, r.1)

  -- it is well formed exactly if it is a number's text, and else malformed
  pub number_well : (is_well_formed (parse_number most text) ≡ true) ↔ NumberText most text
  number_well = rw (← number_tested most text) (number_says most text)

  pub number_malformed : (parse_number most text ≡ malformed) ↔ (NumberText most text → ⊥)
  number_malformed = Iff.trans (malformed_fails (parse_number most text)) (fails _ number_well)

-- an empty text is no number's
pub number_some : (most : ℕ) → NumberText most [] → ⊥
number_some most t = omega (arith, t.some)
