-- Fields of records: a byte more at the front of a number is that byte and 256 times the rest; and bytes are all 0 exactly if the
-- number that they are is 0.
use mathlib.Core.Path.{◌≡◌, refl, sym, ◌∙◌}
use mathlib.Core.Bool.{◌&&◌}
use mathlib.Core.List.{List, [], ◌∷◌}
use Prim.Native.Nat.{ℕ, zero, suc, ◌+◌, ◌-◌, ◌*◌, ◌^◌, ◌≤◌, ◌<◌, min}
use native.Mathlib.Nat.{min_comm, add-zero, pow-suc, pow-le-pow_right, zero-lt-suc}
use native.Mathlib.Omega.{arith}
use lib.Dec.{eqb}
use lib.ListN.{length, get_or, take, drop, length-drop}
use lib.Seq.{get_or-drop, drop-drop, take_all}
use Rattle.std.proofs.lemmas.List.{drop_min, take_min}
use borrow.Author.Tests.{eq-eqb, ne_eqb}
use Rattle.rules.specs.Limits.{record_bytes}
use Rattle.rules.specs.Lists.{all_pass}
use Rattle.rules.specs.Saved.{read_low, record_at, field, is_blank}

-- a record is cut from what is left of the bytes at its start
pub record_cut : (bs : List ℕ) (i a m : ℕ) {rest : List ℕ} → a ≡ min (record_bytes * i) (length bs) → rest ≡ take (length bs - a) (drop a bs) → m ≡ min (length rest) record_bytes
    → take m rest ≡ record_at bs i
unfolding record_at
record_cut bs i a m {rest} e f g =
    let whole : take (length bs - a) (drop a bs) ≡ drop a bs = take_all (length bs - a) (drop a bs) (omega (arith, length-drop a bs)) in
    let q : rest ≡ drop (record_bytes * i) bs = f ∙ whole ∙ rw (e, drop_min) in
    rw (g, min_comm (length rest) record_bytes, take_min, q)

-- a number with one byte more at its front
read_more : (bs : List ℕ) (p m : ℕ) → read_low (suc m) (drop p bs) ≡ get_or bs p 0 + 256 * read_low m (drop (p + 1) bs)
unfolding read_low
read_more bs p m = rw (get_or-drop p bs 0 0, drop-drop 1 p bs, add-zero)

-- what has been read of n bytes from p on, the first j of them left
pub record Read (bs : List ℕ) (p n j x : ℕ) : Type 0 where
  pub left : j ≤ n
  pub is : x ≡ read_low (n - j) (drop (p + j) bs)
  pub fits : x < 256 ^ (n - j)

-- none of them yet
pub read_none : (bs : List ℕ) (p n : ℕ) → Read bs p n n 0
unfolding read_low
read_none bs p n = let e : n - n ≡ 0 = omega arith in record { left = omega arith; is = rw e; fits = rw e (omega arith) }

-- as long as a byte is left of at most 8, there is room for one more
pub read_room : (bs : List ℕ) (p n j x : ℕ) → Read bs p n j x → n ≤ 8 → 0 < j → x < 256 ^ 7
read_room bs p n j x r h some =
    let m : 256 ^ (n - j) ≤ 256 ^ 7 = pow-le-pow_right (zero-lt-suc 255) {i = n - j} {j = 7} (omega (arith, r.left)) in omega (arith, r.fits)

-- the byte before is read too
pub read_next : (bs : List ℕ) (p n j x b : ℕ) → Read bs p n j x → 0 < j → b ≡ get_or bs (p + (j - 1)) 0 → b < 256 → Read bs p n (j - 1) (256 * x + b)
read_next bs p n j x b r some is byte =
    let e : n - (j - 1) ≡ suc (n - j) = omega (arith, r.left) in
    let f : p + (j - 1) + 1 ≡ p + j = omega arith in
    record {
      left = omega (arith, r.left);
      is = rw (e, read_more bs (p + (j - 1)) (n - j), f) (omega (arith, r.is));
      fits = rw e (omega (arith, r.fits, pow-suc 256 (n - j)));
    }

-- and where none is left the field has been read
pub read_all : (r : List ℕ) (k n j x : ℕ) → Read r k n j x → j ≤ 0 → (x ≡ field r k n) × (x < 256 ^ n)
unfolding field
read_all r k n j x h z =
    let e : n - j ≡ n = omega arith in
    let f : k + j ≡ k = omega arith in
    (rw (e, f) at h.is, rw e at h.fits)

-- ZEROS. A number with one byte more is 0 exactly if the byte and the rest are
zero_more : (x y : ℕ) → eqb x 0 && eqb y 0 ≡ eqb (x + 256 * y) 0
zero_more zero zero = refl
zero_more zero (suc y) = ne_eqb (suc y) 0 (λ e. omega arith) ∙ sym (ne_eqb (0 + 256 * suc y) 0 (λ e. omega arith))
zero_more (suc x) y = rw (ne_eqb (suc x) 0 (λ e. omega arith)) (sym (ne_eqb (suc x + 256 * y) 0 (λ e. omega arith)))

read_nothing : (n : ℕ) → read_low n [] ≡ 0
unfolding read_low
read_nothing zero = refl
read_nothing (suc n) = omega (arith, read_nothing n)

zeros : (n : ℕ) (bs : List ℕ) → all_pass (λ b. eqb b 0) (take n bs) ≡ eqb (read_low n bs) 0
unfolding all_pass read_low
zeros zero bs = refl
zeros (suc n) [] = sym (eq-eqb (0 + 256 * read_low n []) 0 (omega (arith, read_nothing n)))
zeros (suc n) (x ∷ bs) = rw (zeros n bs) (zero_more x (read_low n bs))

-- bytes are all 0 exactly if their number is
pub blank_is : (r : List ℕ) (k n : ℕ) → is_blank r k n ≡ eqb (field r k n) 0
unfolding is_blank field
blank_is r k n = zeros n (drop k r)
