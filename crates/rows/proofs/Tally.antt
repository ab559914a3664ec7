-- Tallies: of how many sequences something holds, taken apart where a walk over them stands.
use mathlib.Core.Bool.{Bool, true, false, false≢true}
use mathlib.Core.List.{List, map}
use mathlib.Core.Path.{◌≡◌, refl, sym, ap, ◌∙◌}
use Prim.Native.Nat.{ℕ, zero, suc, ◌+◌, ◌-◌, ◌*◌, ◌/◌, ◌%◌, ◌^◌, ◌≤◌, ◌<◌}
use native.Mathlib.Nat.{zero-add, suc-add, pow-suc}
use native.Mathlib.Decide.{dec_lt}
use native.Mathlib.Omega.{arith}
use lib.Count.{ones, ones-le, ones_step}
use lib.Dec.{eqb}
use lib.ListN.{length, take, get_or}
use borrow.Author.Tests.{eq-eqb, eqb-true}
use lib.Seq.{ext_get_or, get_or-take, length-take-le}
use Rattle.std.specs.Int.{from_bool}
use Rattle.rules.proofs.Over.{length_map_run, getd_map_run}
use Rattle.rules.specs.Lists.{run, sum}
use Rattle.rows.specs.Bits.{held}
use Rattle.rows.specs.Flags.{bit}
use Rattle.rows.specs.Set.{is_marked, tally}
use Rattle.rows.proofs.Bits.{held_at, bit_small, bit_most}
use Rattle.rows.proofs.Digits.{digit}
use Rattle.rows.proofs.Held.{length_held}
use Rattle.rows.proofs.Zeros.{digit_zero, digit_suc}

-- what `From` makes of a flag
pub bit_from : (b : Bool) {v : ℕ} → v ≡ from_bool b → v ≡ bit b
bit_from b e = e ∙ elim b as (λ (x : Bool). from_bool x ≡ bit x) [ true ↦ refl | false ↦ refl ]

pub bit_few : (b : Bool) {v : ℕ} → v ≡ bit b → v ≤ 1
bit_few b e = omega (arith, e, bit_most b)

module _ (h : ℕ → Bool) where
  pub tally_zero : (a : ℕ) → tally h a 0 ≡ 0
  unfolding tally
  tally_zero a = refl

  pub tally_append : (a n m : ℕ) → tally h a (n + m) ≡ tally h a n + tally h (a + n) m
  unfolding tally
  tally_append a zero m = let e : a + 0 ≡ a = omega arith in rw (zero-add m, e) (sym (zero-add (tally h a m)))
  tally_append a (suc n) m =
      let e : suc a + n ≡ a + suc n = omega arith in
      let r : tally h (suc a) (n + m) ≡ tally h (suc a) n + tally h (a + suc n) m = tally_append (suc a) n m ∙ ap (λ (k : ℕ). tally h (suc a) n + tally h k m) e in
      rw (suc-add n m) (omega (arith, r))

  pub tally_none : (a n : ℕ) → ((k : ℕ) → a ≤ k → k < a + n → h k ≡ false) → tally h a n ≡ 0
  unfolding tally
  tally_none a zero q = refl
  tally_none a (suc n) q =
      let z : bit (h a) ≡ 0 = ap bit (q a (omega arith) (omega arith)) in
      let r = tally_none (suc a) n (λ k l u. q k (omega arith) (omega arith)) in
      omega (arith, z, r)

  pub tally_most : (a n : ℕ) → tally h a n ≤ n
  unfolding tally
  tally_most a zero = omega arith
  tally_most a (suc n) = omega (arith, bit_most (h a), tally_most (suc a) n)

  -- it is a sum
  pub tally_sum : (f : ℕ → ℕ) (a n : ℕ) → ((k : ℕ) → a ≤ k → k < a + n → bit (h k) ≡ f k) → tally h a n ≡ sum (map f (run a n))
  unfolding tally sum run
  tally_sum f a zero q = refl
  tally_sum f a (suc n) q =
      let e : bit (h a) ≡ f a = q a (omega arith) (omega arith) in
      let r = tally_sum f (suc a) n (λ k l u. q k (omega arith) (omega arith)) in
      omega (arith, e, r)

  -- one alone
  tally_one : (a : ℕ) → tally h a 1 ≡ bit (h a)
  unfolding tally
  tally_one a = omega arith

  -- none past the first e, up to n
  pub tally_end : (a e n : ℕ) → e ≤ n → ((k : ℕ) → a + e ≤ k → k < a + n → h k ≡ false) → tally h a n ≡ tally h a e
  tally_end a e n l q =
      let s : n ≡ e + (n - e) = omega arith in
      let z = tally_none (a + e) (n - e) (λ k u v. q k u (omega arith)) in
      ap (tally h a) s ∙ tally_append a e (n - e) ∙ omega (arith, z)

  -- none past the first e, and then one
  pub tally_turn : (a e z : ℕ) → e ≤ z → ((k : ℕ) → a + e ≤ k → k < a + z → h k ≡ false) → tally h a (z + 1) ≡ tally h a e + bit (h (a + z))
  tally_turn a e z l q = tally_append a z 1 ∙ omega (arith, tally_end a e z l q, tally_one (a + z))

module _ (g h : ℕ → Bool) where
  pub tally_less : ((k : ℕ) → g k ≡ false → h k ≡ false) → (a n : ℕ) → tally h a n ≤ tally g a n
  unfolding tally
  tally_less q a zero = omega arith
  tally_less q a (suc n) = omega (arith, go (g a) refl, tally_less q (suc a) n)
    where
      go : (b : Bool) → g a ≡ b → bit (h a) ≤ bit (g a)
      go true e = let z : bit (g a) ≡ 1 = ap bit e in omega (arith, z, bit_most (h a))
      go false e = let z : bit (h a) ≡ 0 = ap bit (q a e) in omega (arith, z)

  pub tally_same : (a n : ℕ) → ((k : ℕ) → a ≤ k → k < a + n → h k ≡ g k) → tally h a n ≡ tally g a n
  unfolding tally
  tally_same a zero q = refl
  tally_same a (suc n) q =
      let e : bit (h a) ≡ bit (g a) = ap bit (q a (omega arith) (omega arith)) in
      let r = tally_same (suc a) n (λ k l u. q k (omega arith) (omega arith)) in
      omega (arith, e, r)

-- of two that do not hold at once, and one of which holds where a third does
pub tally_split : (f g h : ℕ → Bool) → ((k : ℕ) → bit (f k) + bit (g k) ≡ bit (h k)) → (a n : ℕ) → tally f a n + tally g a n ≡ tally h a n
unfolding tally
tally_split f g h q a zero = refl
tally_split f g h q a (suc n) = omega (arith, q a, tally_split f g h q (suc a) n)

bit_of : (x : ℕ) (b : Bool) → x ≤ 1 → eqb x 1 ≡ b → x ≡ bit b
bit_of x true h e = eqb-true x 1 e
bit_of x false h e = elim (dec_lt 0 x) [ yes l ↦ absurd (false≢true (sym e ∙ eq-eqb x 1 (omega arith))) | no l ↦ omega arith ]

-- the ones of a word: of how many sequences its digits say that h holds
pub word_tally : (h : ℕ → Bool) (n a v : ℕ) → v < 2 ^ n → ((b : ℕ) → b < n → eqb (digit v b) 1 ≡ h (a + b)) → ones v ≡ tally h a n
unfolding tally
word_tally h zero a v s q = omega (arith, ones-le 0 v s)
word_tally h (suc n) a v s q =
    let p : 2 ^ suc n ≡ 2 ^ n * 2 = pow-suc 2 n in
    let z : a + 0 ≡ a = omega arith in
    let e : v % 2 ≡ bit (h a) = bit_of (v % 2) (h a) (omega arith) (ap (λ (d : ℕ). eqb d 1) (sym (digit_zero v)) ∙ q 0 (omega arith) ∙ ap h z) in
    let r = word_tally h n (suc a) (v / 2) (omega arith) (λ b l.
    let y : a + suc b ≡ suc a + b = omega arith in ap (λ (d : ℕ). eqb d 1) (sym (digit_suc v b)) ∙ q (suc b) (omega arith) ∙ ap h y) in
    omega (arith, ones_step v, e, r)

-- a mark as a number
unfoldable mark_bit : List ℕ → ℕ → ℕ
mark_bit row k = bit (is_marked row k)

-- the digits of the first n words of marks are the tally of their marks
pub marks_tally : (n : ℕ) (row : List ℕ) → n ≤ length row → sum (held (take n row)) ≡ tally (is_marked row) 0 (n * 64)
unfolding mark_bit is_marked
marks_tally n row wide = ap sum marks_list ∙ sym (tally_sum (is_marked row) (mark_bit row) 0 (n * 64) (λ k l u. refl))
  where
    at : (p : ℕ) → p < n * 64 → get_or (held (take n row)) p 0 ≡ mark_bit row p
    at p h =
        let q : p / 64 < n = omega arith in
        held_at (take n row) p ∙ ap (λ (w : ℕ). digit w (p % 64)) (get_or-take n row (p / 64) 0 q) ∙ sym (held_at row p)
        ∙ bit_of (get_or (held row) p 0) (eqb (get_or (held row) p 0) 1) (bit_small row p) refl

    marks_list : held (take n row) ≡ map (mark_bit row) (run 0 (n * 64))
    marks_list =
        let t = length-take-le n row wide in
        let m : length (held (take n row)) ≡ n * 64 = length_held (take n row) ∙ omega (arith, t) in
        ext_get_or 0 (held (take n row)) (map (mark_bit row) (run 0 (n * 64))) (m ∙ sym (length_map_run (mark_bit row) 0 (n * 64)))
        (λ p h. at p (rw m at h) ∙ sym (getd_map_run (mark_bit row) 0 0 (n * 64) p (rw m at h) ∙ ap (mark_bit row) (zero-add p)))
