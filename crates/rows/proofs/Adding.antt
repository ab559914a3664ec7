-- The counts at which a word has a bit, added: the places up to its lowest bit add nothing. And those of a row: what a
-- part of it adds, one word or a stretch of them, and what comes after it add up to the whole; a stretch of empty words adds nothing.
use mathlib.Core.Bool.{true, not}
use mathlib.Core.List.{List, [], ◌∷◌, ◌++◌, map}
use mathlib.Core.Path.{◌≡◌, refl, sym, ap, ◌∙◌}
use Prim.Native.Nat.{ℕ, zero, suc, ◌+◌, ◌-◌, ◌*◌, ◌/◌, ◌%◌, ◌^◌, ◌≤◌, ◌<◌, min}
use native.Mathlib.Decide.{dec_lt}
use native.Mathlib.Nat.{add-zero, sub-zero, zero-add, pow-suc, div-lt_iff_lt-mul}
use native.Mathlib.Omega.{arith}
use lib.ListN.{length, take, drop, get_or, length-append, length-drop, get_or-append, get_or-eq_default, drop_of_length-le}
use lib.Seq.{drop-cons, drop-drop, length-take-le, get_or-append-add}
use Rattle.std.proofs.lemmas.List.{take-append-drop}
use Rattle.rules.proofs.Over.{map_agree}
use lib.Pow.{pow_pos, pow_mono, shr_lt}
use borrow.Author.Tests.{not-true}
use Rattle.rules.proofs.Tables.{sum_append}
use Rattle.rules.specs.Lists.{run, sum}
use Rattle.rows.specs.Bits.{held}
use Rattle.rows.specs.Flags.{has_left, masked_at, masked}
use Rattle.rows.proofs.Back.{map_split}
use Rattle.rows.proofs.Bits.{getd_held, held_at, digit_none}
use Rattle.rows.proofs.Dark.{none_set}
use Rattle.rows.proofs.Digits.{digit, digit_past}
use Rattle.rows.proofs.Held.{length_held}
use Rattle.rows.specs.SetBits.{Taken}
use Rattle.rows.proofs.Lowest.{Rest, none_left, taken_late, taken_set, taken_first}

-- SUMS over a run of places
module _ (f : ℕ → ℕ) where
  -- where all are 0
  pub run_zeros : (a n : ℕ) → ((i : ℕ) → a ≤ i → i < a + n → f i ≡ 0) → sum (map f (run a n)) ≡ 0
  unfolding run sum
  run_zeros a zero h = refl
  run_zeros a (suc n) h = rw (h a (omega arith) (omega arith), zero-add) (run_zeros (suc a) n (λ i k l. h i (omega arith) (omega arith)))

  -- in two parts
  pub run_split : (a m n : ℕ) → sum (map f (run a (m + n))) ≡ sum (map f (run a m)) + sum (map f (run (a + m) n))
  run_split a m n = ap sum (map_split f a m n) ∙ sum_append (map f (run a m)) (map f (run (a + m) n))

  -- where the first that is not 0 stands m places on
  pub run_jump : (a m n : ℕ) → ((i : ℕ) → a ≤ i → i < a + m → f i ≡ 0) → sum (map f (run a (m + suc n))) ≡ f (a + m) + sum (map f (run (a + m + 1) n))
  unfolding run sum
  run_jump a m n h =
      let z : a + m + 1 ≡ suc (a + m) = omega arith in
      run_split a m (suc n) ∙ rw (run_zeros a m h, z, zero-add)

-- ONE WORD
module _ (word : ℕ) (counts : List ℕ) where
  bit_at : (i : ℕ) → i < 64 → get_or (held (word ∷ [])) i 0 ≡ digit word i
  bit_at i h = let z : 0 * 64 + i ≡ i = omega arith in rw z at (getd_held (word ∷ []) 0 i h)

  masked_off : (i : ℕ) → i < 64 → digit word i ≡ 0 → masked_at (held (word ∷ [])) counts i ≡ 0
  unfolding masked_at
  masked_off i h e = rw (bit_at i h ∙ e)

  masked_on : (i : ℕ) → i < 64 → digit word i ≡ 1 → masked_at (held (word ∷ [])) counts i ≡ get_or counts i 0
  unfolding masked_at
  masked_on i h e = rw (bit_at i h ∙ e)

  -- what is left to add from place o on
  unfoldable pub left_from : ℕ → ℕ
  left_from o = sum (map (masked_at (held (word ∷ [])) counts) (run o (length counts - o)))

  pub left_all : 0 + left_from 0 ≡ sum (masked (held (word ∷ [])) counts)
  unfolding left_from masked
  left_all = rw (sub-zero, zero-add)

  -- the next to add stands at `at`
  left_jump : (o at : ℕ) → length counts ≤ 64 → o ≤ at → at < length counts → ((i : ℕ) → o ≤ i → i < at → digit word i ≡ 0) → digit word at ≡ 1
      → left_from o ≡ get_or counts at 0 + left_from (at + 1)
  unfolding left_from
  left_jump o at few up h off on =
      let p : o + (at - o) ≡ at = omega arith in
      let q : length counts - o ≡ at - o + suc (length counts - (at + 1)) = omega arith in
      let jump = run_jump (masked_at (held (word ∷ [])) counts) o (at - o) (length counts - (at + 1)) (λ i k l. masked_off i (omega arith) (off i k (omega arith))) in
      ap (λ (n : ℕ). sum (map (masked_at (held (word ∷ [])) counts) (run o n))) q ∙ rw p at jump ∙ rw (masked_on at (omega arith) on)

  -- what is left of the word past its first o digits
  module _ (few : length counts ≤ 64) (inside : word < 2 ^ length counts) {o rest : ℕ} (r : Rest word o rest) where
    -- no bit is
    pub left_end : rest ≡ 0 → left_from o ≡ 0
    unfolding left_from
    left_end z = run_zeros (masked_at (held (word ∷ [])) counts) o (length counts - o) (λ i k l. masked_off i (omega arith) (none_left r z i k))

    module _ {place off : ℕ} (t : Taken rest place off) where
      -- its lowest bit is for a count that there is
      pub next_inside : place < length counts
      next_inside = go (dec_lt place (length counts))
        where
          go : Dec (place < length counts) → place < length counts
          go (yes l) = l
          go (no n) = absurd (omega (arith, taken_set r t, digit_past (length counts) word place inside (omega arith)))

      -- which is the next to add
      pub left_next : left_from o ≡ get_or counts place 0 + left_from (place + 1)
      left_next = left_jump o place few (taken_late r t) next_inside (taken_first r t) (taken_set r t)

-- two functions that agree, each on a run of its own
run_like : (f g : ℕ → ℕ) (a b n : ℕ) → ((i : ℕ) → i < n → f (a + i) ≡ g (b + i)) → map f (run a n) ≡ map g (run b n)
unfolding run
run_like f g a b zero h = refl
run_like f g a b (suc n) h =
    let e : f a ≡ g b = rw (add-zero a, add-zero b) at (h 0 (omega arith)) in
    let r : map f (run (suc a) n) ≡ map g (run (suc b) n) = run_like f g (suc a) (suc b) n (λ i k.
    let u : suc a + i ≡ a + suc i = omega arith in
    let v : suc b + i ≡ b + suc i = omega arith in
    rw (u, v) (h (suc i) (omega arith))) in
    rw (e, r)

-- a word with no digit from m on is below 2 ^ m
below_pow : (k m w : ℕ) → w < 2 ^ k → ((b : ℕ) → m ≤ b → b < k → digit w b ≡ 0) → w < 2 ^ m
unfolding digit
below_pow zero m w l h = omega (arith, pow_pos m)
below_pow (suc k) m w l h =
    elim (dec_lt k m) [
      | yes y ↦ (let p : 2 ^ suc k ≤ 2 ^ m = pow_mono y in omega arith)
      | no n ↦ (
          let p : 2 ^ suc k ≡ 2 ^ k * 2 = pow-suc 2 k in
          let z : w / 2 ^ k % 2 ≡ 0 = h k (omega arith) (omega arith) in
          let e : 1 + k ≡ suc k = omega arith in
          let u : w / 2 ^ k < 2 = shr_lt 1 k (rw e l) in
          let none : w / 2 ^ k < 1 = omega arith in
          let v : w < 1 * 2 ^ k = (div-lt_iff_lt-mul (pow_pos k)).0 none in
          below_pow k m w (omega arith) (λ b i j. h b i (omega arith)))
    ]

-- A ROW AND ITS COUNTS, 64 to each word but the last, which may have fewer; past them the row has no bit
pub record Counted (row counts : List ℕ) : Type 0 where
  pub most : 64 * length row ≤ length counts + 63
  pub least : length counts ≤ 64 * length row
  pub dark : (p : ℕ) → length counts ≤ p → get_or (held row) p 0 ≡ 0

-- IN TWO PARTS: up to k words and their counts, and all that come after
pub record Parts (row part rest counts near far : List ℕ) (k : ℕ) : Type 0 where
  pub words : row ≡ part ++ rest
  pub same : counts ≡ near ++ far
  pub n : length part ≡ min k (length row)
  pub m : length near ≡ min (64 * k) (length counts)

module _ {row part rest counts near far : List ℕ} {k : ℕ} (q : Parts row part rest counts near far k) (c : Counted row counts) where
  words_long : length row ≡ length part + length rest
  words_long = ap length q.words ∙ length-append part rest

  counts_long : length counts ≡ length near + length far
  counts_long = ap length q.same ∙ length-append near far

  -- only the last words may have fewer
  full : 0 < length far → length near ≡ 64 * length part
  full h = omega (arith, counts_long, c.least)

  few : length near ≤ 64 * length part
  few = omega (arith, c.least)

  bit_near : (p : ℕ) → p < 64 * length part → get_or (held row) p 0 ≡ get_or (held part) p 0
  bit_near p h =
      held_at row p
      ∙ ap (λ (v : ℕ). digit v (p % 64)) (ap (λ (l : List ℕ). get_or l (p / 64) 0) q.words ∙ get_or-append part rest 0 (p / 64) (omega arith))
      ∙ sym (held_at part p)

  bit_far : (p : ℕ) → get_or (held row) (64 * length part + p) 0 ≡ get_or (held rest) p 0
  bit_far p =
      let w : (64 * length part + p) / 64 ≡ length part + p / 64 = omega arith in
      let b : (64 * length part + p) % 64 ≡ p % 64 = omega arith in
      held_at row (64 * length part + p)
      ∙ rw (w, b) (ap (λ (v : ℕ). digit v (p % 64)) (ap (λ (l : List ℕ). get_or l (length part + p / 64) 0) q.words ∙ get_or-append-add part rest (p / 64) 0))
      ∙ sym (held_at rest p)

  dark_near : (p : ℕ) → length near ≤ p → get_or (held part) p 0 ≡ 0
  dark_near p h =
      elim (dec_lt p (64 * length part)) [
        | yes l ↦ (sym (bit_near p l) ∙ c.dark p (omega (arith, counts_long, full)))
        | no l ↦ get_or-eq_default (held part) 0 {n = p} (rw (length_held part) (omega arith))
      ]

  pub counted_part : Counted part near
  counted_part = record { most = omega (arith, c.most, c.least); least = few; dark = dark_near }

  pub counted_rest : Counted rest far
  counted_rest = record {
    most = omega (arith, c.most, c.least, words_long, counts_long);
    least = omega (arith, c.least, words_long, counts_long);
    dark = λ p h. sym (bit_far p) ∙ c.dark (64 * length part + p) (omega (arith, few, counts_long));
  }

  at_near : (i : ℕ) → i < length near → masked_at (held row) counts i ≡ masked_at (held part) near i
  unfolding masked_at
  at_near i h =
      let v : get_or counts i 0 ≡ get_or near i 0 = ap (λ (l : List ℕ). get_or l i 0) q.same ∙ get_or-append near far 0 i h in
      rw (bit_near i (omega (arith, few)), v)

  at_far : (i : ℕ) → i < length far → masked_at (held row) counts (length near + i) ≡ masked_at (held rest) far (0 + i)
  unfolding masked_at
  at_far i h =
      let z : 0 + i ≡ i = omega arith in
      let v : get_or counts (length near + i) 0 ≡ get_or far i 0 = ap (λ (l : List ℕ). get_or l (length near + i) 0) q.same ∙ get_or-append-add near far i 0 in
      let b : get_or (held row) (length near + i) 0 ≡ get_or (held rest) i 0 = rw (full (omega arith)) (bit_far i) in
      rw (z, b, v)

  -- what they add
  pub sum_parts : sum (masked (held row) counts) ≡ sum (masked (held part) near) + sum (masked (held rest) far)
  unfolding masked
  sum_parts =
      let z : 0 + length near ≡ length near = omega arith in
      rw counts_long
      (run_split (masked_at (held row) counts) 0 (length near) (length far)
      ∙ rw (map_agree (masked_at (held row) counts) (masked_at (held part) near) 0 (length near) (λ i _ h. at_near i (omega arith)), z, run_like (masked_at (held row) counts) (masked_at (held rest) far) (length near) 0 (length far) at_far))

-- word q of a row and its counts, up to place `to`, and all that come after
parts_end : (q : ℕ) (counts : List ℕ) {to : ℕ} → to ≡ min (64 * q + 64) (length counts) → 64 * q ≤ length counts → drop (64 * q + (to - 64 * q)) counts ≡ drop (64 * (q + 1)) counts
parts_end q counts {to} e low =
    elim (dec_lt (length counts) (64 * q + 64)) [
      | yes l ↦ (drop_of_length-le counts {i = 64 * q + (to - 64 * q)} (omega arith) ∙ sym (drop_of_length-le counts {i = 64 * (q + 1)} (omega arith)))
      | no l ↦ (let z : 64 * q + (to - 64 * q) ≡ 64 * (q + 1) = omega arith in ap (λ (n : ℕ). drop n counts) z)
    ]

pub parts_at : (q : ℕ) (row counts : List ℕ) {to : ℕ} → q < length row → to ≡ min (64 * q + 64) (length counts) → 64 * q ≤ length counts
    → Parts (drop q row) (get_or row q 0 ∷ []) (drop (q + 1) row) (drop (64 * q) counts) (take (to - 64 * q) (drop (64 * q) counts)) (drop (64 * (q + 1)) counts) 1
parts_at q row counts {to} h e low =
    let n : q + 1 ≡ suc q = omega arith in
    let left = length-drop (64 * q) counts in
    record {
      words = rw n (drop-cons row q 0 h);
      same = sym (take-append-drop (to - 64 * q) (drop (64 * q) counts)) ∙ ap (λ (l : List ℕ). take (to - 64 * q) (drop (64 * q) counts) ++ l) (drop-drop (to - 64 * q) (64 * q) counts ∙ parts_end q counts e low);
      n = omega (arith, length-drop q row);
      m = length-take-le (to - 64 * q) (drop (64 * q) counts) (omega (arith, left)) ∙ omega (arith, left);
    }

-- no counts are left
pub none_to_add : (row counts : List ℕ) → length counts ≡ 0 → sum (masked (held row) counts) ≡ 0
unfolding masked run sum
none_to_add row counts z = rw z

-- ONE WORD that has no bit past its counts is no longer than they are
pub word_fits : (word : ℕ) (counts : List ℕ) → word < 2 ^ 64 → Counted (word ∷ []) counts → word < 2 ^ length counts
word_fits word counts h c = below_pow 64 (length counts) word h (λ b i j. sym (bit_at word counts b j) ∙ c.dark b i)

-- EMPTY WORDS add nothing
pub empty_sum : (row counts : List ℕ) → not (has_left row) ≡ true → 0 ≡ sum (masked (held row) counts)
unfolding masked
empty_sum row counts e = sym (run_zeros (masked_at (held row) counts) 0 (length counts) (λ i _ _. off i))
  where
    off : (i : ℕ) → masked_at (held row) counts i ≡ 0
    off i = unfold masked_at in rw (held_at row i, none_set row (not-true (has_left row) e) (i / 64), digit_none (i % 64))
