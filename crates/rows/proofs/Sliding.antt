-- One sum slides along the places of a word, from the last to the first. The row shifted up says, bit by bit, at which places a count
-- comes into the window and at which one goes out. Where there is no such bit in a word, the sum stays.
use mathlib.Core.List.{List, [], map, append-nil}
use mathlib.Core.Path.{◌≡◌, refl, sym, ap, ◌∙◌}
use Prim.Native.Nat.{ℕ, zero, suc, ◌+◌, ◌-◌, ◌*◌, ◌/◌, ◌%◌, ◌^◌, ◌≤◌, ◌<◌}
use native.Mathlib.Nat.{sub-zero}
use native.Mathlib.Omega.{arith}
use lib.Bits.{bit_and, bit_or}
use lib.Dec.{eqb}
use lib.ListN.{length, drop, get_or, replicate, length-drop, drop_of_length-le}
use borrow.Rule.Slice.PartMut.{mid_of, put_mid, mid_len}
use Rattle.rules.proofs.Over.{map_agree, map_one}
use Rattle.rules.specs.Lists.{if, run}
use Rattle.rows.specs.Bits.{held}
use Rattle.rows.specs.Flags.{ago, recent, around, back, masked}
use Rattle.rows.specs.Words.{behind_word}
use Rattle.rows.proofs.Bits.{behind_bit, digit_none}
use Rattle.rows.proofs.Digits.{digit, digit_or}
use Rattle.rows.proofs.Gaps.{ago_next, recent_back}
use Rattle.rows.proofs.Masks.{ago_picked, ago_dark}

module _ (row : List ℕ) (fits : (q : ℕ) → get_or row q 0 < 2 ^ 64) (counts : List ℕ) (from : ℕ) (whole : from % 64 ≡ 0) where
  -- THE ROW SHIFTED UP by one place less than k: its bit for the place before o is the one k places before o
  module _ (k : ℕ) {word : ℕ} (near : 1 ≤ k) (e : word ≡ behind_word ((k - 1) / 64) ((k - 1) % 64) row (from / 64)) (o : ℕ) (h : from < o) (u : o ≤ from + 64) where
    word_bit : digit word (o - 1 - from) ≡ ago (held row) o k
    word_bit =
        let x : (k - 1) / 64 * 64 + (k - 1) % 64 ≡ k - 1 = omega arith in
        let y : from / 64 * 64 + (o - 1 - from) ≡ o - 1 = omega arith in
        let z : suc (o - 1) ≡ o = omega arith in
        let w : suc (k - 1) ≡ k = omega arith in
        ap (λ (v : ℕ). digit v (o - 1 - from)) e
        ∙ behind_bit ((k - 1) / 64) ((k - 1) % 64) (omega arith) row fits (from / 64) (o - 1 - from) (omega arith)
        ∙ ap (λ (i : ℕ). ago (held row) i ((k - 1) / 64 * 64 + (k - 1) % 64)) y
        ∙ ap (ago (held row) (o - 1)) x
        ∙ sym (ago_next (held row) (o - 1) (k - 1))
        ∙ ap (λ (i : ℕ). ago (held row) i (suc (k - 1))) z
        ∙ ap (ago (held row) o) w

    -- so the code reads the count there
    pub count_read : {x r : ℕ} → x ≡ ago counts o k → r ≡ if (eqb (bit_and (word / 2 ^ (o - 1 - from)) 1) 1) x 0 → r ≡ ago (masked (held row) counts) o k
    count_read f q = ago_picked row counts o k word (o - 1 - from) word_bit f q

    none_read : digit word (o - 1 - from) ≡ 0 → ago (masked (held row) counts) o k ≡ 0
    none_read z = ago_dark (held row) counts o k (sym word_bit ∙ z)

  -- NO BIT: the sum stays
  module _ (d n : ℕ) {come gone : ℕ} (near : 1 ≤ d) (inside : from < length counts) (few : length counts ≤ from + 64)
      (c : come ≡ behind_word ((d - 1) / 64) ((d - 1) % 64) row (from / 64))
      (g : gone ≡ behind_word ((d + n - 1) / 64) ((d + n - 1) % 64) row (from / 64))
      (none : bit_or come gone ≡ 0) where
    abbrev M : List ℕ
    M = masked (held row) counts

    no_digit : (b : ℕ) → (digit come b ≡ 0) × (digit gone b ≡ 0)
    no_digit b =
        let z : digit (bit_or come gone) b ≡ 0 = ap (λ (v : ℕ). digit v b) none ∙ digit_none b in
        (omega (arith, z, digit_or come gone b), omega (arith, z, digit_or come gone b))

    still_turn : (o : ℕ) → from < o → o ≤ length counts → recent M (o - 1) d n ≡ recent M o d n
    still_turn o h u =
        let a : ago M o d ≡ 0 = none_read d near c o h (omega arith) (no_digit (o - 1 - from)).0 in
        let b : ago M o (d + n) ≡ 0 = none_read (d + n) (omega arith) g o h (omega arith) (no_digit (o - 1 - from)).1 in
        let t : recent M o d n + ago M o (d + n) - ago M o d ≡ recent M (o - 1) d n = recent_back M o d n refl (omega arith) in
        omega (arith, a, b, t)

    still : (k : ℕ) → k ≤ length counts - from → recent M (length counts - k) d n ≡ recent M (length counts) d n
    still zero h = rw sub-zero
    still (suc k) h =
        let z : length counts - suc k ≡ length counts - k - 1 = omega arith in
        ap (λ (o : ℕ). recent M o d n) z ∙ still_turn (length counts - k) (omega arith) (omega arith) ∙ still k (omega arith)

    still_at : (o : ℕ) → from ≤ o → o ≤ length counts → recent M o d n ≡ recent M (length counts) d n
    still_at o h u =
        let z : o ≡ length counts - (length counts - o) = omega arith in
        ap (λ (i : ℕ). recent M i d n) z ∙ still (length counts - o) (omega arith)

    module _ {total : ℕ} (e : total ≡ recent M (length counts) d n) where
      pub still_sum : total ≡ recent M from d n
      still_sum = e ∙ sym (still_at from (omega arith) (omega arith))

      -- and stands at all its places
      pub still_written : {ys : List ℕ} → ys ≡ replicate (length (mid_of from (length counts - from) counts)) total
          → put_mid from (length counts - from) counts ys ≡ back (around M d n) from counts
      unfolding back
      still_written q =
          let after : drop (length counts - from) (drop from counts) ≡ [] =
          drop_of_length-le (drop from counts) {i = length counts - from} (rw length-drop (omega arith)) in
          let all : map (around M d n) (run from (length counts - from)) ≡ replicate (length counts - from) total =
          map_agree (around M d n) (λ _. total) from (length counts - from) (λ o h u. still_at o h (omega arith) ∙ sym e)
          ∙ map_one (λ _. total) total from (length counts - from) (λ _ _. refl) in
          rw (q, mid_len from (length counts) counts (omega arith), after, append-nil, all)
