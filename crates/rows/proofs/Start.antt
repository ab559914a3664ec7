-- The row that a search begins with: the marks of the first n sequences are set one by one, in words that were 0, and no other word changes.
use mathlib.Core.Bool.{Bool, true, false}
use mathlib.Core.List.{List, ◌++◌}
use mathlib.Core.Path.{◌≡◌, refl, sym, ap, ◌∙◌}
use Prim.Native.Nat.{ℕ, ◌+◌, ◌-◌, ◌*◌, ◌/◌, ◌%◌, ◌^◌, ◌≤◌, ◌<◌}
use native.Mathlib.Decide.{dec_lt}
use native.Mathlib.Omega.{arith}
use lib.Bits.{bit_or}
use lib.Dec.{eqb, ltb}
use lib.ListN.{length, take, drop, get_or, set, replicate, length-set, length-replicate, get_or-append, get_or-replicate}
use lib.Seq.{get_or-set_same, get_or-set_other, get_or-append-add, get_or-drop, length-take-le}
use borrow.Author.Tests.{lt-ltb, le-ltb}
use Rattle.rules.specs.Limits.{sequence_set_sequences}
use Rattle.rows.specs.Bits.{held}
use Rattle.rows.specs.Flags.{bit}
use Rattle.rows.specs.Set.{row_marks, is_marked, Marked}
use Rattle.rows.proofs.Bits.{held_at, digit_none}
use Rattle.rows.proofs.Digits.{digit}
use Rattle.rows.proofs.Held.{length_held, held_mark}
use Rattle.rows.proofs.LetterRow.{zero_word}

-- the marks of the first n sequences, in a row that was x
pub record Begun (n : ℕ) (x y : List ℕ) : Type 0 where
  pub marks : (j : ℕ) → j < sequence_set_sequences → get_or (held y) j 0 ≡ bit (ltb j n)
  pub past : (q : ℕ) → row_marks ≤ q → get_or y q 0 ≡ get_or x q 0

module _ (k : ℕ) (x y : List ℕ) (before : Begun k x y) (h : k < sequence_set_sequences) (long : row_marks ≤ length y) where
  one_more : held (set y (k / 64) (bit_or (get_or y (k / 64) 0) ((1 * 2 ^ (k % 64)) % 2 ^ 64))) ≡ set (held y) k 1
  one_more = held_mark y k (omega arith) (before.marks k h ∙ ap bit (le-ltb k k (omega arith))) true {v = 1} refl

  pub begun_long : length (set y (k / 64) (bit_or (get_or y (k / 64) 0) ((1 * 2 ^ (k % 64)) % 2 ^ 64))) ≡ length y
  begun_long = length-set y (k / 64) (bit_or (get_or y (k / 64) 0) ((1 * 2 ^ (k % 64)) % 2 ^ 64))

  pub begun_turn : Begun (k + 1) x (set y (k / 64) (bit_or (get_or y (k / 64) 0) ((1 * 2 ^ (k % 64)) % 2 ^ 64)))
  begun_turn = record {
    marks = λ j l. ap (λ (ks : List ℕ). get_or ks j 0) one_more
        ∙ elim (dec_lt j k) [
          | yes m ↦ (get_or-set_other (held y) k j 1 0 (λ z. omega arith) ∙ before.marks j l ∙ ap bit (lt-ltb j k m ∙ sym (lt-ltb j (k + 1) (omega arith))))
          | no m ↦ elim (dec_lt k j) [
            | yes u ↦ (get_or-set_other (held y) k j 1 0 (λ z. omega arith) ∙ before.marks j l ∙ ap bit (le-ltb j k (omega arith) ∙ sym (le-ltb j (k + 1) (omega arith))))
            | no u ↦ (let z : k ≡ j = omega arith in
                let r : k < length (held y) = rw (length_held y) (omega arith) in
                rw (← z) (get_or-set_same (held y) k 1 0 r ∙ sym (ap bit (lt-ltb k (k + 1) (omega arith)))))
          ]
        ];
    past = λ q l. get_or-set_other y (k / 64) q (bit_or (get_or y (k / 64) 0) ((1 * 2 ^ (k % 64)) % 2 ^ 64)) 0 (λ z. omega arith) ∙ before.past q l;
  }

pub begun_end : (k n : ℕ) (x y : List ℕ) → k ≡ n → Begun k x y → Marked (λ j. ltb j n) y sequence_set_sequences
unfolding is_marked
begun_end k n x y e q = record { same = λ j l. ap (λ (d : ℕ). eqb d 1) (q.marks j l) ∙ is_one (ltb j k) ∙ ap (ltb j) e }
  where
    is_one : (b : Bool) → eqb (bit b) 1 ≡ b
    is_one true = refl
    is_one false = refl

-- THE WORDS before the marks: all of them v, and then those of the marks 0
module _ (x : List ℕ) (v : ℕ) (long : row_marks ≤ length x) (y : List ℕ) (all : y ≡ replicate (length x) v) where
  pub all_long : length y ≡ length x
  all_long = ap length all ∙ length-replicate (length x) v

  pub marks_part : length (take row_marks y) ≡ row_marks
  marks_part = length-take-le row_marks y (omega (arith, all_long))

  module _ (z : List ℕ) (none : z ≡ replicate (length (take row_marks y)) 0) where
    none_is : z ≡ replicate row_marks 0
    none_is = none ∙ ap (λ (n : ℕ). replicate n 0) marks_part

    none_long : length z ≡ row_marks
    none_long = ap length none_is ∙ length-replicate {A = ℕ} row_marks 0

    cleared_word : (q : ℕ) → q < row_marks → get_or (z ++ drop row_marks y) q 0 ≡ 0
    cleared_word q h =
        let l : q < length z = omega (arith, none_long) in
        get_or-append z (drop row_marks y) 0 q l ∙ ap (λ (w : List ℕ). get_or w q 0) none_is ∙ zero_word row_marks q

    pub cleared_bits : (k : ℕ) → k < sequence_set_sequences → get_or (held (z ++ drop row_marks y)) k 0 ≡ 0
    cleared_bits k h = held_at (z ++ drop row_marks y) k ∙ ap (λ (w : ℕ). digit w (k % 64)) (cleared_word (k / 64) (omega arith)) ∙ digit_none (k % 64)

    pub cleared_past : (q : ℕ) → row_marks ≤ q → q < length x → get_or (z ++ drop row_marks y) q 0 ≡ v
    cleared_past q h l =
        let e : q ≡ length z + (q - row_marks) = omega (arith, none_long) in
        let m : row_marks + (q - row_marks) ≡ q = omega arith in
        ap (λ (p : ℕ). get_or (z ++ drop row_marks y) p 0) e ∙ get_or-append-add z (drop row_marks y) (q - row_marks) 0
        ∙ get_or-drop row_marks y (q - row_marks) 0 ∙ ap (λ (p : ℕ). get_or y p 0) m ∙ ap (λ (w : List ℕ). get_or w q 0) all ∙ get_or-replicate (length x) q v 0 l
