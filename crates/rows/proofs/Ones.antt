-- One way for each place at which a row has a bit, written word by word: where a word is empty, whatever stands at its places is masked.
use mathlib.Core.List.{List, [], ◌∷◌, ◌++◌}
use mathlib.Core.Path.{◌≡◌, sym, ap, ◌∙◌}
use Prim.Native.Nat.{ℕ, ◌+◌, ◌-◌, ◌*◌, ◌/◌, ◌%◌, ◌≤◌, ◌<◌, min}
use native.Mathlib.Decide.{dec_lt}
use native.Mathlib.Omega.{arith}
use lib.ListN.{length, take, get_or, replicate, length-replicate, get_or-replicate, get_or-append}
use lib.Seq.{length-take-le, get_or-take, get_or-append-add}
use borrow.Rule.Slice.PartMut.{mid_of, post_of, put_mid, mid_len}
use Rattle.rows.specs.Bits.{held}
use Rattle.rows.specs.Flags.{masked_at, masked}
use Rattle.rows.proofs.Bits.{held_at, getd_held}
use Rattle.rows.proofs.LetterRow.{zero_bit}
use Rattle.rows.proofs.Masks.{length_masked, getd_masked, masked_off, masked_at_same, masked_same}

-- an empty word
pub none_kept : (word : ℕ) (vs ws : List ℕ) → word ≡ 0 → length vs ≡ length ws → masked (held (word ∷ [])) vs ≡ masked (held (word ∷ [])) ws
none_kept word vs ws e n =
    masked_same (held (word ∷ [])) vs ws n (λ o _.
    let z : get_or (held (word ∷ [])) o 0 ≡ 0 = rw e (zero_bit 1 o) in
    masked_off (held (word ∷ [])) vs o z ∙ sym (masked_off (held (word ∷ [])) ws o z))

-- A TURN, at the places from `from` up to `to`
module _ (row l : List ℕ) (q from : ℕ) {to : ℕ} (at : from ≡ 64 * q) (inside : from < length l) (e : to ≡ min (from + 64) (length l))
    (x : List ℕ) (long : length x ≡ length l) where
  pub part_length : length (mid_of from (to - from) x) ≡ to - from
  part_length = mid_len from to x (omega arith)

  module _ (ys : List ℕ)
      (ones : masked (held (get_or row q 0 ∷ [])) ys ≡ masked (held (get_or row q 0 ∷ [])) (replicate (length (mid_of from (to - from) x)) 1))
      (before : (p : ℕ) → p < min from (length l) → masked_at (held row) x p ≡ masked_at (held row) (replicate (length l) 1) p) where
    abbrev word : List ℕ
    word = held (get_or row q 0 ∷ [])

    abbrev y : List ℕ
    y = put_mid from (to - from) x ys

    written_length : length ys ≡ to - from
    written_length =
        sym (length_masked word ys) ∙ ap length ones ∙ length_masked word (replicate (length (mid_of from (to - from) x)) 1)
        ∙ length-replicate (length (mid_of from (to - from) x)) 1 ∙ part_length

    front_length : length (take from x) ≡ from
    front_length = length-take-le from x (omega arith)

    at_front : (p : ℕ) → p < from → get_or y p 0 ≡ get_or x p 0
    at_front p h = get_or-append (take from x) (ys ++ post_of from (to - from) x) 0 p (omega (arith, front_length)) ∙ get_or-take from x p 0 h

    at_word : (p : ℕ) → from ≤ p → p < to → get_or y p 0 ≡ get_or ys (p - from) 0
    at_word p h u =
        let z : p ≡ length (take from x) + (p - from) = omega (arith, front_length) in
        ap (λ (i : ℕ). get_or y i 0) z ∙ get_or-append-add (take from x) (ys ++ post_of from (to - from) x) (p - from) 0
        ∙ get_or-append ys (post_of from (to - from) x) 0 (p - from) (omega (arith, written_length))

    -- a bit of the row is one of its word
    word_bit : (p : ℕ) → from ≤ p → p < to → get_or word (p - from) 0 ≡ get_or (held row) p 0
    word_bit p h u =
        let z : 0 * 64 + (p - from) ≡ p - from = omega arith in
        let w : q ≡ p / 64 = omega arith in
        let b : p - from ≡ p % 64 = omega arith in
        rw z at (getd_held (get_or row q 0 ∷ []) 0 (p - from) (omega arith)) ∙ rw (w, b) (sym (held_at row p))

    here : (p : ℕ) → from ≤ p → p < to → masked_at (held row) y p ≡ masked_at (held row) (replicate (length l) 1) p
    unfolding masked_at
    here p h u =
        let n = length (mid_of from (to - from) x) in
        let a : ◌≡◌ {A = ℕ} (get_or (replicate n 1) (p - from) 0) 1 = get_or-replicate n (p - from) 1 0 (omega (arith, part_length)) in
        let b : ◌≡◌ {A = ℕ} (get_or (replicate (length l) 1) p 0) 1 = get_or-replicate (length l) p 1 0 (omega arith) in
        let w : masked_at word ys (p - from) ≡ masked_at word (replicate n 1) (p - from) =
        sym (getd_masked word ys (p - from)) ∙ ap (λ (z : List ℕ). get_or z (p - from) 0) ones ∙ getd_masked word (replicate n 1) (p - from) in
        rw (at_word p h u, ← (word_bit p h u)) (w ∙ rw (a, b))

    pub ones_turn : (p : ℕ) → p < min (from + 64) (length l) → masked_at (held row) y p ≡ masked_at (held row) (replicate (length l) 1) p
    ones_turn p h =
        elim (dec_lt p from) [
          | yes u ↦ (masked_at_same (held row) y x p (at_front p u) ∙ before p (omega arith))
          | no u ↦ here p (omega arith) (omega arith)
        ]
