-- A word of marks written before the words of all sequences: it changes none of theirs, and the words of its sequences no earlier mark.
use mathlib.Core.Bool.{Bool, true}
use mathlib.Core.List.{List, [], ◌∷◌}
use mathlib.Core.Path.{◌≡◌, sym, ap, ◌∙◌}
use Prim.Native.Nat.{ℕ, ◌+◌, ◌-◌, ◌*◌, ◌/◌, ◌%◌, ◌^◌, ◌≤◌, ◌<◌, min}
use native.Mathlib.Decide.{dec_lt}
use native.Mathlib.Omega.{arith}
use lib.Count.{ones}
use lib.Dec.{eqb}
use lib.ListN.{length, take, drop, get_or, set, length-take}
use lib.Seq.{get_or-take, length-take-le, drop-set-lt, get_or-set_same, get_or-set_other}
use Rattle.rules.specs.Lists.{sum}
use Rattle.rows.specs.Bits.{held}
use Rattle.rows.specs.Set.{row_marks, words_of, first_word, between, bits_at, is_marked, Filled, Marked}
use Rattle.rows.proofs.Bits.{held_at, word_bit}
use Rattle.rows.proofs.Digits.{digit}
use Rattle.rows.proofs.Held.{held_step, held_end}
use Rattle.rows.proofs.Sets.{first_past, first_most, between_kept}

-- a word before those that may differ
pub same_word : (n : ℕ) (x y : List ℕ) → take n y ≡ take n x → (q : ℕ) → q < n → get_or y q 0 ≡ get_or x q 0
same_word n x y e q h = sym (get_or-take n y q 0 h) ∙ ap (λ (l : List ℕ). get_or l q 0) e ∙ get_or-take n x q 0 h

-- the words of a sequence lie past the marks
pub bits_past : (ns y : List ℕ) (w v k : ℕ) → w < row_marks → bits_at ns k (set y w v) ≡ bits_at ns k y
unfolding bits_at between
bits_past ns y w v k s =
    ap (λ (l : List ℕ). held (take (first_word ns k + words_of (get_or ns k 0) - first_word ns k) l)) (drop-set-lt (first_word ns k) y w v (omega (arith, first_past ns k)))

module _ (ns x y : List ℕ) (w v : ℕ) (s : w < row_marks) (stays : take (first_word ns (min (w * 64) (length ns))) y ≡ take (first_word ns (min (w * 64) (length ns))) x) where
  module _ (on : ℕ → Bool) (g : ℕ → List ℕ) (before : Filled on g ns x (min (w * 64) (length ns))) where
    pub filled_word : ((k : ℕ) → w * 64 ≤ k → k < w * 64 + 64 → on k ≡ true → bits_at ns k y ≡ g k) → Filled on g ns (set y w v) (min ((w + 1) * 64) (length ns))
    unfolding bits_at
    filled_word here = record {
      same = λ k h e. bits_past ns y w v k s
          ∙ elim (dec_lt k (w * 64)) [
            | yes l ↦ (ap held (between_kept (first_word ns (min (w * 64) (length ns))) (first_word ns k) (first_word ns k + words_of (get_or ns k 0)) x y (omega arith) (first_most ns k (min (w * 64) (length ns)) (omega arith) (omega arith)) stays)
                ∙ before.same k (omega arith) e)
            | no l ↦ here k (omega arith) (omega arith) e
          ];
    }

  module _ (h : ℕ → Bool) (before : Marked h x (w * 64)) (long : row_marks ≤ length y) where
    pub marked_word : ((b : ℕ) → b < 64 → eqb (get_or (held (v ∷ [])) b 0) 1 ≡ h (w * 64 + b)) → Marked h (set y w v) ((w + 1) * 64)
    unfolding is_marked
    marked_word here = record {
      same = λ k l. ap (λ (d : ℕ). eqb d 1) (held_at (set y w v) k)
          ∙ elim (dec_lt k (w * 64)) [
            | yes m ↦ (let o : get_or (set y w v) (k / 64) 0 ≡ get_or x (k / 64) 0 =
                get_or-set_other y w (k / 64) v 0 (λ z. omega arith) ∙ same_word (first_word ns (min (w * 64) (length ns))) x y stays (k / 64) (omega (arith, first_past ns (min (w * 64) (length ns)))) in
                ap (λ (d : ℕ). eqb d 1) (ap (λ (q : ℕ). digit q (k % 64)) o ∙ sym (held_at x k)) ∙ before.same k m)
            | no m ↦ (let z : k / 64 ≡ w = omega arith in
                let k' : w * 64 + k % 64 ≡ k = omega arith in
                let o : get_or (set y w v) (k / 64) 0 ≡ v = ap (λ (q : ℕ). get_or (set y w v) q 0) z ∙ get_or-set_same y w v 0 (omega arith) in
                ap (λ (d : ℕ). eqb d 1) (ap (λ (q : ℕ). digit q (k % 64)) o ∙ sym (word_bit v (k % 64) (omega arith))) ∙ here (k % 64) (omega arith) ∙ ap h k')
          ];
    }

pub marked_none : (h : ℕ → Bool) (x : List ℕ) → Marked h x 0
marked_none h x = record { same = λ k l. absurd (omega arith) }

-- a row has room for the marks, and so has each that is as long
module _ (ns : List ℕ) (k : ℕ) {a b n m : ℕ} (e : a ≡ b) (f : b ≡ n) (g : n ≡ m) (h : first_word ns k ≤ m) where
  pub marks_in : row_marks ≤ a
  marks_in = omega (arith, first_past ns k)

  pub mark_in : (w : ℕ) → w < row_marks → w < a
  mark_in w s = omega (arith, first_past ns k)

-- COUNTING the marks of the first n words
module _ (n : ℕ) (ws : List ℕ) (i : ℕ) where
  pub counted_step : i < n → n ≤ length ws → get_or ws i 0 < 2 ^ 64
      → sum (held (drop i (take n ws))) ≡ ones (get_or ws i 0) + sum (held (drop (i + 1) (take n ws)))
  counted_step h l s =
      let e : get_or (take n ws) i 0 ≡ get_or ws i 0 = get_or-take n ws i 0 h in
      let k : i < length (take n ws) = rw (length-take-le n ws l) h in
      held_step (take n ws) i k (rw e s) ∙ rw e

  pub counted_end : n ≤ i → sum (held (drop i (take n ws))) ≡ 0
  counted_end h = held_end (take n ws) i (rw (length-take n ws) (omega arith))
