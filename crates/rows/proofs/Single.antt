-- A sequence of one word: its part of a row is that word alone, and no word comes after it to shift bits in.
use mathlib.Core.Bool.{Bool, true, false, not}
use mathlib.Core.List.{List, [], ◌∷◌}
use mathlib.Core.Path.{◌≡◌, refl, sym, ap, ◌∙◌}
use Prim.Native.Nat.{ℕ, zero, suc, ◌+◌, ◌-◌, ◌/◌, ◌^◌, ◌≤◌, ◌<◌}
use native.Mathlib.Nat.{zero-mul, zero-mod}
use native.Mathlib.Omega.{arith}
use lib.Bits.{bit_and, and_le_l, or_zero_r}
use lib.Dec.{eqb}
use lib.ListN.{length, take, get_or, set, length-set}
use lib.Seq.{drop-cons, take-set-le, get_or-set_same, lt-length-set}
use Rattle.rules.specs.Lists.{if, run}
use Rattle.rows.specs.Bits.{held}
use Rattle.rows.specs.Flags.{has_left}
use Rattle.rows.specs.Rows.{extended}
use Rattle.rows.specs.Set.{row_marks, words_of, first_word, between}
use Rattle.rows.specs.Words.{shifted_down, extended_word}
use Rattle.rows.proofs.Bits.{extended_row}
use Rattle.rows.proofs.Joined.{left_held}
use Rattle.rows.proofs.Sets.{first_none, first_next}

-- in a short set each sequence's word comes next after the one before it
pub short_first : (ns : List ℕ) → ((k : ℕ) → k < length ns → words_of (get_or ns k 0) ≡ 1) → (k : ℕ) → k ≤ length ns → first_word ns k ≡ row_marks + k
short_first ns s zero h = omega (arith, first_none ns)
short_first ns s (suc k) h =
    let z : suc k ≡ k + 1 = omega arith in
    rw z (omega (arith, short_first ns s k (omega arith), first_next ns k (omega arith), s k (omega arith)))

-- nothing comes in
pub down_alone : (i low : ℕ) → low / 2 ^ i ≡ shifted_down i low 0
unfolding shifted_down
down_alone i low = rw (zero-mul, zero-mod, or_zero_r)

pub one_word : (a e : ℕ) (l : List ℕ) → e - a ≡ 1 → a < length l → between a e l ≡ get_or l a 0 ∷ []
unfolding between
one_word a e l n h = rw (n, drop-cons l a 0 h)

one_fits : (w : ℕ) → w < 2 ^ 64 → (q : ℕ) → get_or (w ∷ []) q 0 < 2 ^ 64
one_fits w h zero = h
one_fits w h (suc q) = omega arith

kept_word : (i x w : ℕ) → i < 64 → x < 2 ^ 64 → held (bit_and w (shifted_down i x 0) ∷ []) ≡ extended i (held (x ∷ [])) (held (w ∷ []))
unfolding extended_word run
kept_word i x w s h = extended_row i s (x ∷ []) (one_fits x h) (w ∷ []) refl

left_word : (w : ℕ) → w < 2 ^ 64 → not (eqb w 0) ≡ has_left (held (w ∷ []))
unfolding has_left
left_word w h = sym (left_held (w ∷ []) (one_fits w h) ∙ elim (eqb w 0) as (λ b. if b false true ≡ not b) [ true ↦ refl | false ↦ refl ])

-- one letter more, as the code writes it
module _ (a e i : ℕ) (ls ws out : List ℕ) (n : e - a ≡ 1) (s : i < 64) (hl : e ≤ length ls) (hw : e ≤ length ws) (ho : e ≤ length out)
    (fl : get_or ls a 0 < 2 ^ 64) (fw : get_or ws a 0 < 2 ^ 64) where
  pub one_kept : {d : ℕ} {r : Bool} → d ≡ shifted_down i (get_or ls a 0) 0 → r ≡ not (eqb (bit_and (get_or ws a 0) d) 0)
      → ((take a (set out a (bit_and (get_or ws a 0) d)) ≡ take a out) × (length (set out a (bit_and (get_or ws a 0) d)) ≡ length out))
      × ((held (between a e (set out a (bit_and (get_or ws a 0) d))) ≡ extended i (held (between a e ls)) (held (between a e ws)))
      × (r ≡ has_left (extended i (held (between a e ls)) (held (between a e ws)))))
  one_kept {d} {r} z f =
      let v = bit_and (get_or ws a 0) d in
      let lo : a < length out = omega arith in
      let p : between a e (set out a v) ≡ v ∷ [] =
      one_word a e (set out a v) n (lt-length-set out a v lo) ∙ ap (λ (x : ℕ). x ∷ []) (get_or-set_same out a v 0 lo) in
      let q : held (v ∷ []) ≡ extended i (held (between a e ls)) (held (between a e ws)) =
      rw (one_word a e ls n (omega arith), one_word a e ws n (omega arith), z) (kept_word i (get_or ls a 0) (get_or ws a 0) s fl) in (
        (take-set-le a out a v (omega arith), length-set out a v),
        (ap held p ∙ q, f ∙ left_word v (omega (arith, and_le_l (get_or ws a 0) d)) ∙ ap has_left q),
      )

-- A ROW OF ONE WORD
pub alone : (l : List ℕ) → length l ≡ 1 → l ≡ get_or l 0 0 ∷ []
alone [] n = absurd (omega arith)
alone (w ∷ []) n = refl
alone (w ∷ v ∷ l) n = absurd (omega arith)

pub set_alone : (l : List ℕ) (v : ℕ) → length l ≡ 1 → set l 0 v ≡ v ∷ []
set_alone [] v n = absurd (omega arith)
set_alone (w ∷ []) v n = refl
set_alone (w ∷ u ∷ l) v n = absurd (omega arith)

-- with one letter more
pub alone_kept : (i : ℕ) (ls ws out : List ℕ) → length ls ≡ 1 → length ws ≡ 1 → length out ≡ 1 → i < 64 → get_or ls 0 0 < 2 ^ 64 → get_or ws 0 0 < 2 ^ 64
    → (held (set out 0 (bit_and (get_or ws 0 0) (get_or ls 0 0 / 2 ^ i))) ≡ extended i (held ls) (held ws))
    × (not (eqb (bit_and (get_or ws 0 0) (get_or ls 0 0 / 2 ^ i)) 0) ≡ has_left (held (set out 0 (bit_and (get_or ws 0 0) (get_or ls 0 0 / 2 ^ i)))))
alone_kept i ls ws out m n o s fl fw =
    let x = get_or ls 0 0 in
    let w = get_or ws 0 0 in
    let v = bit_and w (x / 2 ^ i) in
    let q : held (v ∷ []) ≡ extended i (held (x ∷ [])) (held (w ∷ [])) = rw (down_alone i x) (kept_word i x w s fl) in
    let a : held (set out 0 v) ≡ held (v ∷ []) = ap held (set_alone out v o) in (
      a ∙ q ∙ ap (λ (l : List ℕ). extended i (held l) (held (w ∷ []))) (sym (alone ls m)) ∙ ap (λ (l : List ℕ). extended i (held ls) (held l)) (sym (alone ws n)),
      left_word v (omega (arith, and_le_l w (x / 2 ^ i))) ∙ ap has_left (sym a),
    )
